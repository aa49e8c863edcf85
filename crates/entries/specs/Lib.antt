-- What survivors over a list of entries promises, and why it keeps it.
pub mod Says
pub mod Gathered
pub mod Needs
pub mod Filling
pub mod Laws
pub mod Unique
