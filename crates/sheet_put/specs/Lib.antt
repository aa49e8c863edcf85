-- The paths of a sheet written.
pub mod Needs
pub mod Total
pub mod Putting
pub mod Stray
