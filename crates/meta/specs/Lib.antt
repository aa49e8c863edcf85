-- What the crate's contracts cite, and its laws.
pub mod Cycle
pub mod Next
pub mod Says
pub mod Needs
pub mod Far
pub mod Unique
pub mod Cases
