-- What the crate's contracts cite, and its laws.
pub mod Next
pub mod Ordered
pub mod Steps
pub mod Turns
pub mod Says
pub mod Needs
pub mod Cases
pub mod Unique
