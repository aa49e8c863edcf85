-- What the crate's contracts cite, and its laws.
pub mod Two
pub mod Seen
pub mod Digits
pub mod Parts
pub mod Groups
pub mod Links
pub mod Near
pub mod Moves
pub mod Says
pub mod Needs
