-- What the crate's contracts cite, and its laws.
pub mod Meta
pub mod Sizes
pub mod Parts
pub mod Near
pub mod Says
pub mod Needs
