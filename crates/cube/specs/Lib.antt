-- What the crate's contracts cite, and its laws.
pub mod Cube
pub mod Route
pub mod Says
pub mod Links
pub mod Routes
pub mod Once
pub mod Sizes
pub mod Ways
pub mod Half
pub mod Unique
