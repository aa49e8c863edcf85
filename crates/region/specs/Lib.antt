-- What the region host's two calls promise, and why they keep it.
pub mod Says
pub mod Needs
pub mod Stepping
pub mod Planning
pub mod Unique
pub mod Trips
