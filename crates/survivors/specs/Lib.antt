-- What survivors tells and leaves, and what it means.
pub mod Tally
pub mod Says
pub mod Laws
pub mod Unique
pub mod Survive
pub mod Zones
