-- The laws of the next hop and of the plain route.
pub mod Crossing
pub mod Ordered
pub mod Rank
pub mod Once
pub mod Turns
