-- The laws of the next hop and of the plain route.
pub mod Cycle
pub mod Turns
pub mod Ranks
pub mod Once
pub mod Walks
