-- The two-level planner: what its parts give, and how they make a fan.
pub mod Draft
pub mod Legs
pub mod TakenLeg
pub mod Path
pub mod Heads
pub mod Filled
pub mod Paths
pub mod Whole
pub mod Draws
pub mod General
