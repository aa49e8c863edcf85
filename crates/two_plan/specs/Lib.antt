-- The two-level planner's steps, and case H.
pub mod Home
pub mod Sound
pub mod Steps
pub mod Cases
