-- The targets sorted: the contracts of the planner's choices, and their laws.
pub mod Masks
pub mod Choice
pub mod Doors
pub mod Chosen
