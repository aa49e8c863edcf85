-- Sheets moved between versions: what a move promises, why it keeps it, and both ways round.
pub mod Says
pub mod Needs
pub mod Moving
pub mod Unique
pub mod Back
