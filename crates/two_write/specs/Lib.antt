-- Paths of the two-level mesh written into a slice, piece by piece.
pub mod Walked
pub mod Row
pub mod Blocks
pub mod Slots
pub mod Rows
