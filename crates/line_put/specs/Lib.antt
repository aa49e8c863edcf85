-- The pieces of an answer written.
pub mod Writes
