-- A mesh written as a DIMACS edge file: what the writer's functions owe.
pub mod Writes
