-- Runs of numbers searched and counted: the definitions and their laws.
pub mod Scan
pub mod Laws
pub mod Counts
pub mod Hits
pub mod Runs
