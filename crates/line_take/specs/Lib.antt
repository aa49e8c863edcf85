-- The parts of a request line, as they are taken.
pub mod Reads
