-- The lines of a graph file as code takes them.
pub mod Takes
