-- How many bytes the text of a mesh takes.
pub mod Sizes
