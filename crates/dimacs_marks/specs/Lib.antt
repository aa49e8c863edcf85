-- The links of a mesh marked one by one.
pub mod Marks
