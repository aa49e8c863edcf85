-- What the structs that C is given say.
pub mod Shapes
