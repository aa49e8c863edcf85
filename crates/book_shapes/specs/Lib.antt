-- What the structs of a book that C is given say.
pub mod Shapes
