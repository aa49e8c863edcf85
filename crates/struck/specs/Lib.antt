-- What failures strike of a set of paths, and the laws of its marks.
pub mod Struck
pub mod Laws
