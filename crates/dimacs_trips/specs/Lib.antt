-- Which files are read as a mesh.
pub mod Once
pub mod Edges
pub mod Count
pub mod Texts
pub mod Spelt
pub mod Trips
