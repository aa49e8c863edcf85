-- The line that names a mesh.
pub mod Names
