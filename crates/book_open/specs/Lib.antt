-- A book opened again.
pub mod Needs
pub mod Pieces
pub mod Enters
pub mod Opens
pub mod Keeps
pub mod Restart
