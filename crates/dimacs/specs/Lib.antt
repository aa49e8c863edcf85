-- A mesh as a DIMACS edge file: its text, how a file is read, and what one comes to.
pub mod Text
pub mod Parse
pub mod Says
pub mod Needs
pub mod Edges
pub mod Lines
pub mod Rows
pub mod Pieces
