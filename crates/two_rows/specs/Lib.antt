-- A cube fan in the rows of a grid.
pub mod Rows
