-- A lent index searched and moved.
pub mod Place
pub mod Moved
