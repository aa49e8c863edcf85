-- An answer written: why the writer keeps its promise.
pub mod Rooms
