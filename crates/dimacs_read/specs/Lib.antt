-- A graph file read: what the reader's functions owe.
pub mod Forms
pub mod Turns
