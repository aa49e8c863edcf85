-- A request line read: why the reader keeps its promise.
pub mod Reads
pub mod Copies
pub mod Asks
