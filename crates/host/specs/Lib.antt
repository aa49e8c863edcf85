-- What the calls for C and C++ promise.
pub mod Says
pub mod Laws
pub mod Unique
pub mod Ways
pub mod Graphs
