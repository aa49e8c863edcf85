-- The kinds of mesh, and what is told over all of them.
pub mod Kinds
pub mod Shaped
pub mod Says
pub mod Laws
pub mod Limits
pub mod Plain
pub mod Metric
pub mod Requests
pub mod Unique
