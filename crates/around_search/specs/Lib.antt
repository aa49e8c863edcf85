-- What the search for a way round promises, and why it keeps its promise.
pub mod Avoid
pub mod Labels
pub mod Room
pub mod Search
pub mod Trace
