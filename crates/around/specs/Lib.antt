-- What the way round promises, and why it keeps its promise.
pub mod Says
pub mod Held
pub mod Needs
pub mod Unique
pub mod Whole
