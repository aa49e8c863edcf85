-- A request line and an answer as text, and how the one is read.
pub mod Text
pub mod Parse
pub mod Lines
pub mod Listed
pub mod Says
pub mod Written
pub mod Unique
