-- Sheets written: what the writer promises, and why it keeps it.
pub mod Says
pub mod Needs
pub mod Heads
pub mod PutSheet
pub mod Writing
pub mod Unique
