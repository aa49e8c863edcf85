-- Sheets checked: what the check of a sheet promises, and why it keeps it.
pub mod Says
pub mod Needs
pub mod Told
pub mod Judged
pub mod Heads
pub mod Bodied
pub mod Checking
pub mod Spoiled
pub mod Unique
