-- Sheets read into lent slices: what the reader promises, and why it keeps it.
pub mod Says
pub mod Filling
pub mod Zoned
pub mod Unique
pub mod Numbers
