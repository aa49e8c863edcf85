-- Books of sheets.
pub mod Types
pub mod Ordered
pub mod Pieces
pub mod Sheets
pub mod Stands
pub mod Removed
pub mod Closed
pub mod Searched
pub mod Told
pub mod Says
pub mod Plain
pub mod Held
pub mod Steps
pub mod Follows
pub mod Open
