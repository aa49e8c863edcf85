-- Sheets: the format, why one is refused, and laws of both.
pub mod Format
pub mod Says
pub mod Flaws
pub mod Pieces
pub mod Lengths
pub mod Lent
pub mod Laid
pub mod Most
pub mod Judging
pub mod Cases
