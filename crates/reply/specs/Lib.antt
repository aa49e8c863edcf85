-- A request line answered by the text of a fan, or of a refusal.
pub mod Says
pub mod Sizes
pub mod Laws
pub mod Lines
pub mod Unique
