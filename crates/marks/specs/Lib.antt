-- Marks of relays, and their laws.
pub mod Marks
pub mod Laws
pub mod Noted
