-- The ring of eight relays.
pub mod Way
pub mod Sides
