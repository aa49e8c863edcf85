-- The laws of a relay's links.
pub mod NearLaws
