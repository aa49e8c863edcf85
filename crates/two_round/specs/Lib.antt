-- The round trip.
pub mod Around
pub mod Found
pub mod Trip
pub mod Paths
pub mod Going
