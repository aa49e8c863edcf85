-- The round trips: what is written is read back, and what is read is written back.
pub mod There
pub mod Fits
pub mod Accepted
pub mod Again
pub mod Zones
pub mod TripsRead
pub mod TripsWrite
pub mod Trips
