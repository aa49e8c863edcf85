-- That the tables' entries are distances, and the laws of distance.
pub mod Tested
pub mod Moved
pub mod Metric
pub mod Cases
