-- The worked cases, those of failures, and the order of the refusals, proved from the definitions.
pub mod Cases
pub mod Orders
pub mod Failing
