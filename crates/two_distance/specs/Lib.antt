-- What the crate's contracts cite, the tables, and that they keep the rule of distances.
pub mod Rule
pub mod Tables
pub mod Tested
pub mod Says
pub mod Moved
pub mod Cases
