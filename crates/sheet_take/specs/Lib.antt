-- The paths of a sheet looked through and taken out.
pub mod Says
pub mod Needs
pub mod Looking
pub mod Running
pub mod Along
pub mod Taking
pub mod Zoning
