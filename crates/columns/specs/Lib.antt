-- What the columns of the paths hold, what the functions that fill them ask, and their laws.
pub mod Says
pub mod Needs
pub mod Laws
