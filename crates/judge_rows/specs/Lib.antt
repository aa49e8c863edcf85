-- The rules that code has, what the search of a path asks of its callers, and its laws.
pub mod Rules
pub mod Needs
pub mod Laws
pub mod Looked
