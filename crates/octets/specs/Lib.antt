-- Numbers as bytes, and the loops and calls that read and write them.
pub mod Big
pub mod Turns
