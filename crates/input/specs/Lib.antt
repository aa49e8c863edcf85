-- What came of standard input, and its buffers.
pub mod Says
pub mod Buffers
