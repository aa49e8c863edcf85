-- The program's buffers.
pub mod Buffers
