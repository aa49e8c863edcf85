-- Decimal numerals as text: what they are, and how one is read.
pub mod Digits
pub mod Number
pub mod Read
pub mod Write
