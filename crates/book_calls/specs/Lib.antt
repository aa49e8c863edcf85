-- Why the routines of a book tell and leave what they should.
pub mod Cases
pub mod Puts
