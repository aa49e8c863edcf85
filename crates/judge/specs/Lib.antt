-- The judge's verdicts, the laws of its search, and what a verdict means.
pub mod Says
pub mod Asked
pub mod Needs
pub mod Looks
pub mod Search
pub mod Unique
pub mod Numbers
pub mod Judged
pub mod Leaned
pub mod Alike
