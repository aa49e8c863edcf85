-- What becomes of a number that arrives: the rules at a record, the rules over the history, and that they are the same.
pub mod Says
pub mod Laws
pub mod Marks
pub mod History
pub mod Moments
pub mod Follows
pub mod Whole
pub mod Worked
