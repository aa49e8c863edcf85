-- The block path through the door p0, where it ends in a crowd.
pub mod Over
pub mod Tail
pub mod TakeOver
