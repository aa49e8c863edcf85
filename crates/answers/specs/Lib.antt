-- What comes back, and when: the numbers and places of the answers, and the order of the refusals.
pub mod Told
pub mod Order
pub mod Laws
pub mod Pairs
