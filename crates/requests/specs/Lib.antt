-- A request's faults, and what a planner promises of one.
pub mod Facts
pub mod Ways
pub mod Request
pub mod Sound
pub mod Planned
