-- The laws that rest on how long a path may be: the fan of a plan.
pub mod Plan
pub mod Roles
