-- What the planner over every kind asks and promises, and why it keeps it.
pub mod Needs
pub mod Laying
pub mod Steps
pub mod Survive
