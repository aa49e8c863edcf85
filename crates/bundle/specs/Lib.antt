-- What the planner over bundles promises and asks, and why it keeps its promise.
pub mod Says
pub mod Needs
pub mod Ends
pub mod Closing
pub mod Laying
pub mod Steps
pub mod Survive
