pub mod Outcome
pub mod Events
pub mod Happened
pub mod Parts
