pub mod Registers
pub mod Record
pub mod Check
pub mod Outcome
pub mod Load
pub mod Events
pub mod Typed
