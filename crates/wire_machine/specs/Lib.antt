pub mod Log
pub mod Run
pub mod Lines
pub mod Common
pub mod Clocks
