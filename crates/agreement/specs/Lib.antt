pub mod Follows
pub mod Levels
pub mod Agrees
pub mod Phys
pub mod Cases
pub mod Demand3
pub mod Foreign
pub mod Exchange
