pub mod Bits
pub mod Checks
pub mod Elements
pub mod Faults
pub mod Lists
pub mod Outputs
