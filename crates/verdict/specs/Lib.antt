pub mod Bits
pub mod Lists
pub mod Refusal
pub mod File
pub mod Output
