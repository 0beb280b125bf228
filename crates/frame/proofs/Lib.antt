pub mod Laws
pub mod Lists
pub mod Positions
