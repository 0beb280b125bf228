pub mod Plain
pub mod Transact
