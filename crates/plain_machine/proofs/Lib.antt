pub mod Transactions
pub mod Acting
pub mod Accepts
pub mod Stands
pub mod PlainEach
pub mod Kept
