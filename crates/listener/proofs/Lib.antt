pub mod Frames
pub mod Clocks
pub mod Whole
pub mod Heard
pub mod Laws
pub mod FrameWords
pub mod Transactions
pub mod ReadBack
