pub mod Frames
pub mod Records
pub mod Listening
pub mod Parts
pub mod ReadBack
