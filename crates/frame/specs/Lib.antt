pub mod Frame
pub mod List
pub mod Steps
pub mod Log
pub mod Parts
pub mod Answers
