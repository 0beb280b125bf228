pub mod Wire
pub mod Follower
pub mod Machines
