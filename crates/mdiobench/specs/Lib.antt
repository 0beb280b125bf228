pub mod Input
pub mod Line
pub mod Tray
pub mod Drawing
