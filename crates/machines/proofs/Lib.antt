pub mod SoundBoards
pub mod RunParts
pub mod PartsAccepted
