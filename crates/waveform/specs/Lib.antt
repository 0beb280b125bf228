pub mod Text
pub mod Signals
pub mod Waveform
pub mod Passes
