pub mod Door
