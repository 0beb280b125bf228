pub mod Lengths
pub mod Drawings
pub mod Refusals
pub mod Printed
