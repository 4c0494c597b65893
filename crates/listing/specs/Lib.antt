pub mod Digits
pub mod Faults
pub mod Hex
pub mod Lines
pub mod Reader
