pub mod Boxes
pub mod Entries
pub mod Linear
pub mod Mixing
