pub mod Machines
pub mod Values
