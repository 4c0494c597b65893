pub mod Shifts
pub mod Sums
