pub mod Lawful
pub mod Pairs
pub mod ReadBack
pub mod Splitting
pub mod Trails
pub mod Values
pub mod WrittenHex
pub mod WrittenWords
