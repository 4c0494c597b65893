pub mod Listing
pub mod Places
pub mod Reading
pub mod WrittenHex
