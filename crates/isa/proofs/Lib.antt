pub mod HexText
pub mod RoundTrip
pub mod Rows
