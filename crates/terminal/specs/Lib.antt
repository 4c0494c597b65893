pub mod Calls
pub mod Numbers
pub mod Relations
pub mod Responses
pub mod Terminals
pub mod Theorems
