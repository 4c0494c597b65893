pub mod Cells
pub mod Changes
pub mod Laws
pub mod Memories
pub mod Numbers
pub mod Overlay
pub mod Stores
