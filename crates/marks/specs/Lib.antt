pub mod Marks
pub mod Relations
