pub mod Answers
pub mod Contents
pub mod Intervals
pub mod Memories
pub mod Scripts
pub mod Totals
pub mod Wishes
