mod Names
mod SplitLines
mod Turns
