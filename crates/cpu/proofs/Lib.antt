mod Lines
mod Runs
mod Turns
