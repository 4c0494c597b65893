mod Cores
mod Effects
mod Follow
mod Intervals
mod OneKind
mod Responding
mod Runs
mod Theorems
