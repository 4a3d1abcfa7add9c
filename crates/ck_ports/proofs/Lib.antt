mod Counts
mod Session
mod Written
mod Writing
