-- The definitions on worked examples. Expected values are worked out by hand from the instruction's description.
mod Bytes
mod Changing
mod Companies
mod Entries
mod Interfaces
mod Machines
mod Names
mod Numbers
mod Pieces
mod Placements
mod Readings
mod Rows
mod Runs
mod Shapes
mod Steps
mod Values
