-- What lines read, write, name, use and access, by hand from each instruction's description.
mod Arithmetic
mod Atomics
mod Bits
mod Moves
mod Strings
pub mod Told
