pub mod Appended
pub mod Bounds
pub mod Halving
pub mod Naming
pub mod Pointers
pub mod SelfRows
pub mod Values
pub mod Words
