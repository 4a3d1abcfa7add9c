pub mod Operand
pub mod Classes
pub mod Placing
pub mod Sharing
pub mod Counts
