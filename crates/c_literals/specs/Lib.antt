pub mod Raws
pub mod Digits
pub mod Escapes
pub mod Literals
pub mod Suffixes
pub mod Integers
