pub mod Spellings
pub mod File
pub mod Pragma
pub mod Words
