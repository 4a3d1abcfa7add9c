pub mod Assignment
pub mod Table
pub mod Settling
