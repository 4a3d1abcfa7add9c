pub mod Seen
pub mod Head
pub mod Chain
