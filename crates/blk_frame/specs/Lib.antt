pub mod World
pub mod Matches
pub mod Shown
pub mod Lines
pub mod Laws
pub mod Accepted
pub mod Stores
