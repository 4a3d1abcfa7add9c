pub mod LastOf
pub mod LastSeen
pub mod Places
pub mod HeadLaws
pub mod Chains
mod Examples
