pub mod Sets
pub mod Tables
pub mod Placing
pub mod Joining
pub mod Narrowing
pub mod Trying
pub mod FewGroups
pub mod OneChoice
