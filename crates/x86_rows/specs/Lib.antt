pub mod Control
pub mod LineRow
pub mod Purpose
pub mod Entered
