mod Examples
pub mod Words
pub mod RowLemmas
pub mod Paths
pub mod SolvingLemmas
pub mod WorkLemmas
