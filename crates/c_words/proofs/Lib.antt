pub mod FoundLemmas
pub mod CloserLemmas
mod Examples
pub mod NameLemmas
pub mod PragmaLemmas
