pub mod InterfaceLemmas
pub mod ListLemmas
pub mod OperandLemmas
pub mod RangeLemmas
pub mod ReadLemmas
pub mod RegisterLemmas
pub mod StatedLemmas
pub mod SymbolLemmas
pub mod WellFormedLemmas
mod Letters
