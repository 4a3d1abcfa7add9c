pub mod RawLemmas
pub mod NumberLemmas
pub mod EscapeLemmas
pub mod LiteralLemmas
pub mod LengthLemmas
pub mod IntegerLemmas
pub mod ConstantLemmas
pub mod Examples
