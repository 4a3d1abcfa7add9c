mod ReadingExamples
pub mod AddressAsWritten
pub mod AddressLemmas
pub mod BelowLemmas
pub mod ChosenLemmas
pub mod CutLemmas
pub mod ElementLemmas
pub mod FactLemmas
pub mod LabelLemmas
pub mod LineLemmas
pub mod NamedLemmas
pub mod Names
pub mod NumberLemmas
pub mod OperandLemmas
pub mod ReaderLemmas
pub mod RunsAsWritten
pub mod SeenLemmas
pub mod TextLemmas
