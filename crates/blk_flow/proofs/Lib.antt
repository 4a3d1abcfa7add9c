pub mod GraphLaws
