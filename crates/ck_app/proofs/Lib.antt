mod CommandLaws
mod Examples
mod FilesLaws
mod FramedLaws
mod JudgementLaws
mod PageLaws
mod PrintLaws
mod RunLaws
mod Unique
mod WordLaws
pub mod SmallLaws
pub mod WrittenLaws
