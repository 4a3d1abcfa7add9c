pub mod CutLemmas
pub mod MemberLemmas
pub mod CutLaws
pub mod CommonLaws
mod Examples
