pub mod Framed
pub mod Judged
pub mod Proven
pub mod Readable
pub mod Stages
