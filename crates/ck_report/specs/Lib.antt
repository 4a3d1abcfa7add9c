pub mod PatchReport
pub mod Place
pub mod Report
