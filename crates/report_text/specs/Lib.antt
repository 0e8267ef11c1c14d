pub mod Texts
pub mod Report
pub mod PlanTexts
