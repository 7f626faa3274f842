pub mod Acceptance
pub mod Covered
pub mod ShownLaws
