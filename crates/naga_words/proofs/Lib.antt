pub mod AllLaws
pub mod Counts
pub mod ItemLaws
pub mod ModuleLaws
pub mod ReaderLaws
pub mod Unreadable
pub mod Written
