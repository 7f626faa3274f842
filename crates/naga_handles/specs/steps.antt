-- What only private functions promise one another.
pub mod Checks
pub mod ItemChecks
pub mod OtherItems
pub mod VisitState
