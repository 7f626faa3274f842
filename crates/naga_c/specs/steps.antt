-- What only private functions promise one another.
pub mod Accepting
pub mod LeafCounts
pub mod Leaves
pub mod Subjects
pub mod Verdicts
