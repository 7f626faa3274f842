-- What only private functions promise one another.
pub mod HasLeaves
pub mod NextLeaf
pub mod Parts
pub mod Steps
