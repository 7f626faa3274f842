-- What only private functions promise one another.
pub mod Index
pub mod Layout
pub mod Math
