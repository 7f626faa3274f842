-- What only private functions promise one another.
pub mod Places
pub mod Searched
