-- What only private functions require of one another, and promise.
pub mod Clamps
pub mod KnownResources
