-- What only private functions promise one another.
pub mod AllFunctions
pub mod Functions
pub mod Ids
pub mod Interfaces
pub mod KnownValues
