-- What only private functions promise one another.
pub mod Components
pub mod KnownTypes
pub mod Structs
