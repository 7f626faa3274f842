-- What only private functions cite.
pub mod BindingSets
pub mod KnownFunctions
pub mod VaryingContexts
