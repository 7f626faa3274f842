-- What only private functions promise one another.
pub mod LineForms
pub mod Lines
pub mod SoFar
