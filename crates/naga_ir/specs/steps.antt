-- What only private functions promise one another.
pub mod HashLaws
pub mod OperandForms
pub mod OwnReferences
pub mod StatementParts
pub mod TypePaths
