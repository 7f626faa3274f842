pub mod FirstError
pub mod Handles
pub mod ListLaws
pub mod ModuleItems
pub mod OneMore
pub mod Origins
pub mod PartLemmas
pub mod Powers
pub mod ReferencesOfItems
pub mod SameInner
pub mod SameType
pub mod StatementLemmas
pub mod TypePaths
pub mod WorkedModules
mod HashLaws
