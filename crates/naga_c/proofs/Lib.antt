pub mod AcceptedLaws
pub mod CallLaws
pub mod CountLaws
pub mod CursorLaws
mod DeclarationLaws
pub mod Fronts
pub mod LeafCountLaws
pub mod LeafLaws
pub mod LimitLaws
pub mod OpenModuleLaws
pub mod OpenModuleValues
pub mod RowLaws
pub mod SlotLaws
pub mod StageLaws
pub mod SubjectLaws
