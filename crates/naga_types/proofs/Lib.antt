pub mod ByLeaves
pub mod CommonFlags
mod ComposeLemmas
mod FirstLemmas
pub mod GreatestLemmas
pub mod HostAlignments
pub mod HostForms
pub mod HostInside
pub mod HostLaws
pub mod HostLeaves
pub mod CheckedTypes
mod CheckLemmas
mod Columns
pub mod KeptConditions
pub mod LayoutParts
pub mod LeafPlaces
pub mod MoreCapabilities
pub mod OverrideValues
mod PartsBefore
pub mod PowersDivide
pub mod SharedParts
mod SourceLemmas
pub mod StorageLayouts
pub mod StorageOfUniform
pub mod Strides
pub mod StructFlags
pub mod StructPlaces
pub mod UniformLayouts
pub mod UniformParts
pub mod WeakerConditions
mod WorkedFlags
mod WorkedLeaves
