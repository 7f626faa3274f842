pub mod KindLaws
mod KnownOperands
pub mod MoreCapabilities
mod Operands
pub mod OverrideValues
