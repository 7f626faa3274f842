pub mod CanResolve
pub mod Existence
pub mod ExpressionTypes
pub mod FormOperands
pub mod GreatestAlignment
pub mod InOrder
pub mod TypesInside
pub mod Iteration
pub mod ExpressionKinds
pub mod LayoutPass
pub mod Layouts
pub mod LeafAlignments
pub mod LeafLemmas
pub mod Lengths
pub mod MathOperands
pub mod Pointers
pub mod Powers
pub mod Resolutions
mod Sameness
mod WorkedLeaves
