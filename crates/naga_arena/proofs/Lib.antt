pub mod Elements
pub mod InOrder
pub mod Progress
