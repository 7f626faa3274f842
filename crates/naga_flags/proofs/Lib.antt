pub mod HasLemmas
pub mod MoreWidths
mod WorkedBits
