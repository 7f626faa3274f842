pub mod AppendedBytes
pub mod ReadBytes
pub mod TypeLines
