pub mod SlotBits
pub mod SlotLeaves
pub mod SlotParts
pub mod SlotRuns
pub mod SlotSets
pub mod SlotTexts
mod WorkedText
