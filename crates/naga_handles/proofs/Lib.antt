pub mod AcceptedHandles
mod CheckLemmas
mod Comments
mod FailedChecks
pub mod WaitingLemmas
pub mod GrowingOrder
mod HandleVerdict
mod ListItems
pub mod OrderFaults
pub mod OrderLemmas
mod PassedChecks
mod PassedPrefix
pub mod PlacesBefore
pub mod RankLemmas
mod ReferenceLists
pub mod VisitLemmas
mod WorkedTable
