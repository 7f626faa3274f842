-- To read first, after the definitions of naga_ir:
-- Faults.IsHandleFault, IsFault: what may be wrong with the handles of a module, by the error that says so
-- Faults.NeedsMemory: when the pass may request memory
-- Order.CanBeOrdered: when types and global expressions can be visited
-- Order.IsOrder, RanksFall: in which order, and that each follows what it needs
-- ErrorNames.handle_error_name, validation_fault_name: the name of each variant of an error
pub mod ErrorNames
pub mod Faults
pub mod Order
pub mod steps
