-- To read first:
-- Memory.UnlessOutOfMemory: unless memory was refused, a value is as one rule says, and an error as another
-- Results.IsResultOf: a call returns what a rule says, or that memory was refused
-- Results.IsFirstError: the first item of a list that isn't accepted has this error
-- InOrder.AllAcceptedInOrder, IsFirstErrorInOrder: all items are accepted, or the first that isn't, if each is
-- validated by the values of those before it
-- Existence.IsGoodRange: a range is within a list
pub mod Existence
pub mod InOrder
pub mod Memory
pub mod Numbers
pub mod Results
pub mod Span
pub mod WithRoom
