-- To read first:
-- Statuses.code, Returns: the numbers of what calls return
-- Options.subject_of: the settings in force, of options and of what comes with a module
-- Subjects.IsSubjectOfWords, IsSubjectOfText: what is read, or why nothing is
-- Calls.OfWords, OfText: what a call on words or a text ends with, whatever it is asked; IsNotAccepted: the same of a
-- module
-- Types.ChecksTypes, Functions.ChecksFunctions, Declarations.ChecksDeclarations, Leaves.ChecksLeaves, Slots.ChecksSlots:
-- what calls write of a module
-- Accepted.IsAccepted, OpenModules.Opens, OfOpenModule: a module that is opened, and what calls on it end with
-- Text.IsReported: what the call for a report leaves with its caller
-- ErrorText.error_text: the text of what an outcome tells
-- Verdicts, Refusals, Codes, Values, and with Declaration before their names: what calls write of a module that can't be
-- read, or that is refused
pub mod Accepted
pub mod Buffers
pub mod Calls
pub mod Codes
pub mod DeclarationCodes
pub mod DeclarationRefusals
pub mod DeclarationValues
pub mod Declarations
pub mod ErrorText
pub mod Functions
pub mod Kinds
pub mod LeafCounts
pub mod Leaves
pub mod Numbers
pub mod OpenModules
pub mod Options
pub mod Refusals
pub mod Slots
pub mod Statuses
pub mod Subjects
pub mod Text
pub mod Types
pub mod Values
pub mod Verdicts
pub mod steps
