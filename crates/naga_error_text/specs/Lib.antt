-- To read first:
-- Writing.overwritten: what a text leaves in a buffer that may be too short for it
-- Texts.refusal_text, chain_text: the text of a refusal, with the texts of its errors
-- Errors.error_of, cause_of, values_within: the error of a number, what the one within it is one of, and its values
-- Stages, ModuleErrors, TypeErrors, ExpressionErrors, DeclarationErrors, Causes: the number of each error, and what its
-- text says
-- Classes.image_class, Spaces.space_text, Flags.flags_text: the text of a class of images, of an address space, and of a
-- set of flags of types
-- Names.named: the names of what numbers stand for
pub mod Causes
pub mod Classes
pub mod DeclarationErrors
pub mod Errors
pub mod ExpressionErrors
pub mod Flags
pub mod ModuleErrors
pub mod Names
pub mod Numbers
pub mod Spaces
pub mod Stages
pub mod Texts
pub mod TypeErrors
pub mod Writing
pub mod steps
