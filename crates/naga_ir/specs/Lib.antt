-- To read first:
-- Parts.parts, size_override: the types that a type names, and the override that sizes it
-- TypeWords.scalar_of: the type of the components of a scalar, vector or matrix
-- Sizes.components, vector_alignment: the number of components of a vector, and their alignment
-- Distinct.AllDistinct: no two items of a list are equal
-- References.operands, named_type, named_item: what an expression refers to
-- Origins.origin: where an expression has its value from
-- Statements.block_references: what a block refers to, at any depth
-- ItemReferences.function_references, global_references, other_references: what all other items refer to
-- Handles.EverythingExists: no reference of a module is dangling
-- Handles.OrderedInModule, ReferencesPrecede: which references have to go back, and that they do
-- Handles.SizesResolveFirst: no expression that sizes a type names that type or a later one, and none before it does
-- Handles.HandlesAccepted: EverythingExists, ReferencesPrecede and SizesResolveFirst of a module
-- Handles.GlobalReferencesOk: references among types, constants, overrides and global expressions exist and go back
-- Handles.ExpressionReferencesOk: the references of a function's arguments and expressions are right
-- Handles.FunctionReferencesOk: besides these, the types of a function's variables exist
-- Ranks.rank_of_type, rank_of_expression: the index of a type or a global expression in the order of visits
pub mod BuiltIns
pub mod Distinct
pub mod FirstError
pub mod Handles
pub mod ItemReferences
pub mod Literals
pub mod OnlyTypes
pub mod Operands
pub mod Origins
pub mod Parts
pub mod Ranks
pub mod References
pub mod Sizes
pub mod Statements
pub mod StorageFormats
pub mod TypeWords
pub mod steps
