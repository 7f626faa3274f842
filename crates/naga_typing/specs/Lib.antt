-- To read first, after the definitions of naga_ir:
-- Constants.index_of, override_count: the number that an expression gives, and the count that an override gives
-- Layout.size_of, alignment_of: the size and the alignment of a type, in bytes
-- Layout.layout_results, AreLayouts: which types have a layout, and what the layouts of a module are
-- Leaves.leaf_at, AreSeparate: where the leaves of a type are, and that they are aligned,
-- within the type, and share no byte
-- Index.IsLength: how many elements can be indexed
-- Kinds.kind_of, AreKinds: when the value of an expression is known
-- Resolutions.AreSameTypes: which types are the same
-- Resolutions.ResolutionExists, IsProperResolution: which types an expression may have
-- Typings.CanResolve, IsLawful: what a typing may rely on, and what it promises
-- Typings.IsPushResult: what is added to the types before, or why nothing is
-- Typings.AreResolved: what the types of a module's global expressions are
-- PlainTyping.plain_resolves: what `PlainTyping` resolves
-- FullTyping.full_resolves: what `FullTyping` resolves
-- Math.signature: what each mathematical function takes and returns, by `PlainTyping`
-- ErrorNames.resolve_error_name, layout_error_name, indexable_length_error_name, const_value_error_name: the
-- name of each variant of an error
pub mod Constants
pub mod Context
pub mod ErrorNames
pub mod FullLaws
pub mod FullTyping
pub mod Index
pub mod Kinds
pub mod Layout
pub mod Leaves
pub mod Math
pub mod PlainLaws
pub mod PlainTyping
pub mod Resolutions
pub mod Sameness
pub mod Typings
pub mod steps
