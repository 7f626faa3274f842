-- To read first:
-- TypeRule.type_rule: the info of a type, or the first error of its variant; type_rule_with: the same where
-- arrays may have any stride or not
-- Surroundings.Surroundings: what the rule of a type depends on, besides the type
-- Checks.first_error_or: a value, unless one of a list of conditions is broken
-- FormFlags: what types of each variant may be used for at most
-- StructRule.struct_rule: the conditions of a struct and of its members, and what a struct may be used for
-- Layouts.uniform_layout_of, storage_layout_of: the layouts of a struct, or why it has none
-- AcceptedTypes.AreTypesAccepted: all types of a module are accepted, each by the infos of those before it
-- HostLayouts.HasStorageByLeaves, HasUniformByLeaves: when data that hosts may share has a layout,
-- by the alignments of its leaves
-- FlagsOfParts.MembersHaveFlags, IsConstructibleByMembers, IsConstructibleByElements: the flags of structs and arrays,
-- by the flags of their members and elements
-- HostLeaves.LeavesAreSeparate: the leaves of a type that hosts may share are aligned, end by its size, and share no
-- byte, and its layouts are multiples of their alignments
-- RuleResults.IsRuleResult: what a call returns by a rule, out of memory aside
-- Composing.compose_rule: whether a value of a type may be composed of components
-- ErrorNames.disalignment_name, varying_error_name, type_error_name, compose_error_name: the
-- name of each variant of an error
pub mod AcceptedTypes
pub mod Composing
pub mod ErrorNames
pub mod Exchange
pub mod FlagsOfParts
pub mod FormFlags
pub mod HostLayouts
pub mod HostLeaves
pub mod Infos
pub mod Checks
pub mod Layouts
pub mod RuleResults
pub mod StructRule
pub mod Surroundings
pub mod Texts
pub mod TypeMethods
pub mod TypeRule
pub mod steps
