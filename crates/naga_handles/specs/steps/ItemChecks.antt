-- The checks of a module's references, except those of types and global expressions, in their order.
use Rattle.std.specs.Prelude.{◌≡◌, ℕ, ◌<◌, List, ◌++◌, map, Option, Some, None, Result, MatchResult, ◌≤◌, ◌⊎◌, codes, length, slice_get, option_to_list}
use Rattle.std.specs.List.{enumerate_from, flat_map}
use Rattle.naga_ir.specs.Handles.{Counts, MemberExists, function_counts, module_counts}
use Rattle.naga_ir.specs.ItemReferences.{body_references, constant_references, entry_point_references, global_variable_references, local_references, named_references, override_references, signature_references, special_types}
use Rattle.naga_ir.specs.References.{operands}
use Rattle.naga_ir.specs.declared.expression.Expression.{Expression}
use Rattle.naga_ir.specs.declared.ir.DiagnosticFilterNode.{DiagnosticFilterNode}
use Rattle.naga_ir.specs.declared.ir.EntryPoint.{EntryPoint}
use Rattle.naga_ir.specs.declared.ir.Function.{Function}
use Rattle.naga_ir.specs.declared.ir.Module.{Module}
use Rattle.naga_ir.specs.declared.reference.Reference.{Reference}
use Rattle.naga_ir.specs.declared.reference.Reference.TheVariants as to
use Rattle.naga_ir.specs.declared.ir.DocComments.{DocComments}
use Rattle.naga_ir.specs.declared.types.«Type».{«Type»}
use Rattle.naga_ir.specs.declared.types.StructMember.{StructMember}
use Rattle.naga_ir.specs.declared.types.TypeInner.TheVariants.{Struct}
use Rattle.naga_handles.specs.Faults.{display_name, forward, missing}
use Rattle.naga_handles.specs.steps.Checks.{IsCheckResult, Precedes, Subjects, of_expression, of_filter, of_function}
use Rattle.naga_handles.specs.declared.handles.Scope.{Scope}
use Rattle.naga_handles.specs.declared.error.InvalidHandleError.{InvalidHandleError}
use Rattle.naga_handles.specs.declared.error.InvalidHandleError.TheVariants.{BadHandle}
use Rattle.naga_handles.specs.declared.error.ValidationFault.{ValidationFault}
use Rattle.naga_handles.specs.declared.error.ValidationFault.TheVariants.{Invalid, MissingMember, OutOfMemory}

-- a check of a reference: the counts of items, the item that the reference has to precede if
-- there is one, and the reference
pub record Check : Type 0 where
  pub there : Counts
  pub subject : Option Reference
  pub target : Reference

-- the reference that `l` checks precedes its subject, or exists if it has none
abbrev pub Passes : Check → Type 0
Passes l = Precedes l.there l.subject l.target

-- `result` is the result of the check `l`
abbrev pub IsResult : Check → Result (Unit {0}) InvalidHandleError → Type 0
IsResult l result = IsCheckResult l.there (λ r. l.subject) l.target result

-- `result` is the result of checking that the operand of index `o` precedes the expression of index `e`
abbrev pub IsOperandResult : ℕ → ℕ → Result (Unit {0}) InvalidHandleError → Type 0
IsOperandResult e o result =
    MatchResult result (λ _. o < e) (λ error. (o < e → ⊥) × (error ≡ forward (to.Expression e) (to.Expression o)))

-- the checks of references with these subjects
abbrev pub checks : Counts → Subjects → List Reference → List Check
checks n subjects references = map (λ r. record { there = n; subject = subjects r; target = r }) references

-- the checks of the references of an item in a scope
abbrev pub checks_in : Scope → List Reference → List Check
checks_in scope references = checks scope.counts (of_function scope.caller) references

-- the checks of an expression of a function
abbrev pub expression_checks : Counts → Option ℕ → ℕ × Expression → List Check
expression_checks n caller at =
    checks n (of_expression at.0) (map to.Expression (operands at.1))
    ++ checks n (of_function caller) (named_references at.1)

-- the checks of a function, by its index if it is one of the module's
abbrev pub function_checks : Counts → Option ℕ → Function → List Check
function_checks n caller f =
    checks n (of_function caller) (signature_references f)
    ++ (checks n (of_function caller) (local_references f)
    ++ (flat_map (expression_checks n caller) (enumerate_from 0 f.expressions)
    ++ checks n (of_function caller) (body_references f)))

-- the checks of an entry point
abbrev pub entry_point_checks : Module → EntryPoint → List Check
entry_point_checks m p =
    function_checks (function_counts m p.function) None p.function
    ++ checks (module_counts m) (of_function None) (entry_point_references p)

-- the checks of a function of the module, with its index
abbrev pub numbered_checks : Module → ℕ × Function → List Check
numbered_checks m at = function_checks (function_counts m at.1) (Some at.0) at.1

-- the checks of a filter
abbrev pub filter_checks : Counts → ℕ × DiagnosticFilterNode → List Check
filter_checks n at = checks n (of_filter at.0) (map to.DiagnosticFilterNode (option_to_list at.1.parent))

-- what constants, overrides and variables refer to
abbrev pub valued_references : Module → List Reference
valued_references m =
    flat_map constant_references m.constants
    ++ (flat_map override_references m.overrides
    ++ flat_map global_variable_references m.global_variables)

-- the checks of the entry points and functions
abbrev pub code_checks : Module → List Check
code_checks m =
    flat_map (entry_point_checks m) m.entry_points ++ flat_map (numbered_checks m) (enumerate_from 0 m.functions)

-- the checks of the filters
abbrev pub all_filter_checks : Module → List Check
all_filter_checks m =
    flat_map (filter_checks (module_counts m)) (enumerate_from 0 m.diagnostic_filters)
    ++ checks (module_counts m) (of_function None)
    (map to.DiagnosticFilterNode (option_to_list m.diagnostic_filter_leaf))

-- the items that comments document by a handle, the types of members aside
abbrev pub documented_references : DocComments → List Reference
documented_references d =
    map (λ (c : ℕ × List (List ℕ)). to.Type_ c.0) d.types
    ++ (map (λ (c : ℕ × List (List ℕ)). to.Function c.0) d.functions
    ++ (map (λ (c : ℕ × List (List ℕ)). to.Constant c.0) d.constants
    ++ map (λ (c : ℕ × List (List ℕ)). to.GlobalVariable c.0) d.global_variables))

-- the checks of a module, in their order: what constants, overrides and variables refer to, entry points and functions,
-- special types, filters, and what comments document
abbrev pub module_checks : Module → List Check
module_checks m =
    let plain = checks (module_counts m) (of_function None) in
    plain (valued_references m)
    ++ (code_checks m
    ++ (plain (map to.Type_ (special_types m.special_types))
    ++ (all_filter_checks m
    ++ plain (documented_references m.doc_comments))))

-- `result` is the result of checking that `place` is the index of an entry point
abbrev pub IsEntryPointResult : Module → ℕ → Result (Unit {0}) InvalidHandleError → Type 0
IsEntryPointResult m place result =
    MatchResult result (λ _. place < length m.entry_points)
    (λ e. (place < length m.entry_points → ⊥)
    × (e ≡ BadHandle (record { kind = codes "EntryPoint"; index = place })))

-- the type `x` is a struct with a member of index `index`
abbrev pub HasMember : «Type» → ℕ → Type 0
HasMember x index =
    (members : List StructMember) × (span : ℕ) × (x.inner ≡ Struct members span) × (index < length members)

-- the fault of a comment on a missing member: its type is dangling, or the type has no such member, or
-- memory was refused for its name
abbrev pub NoMember : Module → ℕ × ℕ → ValidationFault → Type 0
NoMember m place fault =
    ((length m.types ≤ place.0) × (fault ≡ Invalid (missing (to.Type_ place.0))))
    ⊎ ((x : «Type») × (slice_get m.types place.0 ≡ Some x) × (MemberExists m.types place → ⊥)
    × ((fault ≡ OutOfMemory) ⊎ (fault ≡ MissingMember place.0 (display_name x))))

-- `result` is the result of checking that the type of index `place.0` has a member of index `place.1`
abbrev pub IsMemberResult : Module → ℕ × ℕ → Result (Unit {0}) ValidationFault → Type 0
IsMemberResult m place result = MatchResult result (λ _. MemberExists m.types place) (NoMember m place)
