-- The result of checking one reference.
use Rattle.std.specs.Prelude.{◌≡◌, ℕ, ◌<◌, Option, Some, None, Result, MatchResult, option_map}
use Rattle.naga_ir.specs.Handles.{Counts, Exists, place_of}
use Rattle.naga_ir.specs.declared.reference.Reference.{Reference}
use Rattle.naga_ir.specs.declared.reference.Reference.TheVariants as to
use Rattle.naga_handles.specs.Faults.{forward, missing}
use Rattle.naga_handles.specs.declared.error.InvalidHandleError.{InvalidHandleError}

-- which item a reference has to precede, if there is one
abbrev pub Subjects : Type 0
Subjects = Reference → Option Reference

-- a reference precedes its subject, or exists if it has none
abbrev pub Precedes : Counts → Option Reference → Reference → Type 0
Precedes n None r = Exists n r
Precedes n (Some s) r = place_of r < place_of s

-- the error if the reference `r` doesn't precede its subject, or doesn't exist if it has none
abbrev pub fault_of : Option Reference → Reference → InvalidHandleError
fault_of None r = missing r
fault_of (Some s) r = forward s r

-- `result` is `Ok` if the reference `r` precedes its subject, or exists if it has none, and else the error
abbrev pub IsCheckResult : Counts → Subjects → Reference → Result (Unit {0}) InvalidHandleError → Type 0
IsCheckResult n subjects r result =
    MatchResult result (λ _. Precedes n (subjects r) r)
    (λ e. (Precedes n (subjects r) r → ⊥) × (e ≡ fault_of (subjects r) r))

-- the subjects of an expression, whose operands precede it
abbrev pub of_expression : ℕ → Subjects
of_expression e (to.Expression o) = Some (to.Expression e)
of_expression e _ = None

-- the checks of a function: the functions that it names precede it, while an entry point may name any
abbrev pub of_function : Option ℕ → Subjects
of_function caller (to.Function f) = option_map to.Function caller
of_function caller _ = None

-- the checks of a filter, whose parent precedes it
abbrev pub of_filter : ℕ → Subjects
of_filter d (to.DiagnosticFilterNode parent) = Some (to.DiagnosticFilterNode d)
of_filter d _ = None
