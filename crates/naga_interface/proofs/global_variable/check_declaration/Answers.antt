use Rattle.std.proofs.Common.{rules, ◌≡◌, ◌∙◌, ℕ, List, [], ◌∷◌, None, Option, ap, sym}
use Rattle.std.specs.Prelude.{Err}
use Rattle.naga_flags.specs.Bits.{BINDINGS}
use Rattle.naga_flags.specs.Flags.{has}
use Rattle.naga_interface.specs.GlobalVariables.{decoration_checks, has_right_binding, initialiser_checks}
use Rattle.naga_interface.specs.Surroundings.{known, surroundings}
use Rattle.naga_interface.specs.declared.error.GlobalVariableError.{GlobalVariableError}
use Rattle.naga_interface.specs.declared.error.GlobalVariableError.TheVariants.{InvalidBinding}
use Rattle.naga_types.specs.Checks.{first, first_error_or, require, when}
use Rattle.naga_interface.proofs.Conditions.{at_last, broken_here, kept, kept_then}
use Rattle.naga_interface.proofs.global_variable.check_declaration.Goals as goal

pub returns-in_err-check_decorations : goal.returns-in_err-check_decorations
returns-in_err-check_decorations c =
    let s = surroundings c.args.ctx in
    let v = c.args.variable.now in
    let others : List (Option GlobalVariableError) =
    when (has s.flags BINDINGS) (require (has_right_binding c.args.is_resource v) InvalidBinding) ∷ first (initialiser_checks s (known c.args.init) v.space v.ty v.init) ∷ [] in
    let error = c.in_err-check_decorations.field-0.0 in
    let is : c.from_residual.result ≡ Err error = search rules in
    is ∙ broken_here (first (decoration_checks s.capabilities v.space v.memory_decorations)) others error c.in_err-check_decorations.ensures

pub returns-in-Some : goal.returns-in-Some
returns-in-Some c =
    let s = surroundings c.args.ctx in
    let v = c.args.variable.now in
    let initial = λ (o : Option ℕ). first (initialiser_checks s (known c.args.init) v.space v.ty o) in
    let decorations = first (decoration_checks s.capabilities v.space v.memory_decorations) in
    let binding = when (has s.flags BINDINGS) (require (has_right_binding c.args.is_resource v) InvalidBinding) in
    let right : binding ≡ None = search rules in
    let last : List (Option GlobalVariableError) = initial v.init ∷ [] in
    let others : List (Option GlobalVariableError) = binding ∷ last in
    kept_then decorations others c.check_initialiser.result (kept decorations c.in_ok-check_decorations.ensures)
    (kept_then binding last c.check_initialiser.result right
    (at_last (initial v.init) c.check_initialiser.result (c.check_initialiser.ensures ∙ ap (λ (o : Option ℕ). first_error_or (initialiser_checks s (known c.args.init) v.space v.ty o) tt) (sym c.in-Some.is))))
