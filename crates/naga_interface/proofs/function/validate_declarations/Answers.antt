use Rattle.std.proofs.Common.{rules, ◌∙◌, IsTrue, false, ap, inl, inr}
use Rattle.std.proofs.lemmas.Bool.{cases_Bool, false≢true}
use Rattle.naga_interface.specs.Functions.{has_initialisers}
use Rattle.naga_interface.specs.Surroundings.{surroundings}
use Rattle.naga_types.specs.Checks.{first_error_or}
use Rattle.naga_typing.proofs.ExpressionKinds.{kinds_exist}
use Rattle.naga_interface.proofs.UnusedKinds.{same_checks}
use Rattle.naga_interface.proofs.function.validate_declarations.Goals as goal

pub returns-in_err-kinds : goal.returns-in_err-kinds
returns-in_err-kinds c =
    let f = c.args.function.now in
    let kinds = kinds_exist f.expressions in
    let some : IsTrue (has_initialisers f) = elim (cases_Bool (has_initialisers f)) [
      | inl held ↦ held
      | inr none ↦ absurd (false≢true (c.in_err-kinds.ensures.none none))
    ] in
    (kinds.0, kinds.1, inr (search rules, some))

pub returns : goal.returns
returns c =
    let f = c.args.function.now in
    let kinds = kinds_exist f.expressions in (
      kinds.0,
      kinds.1,
      inl (c.check_declarations.ensures
          ∙ ap (λ checks. first_error_or checks tt) (same_checks (surroundings c.args.ctx) c.args.types.now c.in_ok-kinds.kinds kinds.0 false f kinds.1 c.in_ok-kinds.ensures.found)),
    )
