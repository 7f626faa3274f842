use Rattle.std.proofs.Common.{rules, ◌≡◌, ◌∙◌, IsTrue, true, List, None, Option, Some, ap, inl, inr, subst, sym}
use Rattle.std.proofs.lemmas.Bool.{cases_Bool, false≢true}
use Rattle.std.specs.Option.{option_map}
use Rattle.naga_interface.specs.Functions.{declaration_checks, has_initialisers}
use Rattle.naga_interface.specs.Surroundings.{surroundings}
use Rattle.naga_interface.specs.declared.error.EntryPointError.TheVariants.{Function}
use Rattle.naga_interface.specs.declared.error.FunctionDeclarationError.{FunctionDeclarationError}
use Rattle.naga_types.proofs.KeptConditions.{granted-none}
use Rattle.naga_types.specs.Checks.{first}
use Rattle.naga_typing.specs.declared.typifier.TypeResolution.{TypeResolution}
use Rattle.naga_interface.proofs.Conditions.{broken, unless}
use Rattle.naga_interface.proofs.UnusedKinds.{same_checks}
use Rattle.naga_interface.proofs.entry_point.check_function.Goals as goal

pub returns-in_err-kinds : goal.returns-in_err-kinds
returns-in_err-kinds c = λ kinds are.
    let f = c.args.entry_point.now.function in
    let some : IsTrue (has_initialisers f) = elim (cases_Bool (has_initialisers f)) [
      | inl held ↦ held
      | inr none ↦ absurd (false≢true (c.in_err-kinds.ensures.none none))
    ] in
    inr (search rules, some)

pub returns-in-Ok : goal.returns-in-Ok
returns-in-Ok c = λ kinds are.
    let f = c.args.entry_point.now.function in
    let s = surroundings c.args.ctx in
    let found = c.in_ok-kinds.kinds in
    let types = c.args.info.now.types in
    let same = same_checks s types found kinds true f are c.in_ok-kinds.ensures.found in
    inl (sym (ap (λ (o : Option FunctionDeclarationError). unless (option_map Function o)) (sym (ap first same) ∙ subst (λ (ts : List TypeResolution). first (declaration_checks s (record { types = ts; kinds = found }) true f) ≡ None) c.as_slice.ensures (granted-none (first (declaration_checks s (record { types = c.as_slice.result.now; kinds = found }) true f)) (tt {0}) c.in-Ok.field-0 (sym c.in-Ok.ensures)))))

pub returns : goal.returns
returns c = λ kinds are.
    let f = c.args.entry_point.now.function in
    let s = surroundings c.args.ctx in
    let found = c.in_ok-kinds.kinds in
    let types = c.args.info.now.types in
    let same = same_checks s types found kinds true f are c.in_ok-kinds.ensures.found in
    inl (sym (ap (λ (o : Option FunctionDeclarationError). unless (option_map Function o)) (sym (ap first same) ∙ subst (λ (ts : List TypeResolution). first (declaration_checks s (record { types = ts; kinds = found }) true f) ≡ Some c.in-Err.error) c.as_slice.ensures (broken (first (declaration_checks s (record { types = c.as_slice.result.now; kinds = found }) true f)) c.in-Err.error c.in-Err.ensures))))
