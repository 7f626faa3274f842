use Rattle.std.proofs.Common.{rules, ◌≡◌, ◌∙◌, true, List, [], ◌∷◌, None, Option, ap, not, subst}
use Rattle.std.specs.List.{list_any}
use Rattle.std.specs.Prelude.{Err}
use Rattle.naga_flags.specs.Flags.{has}
use Rattle.naga_interface.specs.BuiltIns.{built_in_row}
use Rattle.naga_interface.specs.Stages.{stage_flag}
use Rattle.naga_interface.specs.Surroundings.{form_of, surroundings}
use Rattle.naga_interface.specs.Varyings.{capability_error, dimensions_error, fits_built_in, is_built_in, stages_of}
use Rattle.naga_interface.specs.declared.built_in.BuiltInRow.{BuiltInRow}
use Rattle.naga_interface.specs.steps.VaryingContexts.{varyings_in}
use Rattle.naga_types.specs.Checks.{require}
use Rattle.naga_types.specs.declared.error.VaryingError.{VaryingError}
use Rattle.naga_types.specs.declared.error.VaryingError.TheVariants.{DuplicateBuiltIn, InvalidBuiltInStage, InvalidBuiltInType}
use Rattle.naga_interface.proofs.Conditions.{broken_here, kept, kept_then}
use Rattle.naga_interface.proofs.KnownParts.{parts_exist}
use Rattle.naga_interface.proofs.varying.VaryingContext.check_built_in.Goals as goal

pub is_built_in_type-requires : goal.is_built_in_type-requires
is_built_in_type-requires c = parts_exist (surroundings c.args.self.interface) c.requires.known c.args.ty c.inner.result.now c.inner.ensures

pub returns-in_err-check_dimensions-clause-checks : goal.returns-in_err-check_dimensions-clause-checks
returns-in_err-check_dimensions-clause-checks c = λ earlier are.
    let s = varyings_in c.args.self in
    let b = c.args.built_in in
    let error = c.in_err-check_dimensions.field-0.0 in
    let is : c.from_residual-in_err-check_dimensions.result ≡ Err error = search rules in
    let new = c.insert_built_in.ensures.is_new earlier are in
    let fresh : not (list_any (is_built_in b) earlier) ≡ true = search rules in
    let given : capability_error s (built_in_row b).capability.0 ≡ None =
    subst (λ (row : BuiltInRow). capability_error s row.capability.0 ≡ None) c.built_in_row-row.ensures (kept (capability_error s c.built_in_row-row.result.capability.0) c.in_ok-require_capability.ensures) in
    let capability = capability_error s (built_in_row b).capability.0 in
    let last : List (Option VaryingError) =
    require (has (stages_of (built_in_row b) s.direction) (stage_flag s.stage)) (InvalidBuiltInStage b) ∷ require (fits_built_in s.interface b (form_of s.interface c.args.ty)) (InvalidBuiltInType b) ∷ [] in
    let after_capability : List (Option VaryingError) = dimensions_error s b ∷ last in
    let others : List (Option VaryingError) = capability ∷ after_capability in
    is ∙ kept_then (require (not (list_any (is_built_in b) earlier)) (DuplicateBuiltIn b)) others _ (ap (λ t. require t (DuplicateBuiltIn b)) fresh)
    (kept_then capability after_capability _ given (broken_here (dimensions_error s b) last error c.in_err-check_dimensions.ensures))
