use Rattle.std.proofs.Common.{rules, ◌≡◌, ◌∙◌, ◌<◌, ◌∷◌, ℕ, List, None, Option, ap, length, refl, subst, sym}
use Rattle.std.specs.Option.{option_and_then, unwrap_or}
use Rattle.std.specs.Prelude.{Err}
use Rattle.naga_interface.specs.GlobalVariables as rule
use Rattle.naga_interface.specs.GlobalVariables.{binding_base}
use Rattle.naga_interface.specs.Spaces.{space_row}
use Rattle.naga_interface.specs.Surroundings.{InterfaceSurroundings, KnownExpressions, flags_of, known, surroundings}
use Rattle.naga_interface.specs.declared.error.GlobalVariableError.{GlobalVariableError}
use Rattle.naga_interface.specs.declared.error.GlobalVariableError.TheVariants.{MissingTypeFlags}
use Rattle.naga_interface.specs.declared.global_variable.SpaceRow.{SpaceRow}
use Rattle.naga_ir.specs.declared.ir.GlobalVariable.{GlobalVariable}
use Rattle.naga_types.specs.Checks.{first}
use Rattle.naga_interface.proofs.Conditions.{broken_here, by_first, kept, kept_then, unless}
use Rattle.naga_interface.proofs.KnownParts.{binding_base_exists, bound_exists}
use Rattle.naga_interface.proofs.global_variable.validate_global_variable.Goals as goal

module _ (s : InterfaceSurroundings) (k : KnownExpressions) (v : GlobalVariable) where
  -- the conditions by what the function has found: the type of bindings, the type of what is bound, and the row
  abbrev found_checks : Option ℕ → ℕ → SpaceRow → List (Option GlobalVariableError)
  found_checks base ty row =
      rule.array_error s v.space base ∷ first (rule.space_checks s v.space ty) ∷ rule.flags_error row.flags.0 (flags_of s ty) ∷ rule.declaration_checks s k row.is_resource v

  restated : (base : Option ℕ) (ty : ℕ) (row : SpaceRow) → base ≡ rule.bindings_of s v.ty → ty ≡ rule.bound_type s v.ty → row ≡ space_row v.space
      → by_first (found_checks base ty row) ≡ rule.global_variable_rule s k v
  restated base ty row p q e =
      ap (λ (b : Option ℕ). by_first (found_checks b ty row)) p
      ∙ ap (λ (t : ℕ). by_first (found_checks (rule.bindings_of s v.ty) t row)) q
      ∙ ap (λ (r : SpaceRow). by_first (found_checks (rule.bindings_of s v.ty) (rule.bound_type s v.ty) r)) e

pub check_array-requires : goal.check_array-requires
check_array-requires c = binding_base_exists (surroundings c.args.ctx) c.requires.known c.args.variable.now.ty c.inner-inner.result.now c.inner-inner.ensures

pub check_space-requires-clause-exists : goal.check_space-requires-clause-exists
check_space-requires-clause-exists c =
    let base = binding_base c.inner-inner.result.now in
    let there = binding_base_exists (surroundings c.args.ctx) c.requires.known c.args.variable.now.ty c.inner-inner.result.now c.inner-inner.ensures in
    let is : c.unwrap_or-ty.result ≡ unwrap_or base c.args.variable.now.ty = c.unwrap_or-ty.ensures ∙ ap (λ (o : Option ℕ). unwrap_or o c.args.variable.now.ty) c.binding_base.ensures in
    subst (λ (t : ℕ). t < length c.args.ctx.types.now) (sym is) (bound_exists base c.args.variable.now.ty _ c.requires.exists there)

pub type_flags-seen-requires-clause-exists : goal.type_flags-seen-requires-clause-exists
type_flags-seen-requires-clause-exists c =
    let base = binding_base c.inner-inner.result.now in
    let there = binding_base_exists (surroundings c.args.ctx) c.requires.known c.args.variable.now.ty c.inner-inner.result.now c.inner-inner.ensures in
    let is : c.unwrap_or-ty.result ≡ unwrap_or base c.args.variable.now.ty = c.unwrap_or-ty.ensures ∙ ap (λ (o : Option ℕ). unwrap_or o c.args.variable.now.ty) c.binding_base.ensures in
    subst (λ (t : ℕ). t < length c.args.ctx.types.now) (sym is) (bound_exists base c.args.variable.now.ty _ c.requires.exists there)

pub returns-in_err-check_space : goal.returns-in_err-check_space
returns-in_err-check_space c =
    let s = surroundings c.args.ctx in
    let v = c.args.variable.now in
    let base = binding_base c.inner-inner.result.now in
    let ty = c.unwrap_or-ty.result in
    let bases : base ≡ rule.bindings_of s v.ty = sym (ap (option_and_then binding_base) c.inner-inner.ensures) in
    let bound : ty ≡ rule.bound_type s v.ty = c.unwrap_or-ty.ensures ∙ ap (λ (o : Option ℕ). unwrap_or o v.ty) (c.binding_base.ensures ∙ bases) in
    let error = c.in_err-check_space.field-0.0 in
    let is : c.from_residual-in_err-check_space.result ≡ Err error = search rules in
    is
    ∙ kept_then (rule.array_error s v.space base) (first (rule.space_checks s v.space ty) ∷ rule.flags_error (space_row v.space).flags.0 (flags_of s ty) ∷ rule.declaration_checks s (known c.args.init) (space_row v.space).is_resource v) _ (kept (rule.array_error s v.space base) c.in_ok-check_array.ensures)
    (broken_here (first (rule.space_checks s v.space ty)) (rule.flags_error (space_row v.space).flags.0 (flags_of s ty) ∷ rule.declaration_checks s (known c.args.init) (space_row v.space).is_resource v) error c.in_err-check_space.ensures)
    ∙ restated s (known c.args.init) v base ty (space_row v.space) bases bound refl

pub returns-then-not-contains : goal.returns-then-not-contains
returns-then-not-contains c =
    let s = surroundings c.args.ctx in
    let v = c.args.variable.now in
    let base = binding_base c.inner-inner.result.now in
    let ty = c.unwrap_or-ty.result in
    let row = c.space_row-row.result in
    let bases : base ≡ rule.bindings_of s v.ty = sym (ap (option_and_then binding_base) c.inner-inner.ensures) in
    let bound : ty ≡ rule.bound_type s v.ty = c.unwrap_or-ty.ensures ∙ ap (λ (o : Option ℕ). unwrap_or o v.ty) (c.binding_base.ensures ∙ bases) in
    let error : GlobalVariableError = MissingTypeFlags row.flags c.type_flags-seen.result in
    let lacks : Err error ≡ unless (rule.flags_error row.flags.0 (flags_of s ty)) = search rules in
    kept_then (rule.array_error s v.space base) (first (rule.space_checks s v.space ty) ∷ rule.flags_error row.flags.0 (flags_of s ty) ∷ rule.declaration_checks s (known c.args.init) row.is_resource v) (Err error) (kept (rule.array_error s v.space base) c.in_ok-check_array.ensures)
    (kept_then (first (rule.space_checks s v.space ty)) (rule.flags_error row.flags.0 (flags_of s ty) ∷ rule.declaration_checks s (known c.args.init) row.is_resource v) (Err error) (kept (first (rule.space_checks s v.space ty)) c.in_ok-check_space.ensures)
    (broken_here (rule.flags_error row.flags.0 (flags_of s ty)) (rule.declaration_checks s (known c.args.init) row.is_resource v) error lacks))
    ∙ restated s (known c.args.init) v base ty row bases bound c.space_row-row.ensures

pub returns : goal.returns
returns c =
    let s = surroundings c.args.ctx in
    let v = c.args.variable.now in
    let base = binding_base c.inner-inner.result.now in
    let ty = c.unwrap_or-ty.result in
    let row = c.space_row-row.result in
    let r = c.check_declaration.result in
    let bases : base ≡ rule.bindings_of s v.ty = sym (ap (option_and_then binding_base) c.inner-inner.ensures) in
    let bound : ty ≡ rule.bound_type s v.ty = c.unwrap_or-ty.ensures ∙ ap (λ (o : Option ℕ). unwrap_or o v.ty) (c.binding_base.ensures ∙ bases) in
    let has : rule.flags_error row.flags.0 (flags_of s ty) ≡ None = search rules in
    kept_then (rule.array_error s v.space base) (first (rule.space_checks s v.space ty) ∷ rule.flags_error row.flags.0 (flags_of s ty) ∷ rule.declaration_checks s (known c.args.init) row.is_resource v) r (kept (rule.array_error s v.space base) c.in_ok-check_array.ensures)
    (kept_then (first (rule.space_checks s v.space ty)) (rule.flags_error row.flags.0 (flags_of s ty) ∷ rule.declaration_checks s (known c.args.init) row.is_resource v) r (kept (first (rule.space_checks s v.space ty)) c.in_ok-check_space.ensures)
    (kept_then (rule.flags_error row.flags.0 (flags_of s ty)) (rule.declaration_checks s (known c.args.init) row.is_resource v) r has c.check_declaration.ensures))
    ∙ restated s (known c.args.init) v base ty row bases bound c.space_row-row.ensures
