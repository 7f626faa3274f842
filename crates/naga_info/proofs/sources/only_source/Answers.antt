use Rattle.std.proofs.Common.{◌≡◌, ℕ, Some, Contains, List, get_or, length, sym, ap, subst, arith, ◌∙◌, [], ◌∷◌}
use Rattle.naga_ir.proofs.Origins.{composition_by_origin, constant_by_origin, splat_by_origin}
use Rattle.naga_ir.specs.References.{components_of}
use Rattle.naga_info.specs.Integers.{scope_in}
use Rattle.naga_info.proofs.Places.{constant_exists}
use Rattle.naga_info.proofs.IntegerSources.{component_source, constant_source, splat_source}
use Rattle.naga_info.proofs.sources.only_source.Goals as goal
use Rattle.naga_info.specs.Sources.{IsSource}

pub index-requires : goal.index-requires
index-requires c = constant_exists (scope_in c.args.«module».now c.args.function.now) (record { handles = c.requires.handles; in_function = c.requires.in_function }) c.args.place.now c.in-Constant.handle (c.expression_at-expression.ensures ∙ ap Some (constant_by_origin _ c.in-Constant.handle (sym c.origin.ensures ∙ c.in-Constant.is)))

pub returns-in-Constant-clause-source : goal.returns-in-Constant-clause-source
returns-in-Constant-clause-source c =
    constant_source (scope_in c.args.«module».now c.args.function.now) (record { handles = c.requires.handles; in_function = c.requires.in_function }) c.args.place.now c.requires.exists c.in-Constant.handle c.index.result.now (c.expression_at-expression.ensures ∙ ap Some (constant_by_origin _ c.in-Constant.handle (sym c.origin.ensures ∙ c.in-Constant.is))) c.index.ensures

pub returns-in-Splat-clause-source : goal.returns-in-Splat-clause-source
returns-in-Splat-clause-source c =
    let s = scope_in c.args.«module».now c.args.function.now in
    let splat = splat_by_origin c.expression_at-expression.result.now c.in-Splat.value (sym c.origin.ensures ∙ c.in-Splat.is) in
    subst (IsSource s c.args.place.now) (sym c.operand_place.ensures) (splat_source s (record { handles = c.requires.handles; in_function = c.requires.in_function }) c.args.place.now c.requires.exists splat.0 c.in-Splat.value (c.expression_at-expression.ensures ∙ ap Some splat.1))

-- a list of one element has no other
only_one : (xs : List ℕ) (o d : ℕ) → length xs ≡ 1 → o ≡ get_or xs 0 d → Contains xs o × ((x : ℕ) → Contains xs x → x ≡ o)
only_one [] o d one is = cc one
only_one (x ∷ []) o d one is = ((0, omega arith, sym is), λ y within. sole y within)
  where
    sole : (y : ℕ) → Contains (x ∷ []) y → y ≡ o
    sole y (k, below, at) =
        let first : k ≡ 0 = omega (arith, below) in
        let same : x ≡ y = subst (λ k. get_or (x ∷ []) k y ≡ y) first at in
        sym same ∙ sym is
only_one (x ∷ y ∷ rest) o d one is = cc one

pub returns-in-len1-clause-source : goal.returns-in-len1-clause-source
returns-in-len1-clause-source c =
    let s = scope_in c.args.«module».now c.args.function.now in
    let x = c.expression_at-expression.result.now in
    let o = c.component-item.result in
    let one : length c.components.result.now ≡ 1 = omega (arith, c.in-len1.len_at_least, c.in-len1.len_below) in
    let alone = only_one (components_of x) o o (ap length (sym c.components.ensures) ∙ one) (c.component-item.is ∙ ap (λ (os : List ℕ). get_or os 0 o) c.components.ensures) in
    subst (IsSource s c.args.place.now) (sym c.operand_place-in-len1.ensures)
    (component_source s (record { handles = c.requires.handles; in_function = c.requires.in_function }) c.args.place.now c.requires.exists _ (components_of x) o (c.expression_at-expression.ensures ∙ ap Some (composition_by_origin x _ (sym c.origin.ensures ∙ c.in-Compose.is))) alone.0 alone.1)
