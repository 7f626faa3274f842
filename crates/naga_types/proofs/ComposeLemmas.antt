-- Components, one after another: that they exist, fit, and how many components of a vector they make.
use Rattle.std.proofs.Common.{◌≡◌, ◌==◌, ◌+◌, ◌<◌, ◌≤◌, ℕ, Bool, true, false, min, List, Option, Some, None, All, drop, get_or, length, map, option_map, slice_get, take, refl, sym, ap, ◌∙◌, arith}
use Rattle.std.specs.List.{enumerate_from}
use Rattle.std.proofs.lemmas.Bool.Decides.{Decides-eqb, Decides-like, same_from_decides}
use Rattle.std.proofs.lemmas.List.{at_drop_all}
use Rattle.std.proofs.lemmas.List.Sums.{sum_by_more}
use Rattle.std.proofs.lemmas.Option.{get_or_from_slice_get, same_Some, slice_get-get_or, slice_get-map, slice_get_within}
use Rattle.naga_arena.proofs.Elements.{all_at}
use Rattle.naga_arena.specs.Numbers.{largest_u32}
use Rattle.naga_ir.proofs.PartLemmas.{base_is, members_are}
use Rattle.naga_ir.specs.Sizes.{components}
use Rattle.naga_ir.specs.declared.types.«Type».{«Type»}
use Rattle.naga_ir.specs.declared.types.ArraySize.{ArraySize}
use Rattle.naga_ir.specs.declared.types.StructMember.{StructMember}
use Rattle.naga_ir.specs.declared.types.TypeInner.TheVariants.{Array, Struct}
use Rattle.naga_ir.specs.declared.types.VectorSize.{VectorSize}
use Rattle.naga_ir.specs.declared.types.VectorSize.TheVariants.{Bi, Tri, Quad}
use Rattle.naga_types.proofs.FirstLemmas.{passed, refused}
use Rattle.naga_types.specs.Composing.{all_parts, first_component_type_error, component_type_error, component_count_error, parts_in, resolution_in, resolutions_at}
use Rattle.naga_types.specs.Checks.{first, require}
use Rattle.naga_types.specs.Layouts.{saturated}
use Rattle.naga_types.specs.steps.Components.{ComponentsExist, resolutions_of}
use Rattle.naga_types.specs.declared.compose.Components.{Components}
use Rattle.naga_types.specs.declared.compose.Components.TheVariants.{Given, At}
use Rattle.naga_types.specs.declared.error.ComposeError.{ComposeError}
use Rattle.naga_types.specs.declared.error.ComposeError.TheVariants.{ComponentCount, ComponentType}
use Rattle.naga_typing.specs.Resolutions.{AllPartsExist, PartsExist, TypesExist, inner_in}
use Rattle.naga_typing.specs.declared.typifier.TypeResolution.{TypeResolution}

-- the resolution at a place that is itself found at a place
pub found_at_place : (places : List ℕ) (resolutions : List TypeResolution) (i e : ℕ) (r : TypeResolution) → slice_get places i ≡ Some e → slice_get resolutions e ≡ Some r → slice_get (resolutions_at places resolutions) i ≡ Some r
found_at_place places resolutions i e r at found =
    slice_get-map (λ e. resolution_in (slice_get resolutions e)) places i
    ∙ ap (option_map (λ e. resolution_in (slice_get resolutions e))) at
    ∙ ap (λ o. Some (resolution_in o)) found

-- the types in a component exist
pub component_exists : (types : List «Type») (c : Components) (i : ℕ) (r : TypeResolution) → ComponentsExist types c → slice_get (resolutions_of c) i ≡ Some r → TypesExist types r
component_exists types (Given resolutions) i r exist at = all_at (TypesExist types) resolutions.now i r exist at
component_exists types (At places resolutions) i r exist at = by_place (slice_get places.now i) refl
  where
    by_place : (place : Option ℕ) → slice_get places.now i ≡ place → TypesExist types r
    by_place None e =
        let none : None ≡ Some r = sym (slice_get-map (λ e. resolution_in (slice_get resolutions.now e)) places.now i ∙ ap (option_map (λ e. resolution_in (slice_get resolutions.now e))) e) ∙ at in
        cc
    by_place (Some e) is =
        let within : e < length resolutions.now = all_at (λ e. e < length resolutions.now) places.now i e exist.0 is in
        let found : slice_get resolutions.now e ≡ Some (get_or resolutions.now e r) = slice_get-get_or resolutions.now e r within in
        let same : get_or resolutions.now e r ≡ r = same_Some _ r (sym (found_at_place places.now resolutions.now i e _ is found) ∙ at) in
        all_at (TypesExist types) resolutions.now e r exist.1 (found ∙ ap Some same)

module _ (fits : ℕ × TypeResolution → Bool) (given : List TypeResolution) where
  abbrev misfit_from : ℕ → List TypeResolution → Option ComposeError
  misfit_from i left = first (map (component_type_error fits) (enumerate_from i left))

  -- all before a place fit
  abbrev pub FitSoFar : ℕ → Type 0
  FitSoFar i = misfit_from i (drop i given) ≡ first_component_type_error fits given

  module _ (i : ℕ) (r : TypeResolution) (at : slice_get given i ≡ Some r) (so_far : FitSoFar i) where
    within : i < length given
    within = slice_get_within given i r at

    here : r ≡ get_or given i r
    here = sym (get_or_from_slice_get given i r r at)

    pub one_fits : fits (i, r) ≡ true → FitSoFar (i + 1)
    one_fits e = passed (component_type_error fits) given i r within here so_far (ap (λ b. require b (ComponentType (saturated i))) e)

    pub one_misfits : fits (i, r) ≡ false → first_component_type_error fits given ≡ Some (ComponentType (saturated i))
    one_misfits e = refused (component_type_error fits) given i r within here so_far (ComponentType (saturated i)) (ap (λ b. require b (ComponentType (saturated i))) e)

  pub all_fit : (i : ℕ) → length given ≤ i → FitSoFar i → first_component_type_error fits given ≡ None
  all_fit i past so_far = sym so_far ∙ at_drop_all (misfit_from i) given i past

-- with one more component there are as many parts more as it has
pub parts_more : (types : List «Type») (given : List TypeResolution) (i total : ℕ) (r : TypeResolution) → slice_get given i ≡ Some r → total ≡ saturated (all_parts types (take i given))
    → min (total + parts_in (inner_in types r)) largest_u32 ≡ saturated (all_parts types (take (i + 1) given))
parts_more types given i total r at so_far =
    let f : TypeResolution → ℕ = λ r. parts_in (inner_in types r) in
    let more : all_parts types (take (i + 1) given) ≡ all_parts types (take i given) + f (get_or given i r) = sum_by_more f given i r (slice_get_within given i r at) in
    let here : f (get_or given i r) ≡ f r = ap f (get_or_from_slice_get given i r r at) in
    capped (all_parts types (take i given)) (f r) total _ so_far (more ∙ ap (λ n. all_parts types (take i given) + n) here)
  where
    capped : (sum n total all : ℕ) → total ≡ saturated sum → all ≡ sum + n → min (total + n) largest_u32 ≡ saturated all
    capped sum n total all e f = omega arith

-- a number that errors can give is counted as it was
saturated_count : (n expected : ℕ) → expected < largest_u32 → component_count_error (saturated n) expected ≡ component_count_error n expected
saturated_count n expected small =
    let equal : (saturated n == expected) ≡ (n == expected) =
    same_from_decides (saturated n == expected) (n == expected) (Decides-eqb (saturated n) expected)
    (Decides-like (n == expected) (λ (e : n ≡ expected). omega arith) (λ (e : saturated n ≡ expected). omega arith) (Decides-eqb n expected)) in
    let again : saturated (saturated n) ≡ saturated n = omega arith in
    ap (λ b. require b (ComponentCount (saturated (saturated n)) (saturated expected))) equal ∙ ap (λ m. require (n == expected) (ComponentCount m (saturated expected))) again

pub saturated_parts : (n : ℕ) (size : VectorSize) → component_count_error (saturated n) (components size) ≡ component_count_error n (components size)
saturated_parts n Bi = saturated_count n 2 (omega arith)
saturated_parts n Tri = saturated_count n 3 (omega arith)
saturated_parts n Quad = saturated_count n 4 (omega arith)

-- the types that a type of the module names exist
pub base_exists : (types : List «Type») (t : ℕ) (x : «Type») (base : ℕ) (size : ArraySize) (stride : ℕ) → AllPartsExist types → slice_get types t ≡ Some x → x.inner ≡ Array base size stride → base < length types
base_exists types t x base size stride all at is = base_is (λ p. p < length types) x.inner base size stride (all_at (λ (y : «Type»). PartsExist types y.inner) types t x all at) is

pub members_exist : (types : List «Type») (t : ℕ) (x : «Type») (members : List StructMember) (span : ℕ) → AllPartsExist types → slice_get types t ≡ Some x → x.inner ≡ Struct members span → All (λ (m : StructMember). m.ty < length types) members
members_exist types t x members span all at is = members_are (λ p. p < length types) x.inner members span (all_at (λ (y : «Type»). PartsExist types y.inner) types t x all at) is
