-- The names of entry points, one after another.
use Rattle.std.proofs.Common.{◌≡◌, ◌∙◌, ◌==◌, ◌&&◌, ◌||◌, ℕ, suc, Bool, Bor, true, false, not, IsTrue, List, [], ◌∷◌, ◌++◌, All, Option, Some, None, Result, Ok, Err, ap, arith, refl, subst, sym}
use Rattle.std.proofs.Math.Bool.{or-false, or_comm}
use Rattle.std.proofs.lemmas.Bool.Decides.{Decides-eqb, Decides-like, same_from_decides}
use Rattle.std.proofs.lemmas.List.Folds.{list_any-append}
use Rattle.std.proofs.lemmas.Map.Text.{is_eq-slice_cmp}
use Rattle.std.proofs.lemmas.Slice.Eq.{bytes_eq-Decides}
use Rattle.std.specs.BTreeSet.{insert_key}
use Rattle.std.specs.Cmp.Lexicographic.{slice_cmp}
use Rattle.std.specs.List.{list_any}
use Rattle.std.specs.Option.{option_map_or}
use Rattle.std.specs.Ordering.{is_eq, match_ordering, nat_cmp}
use Rattle.std.specs.Str.{bytes_eq}
use Rattle.std.specs.declared.cmp.Ordering.{Ordering}
use Rattle.std.specs.declared.cmp.Ordering.TheVariants.{Less, Equal, Greater}
use Rattle.naga_interface.specs.EntryPoints.{entry_point_checks, entry_point_rule}
use Rattle.naga_interface.specs.Stages.{is_covered, stage_flag}
use Rattle.naga_interface.specs.Surroundings.{InterfaceSurroundings, KnownExpressions}
use Rattle.naga_interface.specs.declared.error.EntryPointError.{EntryPointError}
use Rattle.naga_interface.specs.declared.error.EntryPointError.TheVariants.{Conflict, StageNotCovered}
use Rattle.naga_ir.specs.declared.ir.EntryPoint.{EntryPoint}
use Rattle.naga_ir.specs.declared.ir.ShaderStage.{ShaderStage}
use Rattle.naga_ir.specs.declared.ir.ShaderStage.TheVariants as stage
use Rattle.naga_types.proofs.KeptConditions.{granted-none, neither, unless-kept}
use Rattle.naga_types.specs.Checks.{first, first_error_or, require}
use Rattle.naga_valid.specs.Interfaces.{entry_point_result, is_conflict, is_one_stage}
use Rattle.naga_valid.specs.steps.Interfaces.{AreNamesIn, AreNamesOf, has_covered_stage, is_named}
use Rattle.naga_valid.specs.declared.interface.EntryPointNames.{EntryPointNames}

-- a name as a set keeps it
abbrev pub Name : Type 0
Name = Bor (List ℕ)

-- how names are compared
abbrev pub order : Name → Name → Ordering
order x y = slice_cmp nat_cmp x.now y.now

-- a name is among these
abbrev pub has : List ℕ → List Name → Bool
has name names = list_any (λ (own : Name). bytes_eq name own.now) names

swapped : (a b c : Bool) → (a || (b || c)) ≡ (b || (a || c))
swapped true true c = refl
swapped true false c = refl
swapped false b c = refl

again : (a c : Bool) → (a || c) ≡ (a || (a || c))
again true c = refl
again false c = refl

-- a name that is put in its place is there, and so are the others
pub put_in : (name : List ℕ) (key : Name) (names : List Name) → has name (insert_key order names key) ≡ (bytes_eq name key.now || has name names)
put_in name key [] = refl
put_in name key (own ∷ names) = for_order (put_in name key names) (order key own) refl
  where
    placed : Ordering → List Name
    placed o = match_ordering o (key ∷ own ∷ names) (own ∷ names) (own ∷ insert_key order names key)

    for_order : has name (insert_key order names key) ≡ (bytes_eq name key.now || has name names) → (o : Ordering) → order key own ≡ o → has name (placed o) ≡ (bytes_eq name key.now || has name (own ∷ names))
    for_order rest Less is = refl
    for_order rest Equal is =
        let same : key.now ≡ own.now = (bytes_eq-Decides key.now own.now).0 (sym (is_eq-slice_cmp key.now own.now) ∙ ap is_eq is) in
        subst (λ (text : List ℕ). has name (own ∷ names) ≡ (bytes_eq name text || has name (own ∷ names))) (sym same) (again (bytes_eq name own.now) (has name names))
    for_order rest Greater is = ap (λ (b : Bool). bytes_eq name own.now || b) rest ∙ swapped (bytes_eq name own.now) (bytes_eq name key.now) (has name names)

-- whether a name is new, as a set says it
pub asked_for : (key : Name) (names : List Name) → list_any (λ (own : Name). is_eq (order key own)) names ≡ has key.now names
asked_for key [] = refl
asked_for key (own ∷ names) =
    ap (λ (b : Bool). b || list_any (λ (other : Name). is_eq (order key other)) names) (is_eq-slice_cmp key.now own.now)
    ∙ ap (λ (b : Bool). bytes_eq key.now own.now || b) (asked_for key names)

module _ (stage : ShaderStage) (before : List EntryPoint) (e : EntryPoint) where
  any_more : (p : EntryPoint → Bool) → list_any p (before ++ e ∷ []) ≡ (p e || list_any p before)
  any_more p = list_any-append p before (e ∷ []) ∙ ap (λ (b : Bool). list_any p before || b) (or-false (p e)) ∙ or_comm (list_any p before) (p e)

  -- the name of an entry point of the stage is one more
  pub one_more : (names : List Name) (key : Name) → AreNamesIn stage before (λ name. has name names) → key.now ≡ e.name → is_one_stage (Some stage) e.stage ≡ true → AreNamesIn stage (before ++ e ∷ []) (λ name. has name (insert_key order names key))
  one_more names key are is of_stage name =
      put_in name key names
      ∙ ap (λ (text : List ℕ). bytes_eq name text || has name names) is
      ∙ ap (λ (b : Bool). bytes_eq name e.name || b) (are name)
      ∙ ap (λ (b : Bool). (b && bytes_eq name e.name) || list_any (is_named stage name) before) (sym of_stage)
      ∙ sym (any_more (is_named stage name))

  -- an entry point of another stage adds none
  pub none_more : (names : List Name) → AreNamesIn stage before (λ name. has name names) → is_one_stage (Some stage) e.stage ≡ false → AreNamesIn stage (before ++ e ∷ []) (λ name. has name names)
  none_more names are other name =
      are name
      ∙ ap (λ (b : Bool). (b && bytes_eq name e.name) || list_any (is_named stage name) before) (sym other)
      ∙ sym (any_more (is_named stage name))

  -- whether an entry point is in conflict with one before it
  pub in_conflict : e.stage ≡ Some stage → list_any (is_named stage e.name) before ≡ list_any (is_conflict e) before
  in_conflict is = ap (λ (o : Option ShaderStage). list_any (λ (other : EntryPoint). is_one_stage o other.stage && bytes_eq e.name other.name) before) (sym is)

-- a stage that is not covered is not one that is
apart : (a b : ShaderStage) → is_covered a ≡ false → is_covered b ≡ true → (stage_flag a == stage_flag b) ≡ false
apart stage.Vertex b outside inside = cc outside
apart stage.Fragment b outside inside = cc outside
apart stage.Compute b outside inside = cc outside
apart stage.Task stage.Vertex outside inside = refl
apart stage.Task stage.Fragment outside inside = refl
apart stage.Task stage.Compute outside inside = refl
apart stage.Mesh stage.Vertex outside inside = refl
apart stage.Mesh stage.Fragment outside inside = refl
apart stage.Mesh stage.Compute outside inside = refl
apart stage.RayGeneration stage.Vertex outside inside = refl
apart stage.RayGeneration stage.Fragment outside inside = refl
apart stage.RayGeneration stage.Compute outside inside = refl
apart stage.Miss stage.Vertex outside inside = refl
apart stage.Miss stage.Fragment outside inside = refl
apart stage.Miss stage.Compute outside inside = refl
apart stage.AnyHit stage.Vertex outside inside = refl
apart stage.AnyHit stage.Fragment outside inside = refl
apart stage.AnyHit stage.Compute outside inside = refl
apart stage.ClosestHit stage.Vertex outside inside = refl
apart stage.ClosestHit stage.Fragment outside inside = refl
apart stage.ClosestHit stage.Compute outside inside = refl
apart _ _ outside inside = cc

other_stage : (a b : Option ShaderStage) → option_map_or is_covered a false ≡ false → option_map_or is_covered b false ≡ true → is_one_stage a b ≡ false
other_stage None b outside inside = refl
other_stage (Some x) None outside inside = cc
other_stage (Some x) (Some y) outside inside = apart x y outside inside

-- an entry point of a stage that is not covered is in conflict with none whose stage is
pub no_conflict : (e : EntryPoint) (before : List EntryPoint) → has_covered_stage e ≡ false → All (λ (other : EntryPoint). IsTrue (has_covered_stage other)) before → list_any (is_conflict e) before ≡ false
no_conflict e [] outside all = refl
no_conflict e (other ∷ rest) outside all =
    ap (λ (b : Bool). (b && bytes_eq e.name other.name) || list_any (is_conflict e) rest) (other_stage e.stage other.stage outside (all 0 other (omega arith)))
    ∙ no_conflict e rest outside (λ k d within. all (suc k) d (omega (arith, within)))

-- what is said of an entry point whose name is new
pub with_new_name : (s : InterfaceSurroundings) (known : KnownExpressions) (stages : ℕ) (before : List EntryPoint) (e : EntryPoint) → not (list_any (is_conflict e) before) ≡ true
    → entry_point_result s known stages before e ≡ entry_point_rule s known stages e
with_new_name s known stages before e is = ap (λ (b : Bool). let outcome : Result (Unit {0}) EntryPointError = first_error_or (require b Conflict ∷ entry_point_checks s known stages e e.stage) tt in outcome) is

-- what is said of an entry point whose name is not
pub with_taken_name : (s : InterfaceSurroundings) (known : KnownExpressions) (stages : ℕ) (before : List EntryPoint) (e : EntryPoint) → not (list_any (is_conflict e) before) ≡ false
    → entry_point_result s known stages before e ≡ Err Conflict
with_taken_name s known stages before e is = ap (λ (b : Bool). let outcome : Result (Unit {0}) EntryPointError = first_error_or (require b Conflict ∷ entry_point_checks s known stages e e.stage) tt in outcome) is

covered_stage : (s : InterfaceSurroundings) (known : KnownExpressions) (stages : ℕ) (e : EntryPoint) (o : Option ShaderStage) → first (entry_point_checks s known stages e o) ≡ None → option_map_or is_covered o false ≡ true
covered_stage s known stages e None none = cc none
covered_stage s known stages e (Some stage) none = unless-kept (is_covered stage) StageNotCovered (neither (require (is_covered stage) StageNotCovered) _ none).0

-- an entry point that is accepted is of a stage that is covered
pub accepted_stage : (s : InterfaceSurroundings) (known : KnownExpressions) (stages : ℕ) (e : EntryPoint) → entry_point_rule s known stages e ≡ Ok tt → has_covered_stage e ≡ true
accepted_stage s known stages e accepted = covered_stage s known stages e e.stage (granted-none (first (entry_point_checks s known stages e e.stage)) tt tt accepted)

apart_from : (o : Option ShaderStage) → option_map_or is_covered o false ≡ false → (stage : ShaderStage) → is_covered stage ≡ true → is_one_stage (Some stage) o ≡ false
apart_from None outside stage inside = refl
apart_from (Some x) outside stage inside = either_way (stage_flag stage) (stage_flag x) (apart x stage outside inside)
  where
    either_way : (a b : ℕ) → (b == a) ≡ false → (a == b) ≡ false
    either_way a b h = same_from_decides (a == b) (b == a) (Decides-eqb a b) (Decides-like (b == a) (λ (e : b ≡ a). sym e) (λ (e : a ≡ b). sym e) (Decides-eqb b a)) ∙ h

-- an entry point of a stage that is not covered adds no name
pub unnoted : (before : List EntryPoint) (e : EntryPoint) (names : EntryPointNames) → has_covered_stage e ≡ false → AreNamesOf before names → AreNamesOf (before ++ e ∷ []) names
unnoted before e names outside are = record {
  vertex = none_more stage.Vertex before e names.vertex.keys are.vertex (apart_from e.stage outside stage.Vertex refl);
  fragment = none_more stage.Fragment before e names.fragment.keys are.fragment (apart_from e.stage outside stage.Fragment refl);
  compute = none_more stage.Compute before e names.compute.keys are.compute (apart_from e.stage outside stage.Compute refl);
}
