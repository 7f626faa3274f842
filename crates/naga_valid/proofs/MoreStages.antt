-- Functions that are accepted under some capabilities are accepted under more, and no stage loses them.
use Rattle.std.proofs.Common.{◌≡◌, ◌&&◌, ◌≤◌, ◌∙◌, ℕ, zero, suc, Bool, true, false, List, [], ◌∷◌, ◌++◌, Option, Some, None, Ok, ap, arith, length, map, refl, slice_get, subst, subst₂, sym, take}
use Rattle.std.specs.Cmp.Derive.{both_true}
use Rattle.std.specs.List.{list_all}
use Rattle.std.specs.Prelude.{bit_or, if◌then◌else◌}
use Rattle.std.proofs.lemmas.Bool.{and_parts}
use Rattle.std.proofs.lemmas.List.{length-take-le, take_all}
use Rattle.std.proofs.lemmas.Option.{same_Some, slice_get_within}
use Rattle.naga_arena.proofs.InOrder.{found_at}
use Rattle.naga_exprs.proofs.MoreCapabilities.{expression-more}
use Rattle.naga_exprs.specs.Math.{MathTyping}
use Rattle.naga_exprs.specs.MoreCapabilities.{AllowsMore, AreUsableByMore}
use Rattle.naga_exprs.specs.Values.{stages_in}
use Rattle.naga_flags.proofs.HasLemmas.{has-bit_or, has-intersection, has-itself, has-trans, has-zero}
use Rattle.naga_flags.specs.Bits.{COMPUTE_LIKE, FRAGMENT, SUBGROUP, SUBGROUP_VERTEX_STAGE, VERTEX, all_stages, union_of}
use Rattle.naga_flags.specs.Flags.{has}
use Rattle.naga_flags.specs.declared.flags.ShaderStages.{ShaderStages}
use Rattle.naga_info.specs.ModuleInfo.{ModuleInfoLists}
use Rattle.naga_info.specs.declared.module_info.FunctionInfo.{FunctionInfo}
use Rattle.naga_ir.specs.declared.ir.Function.{Function}
use Rattle.naga_ir.specs.declared.ir.Module.{Module}
use Rattle.naga_typing.specs.Typings.{Resolves}
use Rattle.naga_typing.specs.declared.expression_kind.ExpressionKind.{ExpressionKind}
use Rattle.naga_typing.specs.declared.typifier.TypeResolution.{TypeResolution}
use Rattle.naga_valid.proofs.AllFunctions.{nothing_in_order, one_entry_point, one_function}
use Rattle.naga_valid.specs.AllFunctions.{AreInfosInOrder, IsInfoOf, Validation}
use Rattle.naga_valid.specs.Functions.{FunctionSurroundings, IsFunctionAccepted, IsRuleAt, common_stages, expression_surroundings, function_surroundings}
use Rattle.naga_valid.specs.MoreCapabilities.{AreAllUsableByMore, HasMoreCapabilities, IsUsableByMore, KnowsMoreStages}
use Rattle.naga_valid.specs.State.{State, stages_with}
use Rattle.naga_valid.specs.declared.function.Callable.TheVariants as callable

-- what is chosen for the first item stands before what is chosen for the others
chosen-at : {A B : Type 0} (item : A) (items : List A) (P : ℕ → A → B → Type 0) (b : B) (chosen : List B) → P zero item b
    → ((k : ℕ) (c : B) → slice_get chosen k ≡ Some c → (a : A) × (slice_get items k ≡ Some a) × P (suc k) a c)
    → (k : ℕ) (c : B) → slice_get (b ∷ chosen) k ≡ Some c → (a : A) × (slice_get (item ∷ items) k ≡ Some a) × P k a c
chosen-at item items P b chosen here rest zero c at = (item, refl, subst (P zero item) (same_Some b c at) here)
chosen-at item items P b chosen here rest (suc k) c at = rest k c at

-- a list of what there is for each item of another
choose : {A B : Type 0} (items : List A) (P : ℕ → A → B → Type 0) → ((k : ℕ) (a : A) → slice_get items k ≡ Some a → (b : B) × P k a b)
    → (chosen : List B) × (length chosen ≡ length items) × ((k : ℕ) (b : B) → slice_get chosen k ≡ Some b → (a : A) × (slice_get items k ≡ Some a) × P k a b)
choose [] P each = ([], refl, λ k b at. cc at)
choose (item ∷ items) P each =
    let one = each zero item refl in
    let rest = choose items (λ k. P (suc k)) (λ k. each (suc k)) in
    (one.0 ∷ rest.0, ap suc rest.1, chosen-at item items P one.0 rest.0 one.1 rest.2)

module _ {A : Type 0} (of : A → ℕ) (p : ℕ → Bool) where
  -- what holds of each item holds of all
  all-hold : (items : List A) → ((k : ℕ) (a : A) → slice_get items k ≡ Some a → p (of a) ≡ true) → list_all p (map of items) ≡ true
  all-hold [] each = refl
  all-hold (item ∷ items) each = both_true (each zero item refl) (all-hold items (λ k. each (suc k)))

  -- what holds of all items holds of each
  one-holds : (items : List A) → list_all p (map of items) ≡ true → (k : ℕ) (a : A) → slice_get items k ≡ Some a → p (of a) ≡ true
  one-holds [] all k a at = cc at
  one-holds (item ∷ items) all zero a at = subst (λ a. p (of a) ≡ true) (same_Some item a at) (and_parts (p (of item)) (list_all p (map of items)) all).0
  one-holds (item ∷ items) all (suc k) a at = one-holds items (and_parts (p (of item)) (list_all p (map of items)) all).1 k a at

abbrev bits : ShaderStages → ℕ
bits stages = stages.0

-- sets that each contain another contain what those have in common
common-more : (fewer stages : List ShaderStages) → ((k : ℕ) (b : ShaderStages) → slice_get stages k ≡ Some b → (a : ShaderStages) × (slice_get fewer k ≡ Some a) × (has b.0 a.0 ≡ true))
    → has (common_stages stages).0 (common_stages fewer).0 ≡ true
common-more fewer stages each =
    let common = (common_stages fewer).0 in
    let whole : (has all_stages common && list_all (λ set. has set common) (map bits fewer)) ≡ true = sym (has-intersection all_stages (map bits fewer) common) ∙ has-itself common in
    let parts = and_parts (has all_stages common) (list_all (λ set. has set common) (map bits fewer)) whole in
    has-intersection all_stages (map bits stages) common
    ∙ both_true parts.0
    (all-hold bits (λ set. has set common) stages
    (λ k b at. let found = each k b at in has-trans b.0 found.0.0 common found.2 (one-holds bits (λ set. has set common) fewer parts.1 k found.0 found.1)))

module _ (s : FunctionSurroundings) (more : ℕ) (stages : ShaderStages) (functions entry_points : List FunctionInfo)
    (capabilities : has more s.capabilities ≡ true) (subgroups : has stages.0 s.subgroup_stages.0 ≡ true) (known : AreUsableByMore s.infos.functions functions) where
  abbrev by_more : FunctionSurroundings
  by_more = record s { capabilities = more; subgroup_stages = stages; infos = record s.infos { functions = functions; entry_points = entry_points } }

  allows : (types : List TypeResolution) (kinds : List ExpressionKind) → AllowsMore (expression_surroundings s types kinds) (expression_surroundings by_more types kinds)
  allows types kinds = record { capabilities = capabilities; subgroup_stages = subgroups; functions = known; others = refl }

  rule-more : (types : List TypeResolution) (place : ℕ) (allowed : ShaderStages) → IsRuleAt s types place (Ok allowed) → (b : ShaderStages) × IsRuleAt by_more types place (Ok b) × (has b.0 allowed.0 ≡ true)
  rule-more types place allowed h =
      let kept = expression-more s.math (expression_surroundings s types h.1) (expression_surroundings by_more types h.1) (allows types h.1) h.0 allowed h.4 in
      (kept.0, (h.0, h.1, h.2, h.3, kept.1), kept.2)

  -- a function is accepted with the same types
  pub function-more : (info : FunctionInfo) → IsFunctionAccepted s info → (b : FunctionInfo) × IsFunctionAccepted by_more b × IsUsableByMore info b
  function-more info accepted =
      let kept = choose accepted.stages (λ k a b. IsRuleAt by_more info.types k (Ok b) × (has b.0 a.0 ≡ true)) (λ k a at. let one = rule-more info.types k a (accepted.rules k a at) in (one.0, (one.1, one.2))) in (
        record { available_stages = common_stages kept.0; types = info.types },
        record { types = accepted.types; stages = kept.0; as_many = kept.1 ∙ accepted.as_many; rules = λ k b at. (kept.2 k b at).2.0; common = refl },
        record {
          types = refl;
          stages =
              subst (λ (fewer : ShaderStages). has (common_stages kept.0).0 fewer.0 ≡ true) (sym accepted.common)
              (common-more accepted.stages kept.0 (λ k b at. let found = kept.2 k b at in (found.0, found.1, found.2.1)));
        },
      )

-- what is known of functions by their indexes
pub usable-by-more : (less more : List FunctionInfo) → AreAllUsableByMore less more → AreUsableByMore less more
usable-by-more less more h f = by_case (slice_get less f) refl
  where
    by_case : (found : Option FunctionInfo) → slice_get less f ≡ found → has (stages_in (slice_get more f)).0 (stages_in found).0 ≡ true
    by_case None at = has-zero (stages_in (slice_get more f)).0
    by_case (Some a) at =
        let there = found_at more f (omega (arith, h.as_many, slice_get_within less f a at)) in
        subst (λ (found : Option FunctionInfo). has (stages_in found).0 a.available_stages.0 ≡ true) (sym there.1) (h.each f a there.0 at there.1).stages

none-usable : AreAllUsableByMore [] []
none-usable = record { as_many = refl; each = λ k a b at also. cc at }

-- the functions after the first
rest-usable : (a b : FunctionInfo) (less more : List FunctionInfo) → AreAllUsableByMore (a ∷ less) (b ∷ more) → AreAllUsableByMore less more
rest-usable a b less more h = record { as_many = omega (arith, h.as_many); each = λ k. h.each (suc k) }

-- one before the others
first-usable : (a b : FunctionInfo) (less more : List FunctionInfo) → IsUsableByMore a b → AreAllUsableByMore less more → AreAllUsableByMore (a ∷ less) (b ∷ more)
first-usable a b less more one rest = record { as_many = ap suc rest.as_many; each = each }
  where
    each : (k : ℕ) (x y : FunctionInfo) → slice_get (a ∷ less) k ≡ Some x → slice_get (b ∷ more) k ≡ Some y → IsUsableByMore x y
    each zero x y at also = subst₂ IsUsableByMore (same_Some a x at) (same_Some b y also) one
    each (suc k) x y at also = rest.each k x y at also

-- one behind the others
one-usable : (less more : List FunctionInfo) (a b : FunctionInfo) → AreAllUsableByMore less more → IsUsableByMore a b → AreAllUsableByMore (less ++ a ∷ []) (more ++ b ∷ [])
one-usable [] [] a b h one = first-usable a b [] [] one none-usable
one-usable [] (y ∷ more) a b h one = absurd (omega (arith, h.as_many))
one-usable (x ∷ less) [] a b h one = absurd (omega (arith, h.as_many))
one-usable (x ∷ less) (y ∷ more) a b h one = first-usable x y (less ++ a ∷ []) (more ++ b ∷ []) (h.each zero x y refl refl) (one-usable less more a b (rest-usable x y less more h) one)

-- one more of the first items is the next one behind them
pub take-one-more : {A : Type 0} (items : List A) (n : ℕ) (a : A) → slice_get items n ≡ Some a → take (suc n) items ≡ take n items ++ a ∷ []
take-one-more [] n a at = cc at
take-one-more (item ∷ items) zero a at = ap (λ b. b ∷ []) (same_Some item a at)
take-one-more (item ∷ items) (suc n) a at = ap (λ rest. item ∷ rest) (take-one-more items n a at)

-- some flags, or none
part-more : (less more : Bool) (flags : ℕ) → (less ≡ true → more ≡ true) → has (if more then flags else 0) (if less then flags else 0) ≡ true
part-more true more flags holds = subst (λ b. has (if b then flags else 0) flags ≡ true) (sym (holds refl)) (has-itself flags)
part-more false more flags holds = has-zero (if more then flags else 0)

union-more : (a b c d : ℕ) → has c a ≡ true → has d b ≡ true → has (bit_or c d) (bit_or a b) ≡ true
union-more a b c d left right =
    let own = and_parts (has (bit_or c d) c) (has (bit_or c d) d) (sym (has-bit_or (bit_or c d) c d) ∙ has-itself (bit_or c d)) in
    has-bit_or (bit_or c d) a b ∙ both_true (has-trans (bit_or c d) c a own.0 left) (has-trans (bit_or c d) d b own.1 right)

-- a new validator lets no fewer stages use subgroups
pub stages-more : (less more : ℕ) → has more less ≡ true → has (stages_with more) (stages_with less) ≡ true
stages-more less more contained =
    union-more (if has less SUBGROUP_VERTEX_STAGE then VERTEX else 0) (if has less SUBGROUP then union_of (FRAGMENT ∷ COMPUTE_LIKE ∷ []) else 0)
    (if has more SUBGROUP_VERTEX_STAGE then VERTEX else 0) (if has more SUBGROUP then union_of (FRAGMENT ∷ COMPUTE_LIKE ∷ []) else 0)
    (part-more (has less SUBGROUP_VERTEX_STAGE) (has more SUBGROUP_VERTEX_STAGE) VERTEX (has-trans more less SUBGROUP_VERTEX_STAGE contained))
    (part-more (has less SUBGROUP) (has more SUBGROUP) (union_of (FRAGMENT ∷ COMPUTE_LIKE ∷ [])) (has-trans more less SUBGROUP contained))

module _ {T : Type 0} (resolves : T → Resolves) (math : T → MathTyping) (less more : State T) (h : HasMoreCapabilities less more) (subgroups : has more.subgroup_stages.0 less.subgroup_stages.0 ≡ true) (resolved : Bool) (m : Module) where
  abbrev By : Validation
  By = function_surroundings (resolves less.typing) (math less.typing) less resolved m

  abbrev ByMore : Validation
  ByMore = function_surroundings (resolves more.typing) (math more.typing) more resolved m

  -- a function that a validator accepts is accepted by one with more capabilities, if no fewer stages may
  -- use the functions that are known
  pub accepts-function-more : (f : Function) (fewer known : ModuleInfoLists) → KnowsMoreStages fewer known → (info : FunctionInfo) → IsFunctionAccepted (By f fewer) info
      → (now : FunctionInfo) × IsFunctionAccepted (ByMore f known) now × IsUsableByMore info now
  accepts-function-more f fewer known knows info accepted =
      subst (λ (typing : T). (now : FunctionInfo) × IsFunctionAccepted (function_surroundings (resolves typing) (math typing) more resolved m f known) now × IsUsableByMore info now) (sym h.typing)
      (subst (λ (lists : ModuleInfoLists). (now : FunctionInfo) × IsFunctionAccepted (function_surroundings (resolves less.typing) (math less.typing) more resolved m f lists) now × IsUsableByMore info now) (sym knows.others)
      (function-more (By f fewer) more.capabilities.0 more.subgroup_stages known.functions known.entry_points h.capabilities subgroups (usable-by-more fewer.functions known.functions knows.functions) info accepted))

  -- what is known of the first functions
  record FirstFunctions (lists : ModuleInfoLists) (n : ℕ) : Type 0 where
    known : List FunctionInfo
    in_order : AreInfosInOrder ByMore m (record lists { functions = known; entry_points = [] })
    usable : AreAllUsableByMore (take n lists.functions) known

  first-functions : (lists : ModuleInfoLists) → AreInfosInOrder By m lists → (n : ℕ) → n ≤ length lists.functions → FirstFunctions lists n
  first-functions lists in_order zero within = record { known = []; in_order = nothing_in_order ByMore m (record lists { functions = []; entry_points = [] }) refl refl; usable = none-usable }
  first-functions lists in_order (suc n) within =
      let before = first-functions lists in_order n (omega (arith, within)) in
      let fewer : ModuleInfoLists = record lists { functions = take n lists.functions; entry_points = [] } in
      let now_known : ModuleInfoLists = record lists { functions = before.known; entry_points = [] } in
      let found = found_at lists.functions n (omega (arith, within)) in
      let accepted = in_order.functions n found.0 found.1 in
      let one = accepts-function-more accepted.0 fewer now_known (record { functions = before.usable; entry_points = none-usable; others = refl }) found.0 accepted.2 in
      let as_many : length before.known ≡ n = before.usable.as_many ∙ length-take-le n lists.functions (omega (arith, within)) in
      let here : IsInfoOf ByMore m now_known (callable.Function (length before.known)) one.0 =
      subst (λ k. IsInfoOf ByMore m now_known (callable.Function k) one.0) (sym as_many) (accepted.0, accepted.1, one.1) in
      record {
        known = before.known ++ one.0 ∷ [];
        in_order = one_function ByMore m now_known one.0 refl before.in_order here;
        usable =
            subst (λ (infos : List FunctionInfo). AreAllUsableByMore infos (before.known ++ one.0 ∷ [])) (sym (take-one-more lists.functions n found.0 found.1))
            (one-usable (take n lists.functions) before.known found.0 one.0 before.usable one.2);
      }

  -- what is known of the first entry points, once the infos of all functions are
  record FirstEntryPoints (lists : ModuleInfoLists) (functions : List FunctionInfo) (n : ℕ) : Type 0 where
    known : List FunctionInfo
    in_order : AreInfosInOrder ByMore m (record lists { functions = functions; entry_points = known })
    usable : AreAllUsableByMore (take n lists.entry_points) known

  first-entry-points : (lists : ModuleInfoLists) → AreInfosInOrder By m lists → (functions : List FunctionInfo) → AreInfosInOrder ByMore m (record lists { functions = functions; entry_points = [] })
      → AreAllUsableByMore lists.functions functions → (n : ℕ) → n ≤ length lists.entry_points → FirstEntryPoints lists functions n
  first-entry-points lists in_order functions more_in_order usable zero within = record { known = []; in_order = more_in_order; usable = none-usable }
  first-entry-points lists in_order functions more_in_order usable (suc n) within =
      let before = first-entry-points lists in_order functions more_in_order usable n (omega (arith, within)) in
      let fewer : ModuleInfoLists = record lists { entry_points = take n lists.entry_points } in
      let now_known : ModuleInfoLists = record lists { functions = functions; entry_points = before.known } in
      let found = found_at lists.entry_points n (omega (arith, within)) in
      let accepted = in_order.entry_points n found.0 found.1 in
      let one = accepts-function-more accepted.0 fewer now_known (record { functions = usable; entry_points = before.usable; others = refl }) found.0 accepted.2 in
      let as_many : length before.known ≡ n = before.usable.as_many ∙ length-take-le n lists.entry_points (omega (arith, within)) in
      let here : IsInfoOf ByMore m now_known (callable.EntryPoint (length before.known)) one.0 =
      subst (λ k. IsInfoOf ByMore m now_known (callable.EntryPoint k) one.0) (sym as_many) (accepted.0, accepted.1, one.1) in
      record {
        known = before.known ++ one.0 ∷ [];
        in_order = one_entry_point ByMore m now_known one.0 before.in_order here;
        usable =
            subst (λ (infos : List FunctionInfo). AreAllUsableByMore infos (before.known ++ one.0 ∷ [])) (sym (take-one-more lists.entry_points n found.0 found.1))
            (one-usable (take n lists.entry_points) before.known found.0 one.0 before.usable one.2);
      }

  -- all functions and entry points that a validator accepts are accepted by one with more capabilities
  pub accepts-functions-more : (lists : ModuleInfoLists) → AreInfosInOrder By m lists → (known : ModuleInfoLists) × AreInfosInOrder ByMore m known × KnowsMoreStages lists known
  accepts-functions-more lists in_order =
      let functions = first-functions lists in_order (length lists.functions) (omega arith) in
      let whole : (infos : List FunctionInfo) → take (length infos) infos ≡ infos = λ infos. take_all (length infos) infos (omega arith) in
      let usable = subst (λ (infos : List FunctionInfo). AreAllUsableByMore infos functions.known) (whole lists.functions) functions.usable in
      let entry_points = first-entry-points lists in_order functions.known functions.in_order usable (length lists.entry_points) (omega arith) in (
        record lists { functions = functions.known; entry_points = entry_points.known },
        entry_points.in_order,
        record {
          functions = usable;
          entry_points = subst (λ (infos : List FunctionInfo). AreAllUsableByMore infos entry_points.known) (whole lists.entry_points) entry_points.usable;
          others = refl;
        },
      )
