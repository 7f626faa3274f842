-- Adding the infos of functions and entry points in order.
use Rattle.std.proofs.Common.{◌≡◌, ◌<◌, ◌≤◌, ◌∙◌, ⊎_elim, ℕ, List, [], ◌∷◌, ◌++◌, Some, length, slice_get, take, sym, ap, subst, arith, length-append}
use Rattle.std.specs.Prelude.{Result, option_map}
use Rattle.std.proofs.Math.Nat.{eq-or-lt_of_le}
use Rattle.std.proofs.lemmas.List.{take-append-le, take_all}
use Rattle.std.proofs.lemmas.Option.{same_Some, slice_get_within}
use Rattle.naga_arena.proofs.InOrder.{found_at, get_stays}
use Rattle.naga_arena.proofs.Progress.{slice_get-seam}
use Rattle.naga_info.specs.ModuleInfo.{ModuleInfoLists}
use Rattle.naga_info.specs.declared.module_info.FunctionInfo.{FunctionInfo}
use Rattle.naga_ir.specs.Handles.{HandlesAccepted}
use Rattle.naga_ir.specs.declared.ir.EntryPoint.{EntryPoint}
use Rattle.naga_ir.specs.declared.ir.Function.{Function}
use Rattle.naga_ir.specs.declared.ir.Module.{Module}
use Rattle.naga_valid.proofs.FunctionLaws.{ready_in_order}
use Rattle.naga_valid.specs.AllFunctions.{AddsInfos, AreInfosInOrder, EachInOrder, HaveInfos, IsInfoOf, IsNext, IsThere, Validation, function_of}
use Rattle.naga_valid.specs.Functions.{IsFunctionReady}
use Rattle.naga_valid.specs.declared.function.Callable.{Callable}
use Rattle.naga_valid.specs.declared.function.Callable.TheVariants as callable
use Rattle.naga_valid.specs.declared.function.FunctionsError.{FunctionsError}
use Rattle.naga_valid.specs.steps.AllFunctions.{IsInfoAdded}

module _ {V : Type 0} (P : List V → ℕ → V → Type 0) (values : List V) where
  -- there is no value
  pub none_in_order : values ≡ [] → EachInOrder P values
  none_in_order none k v at = absurd (omega (arith, slice_get_within values k v at, ap length none))

  -- one more value stands behind the others
  pub one_more_in_order : (v : V) → EachInOrder P values → P values (length values) v → EachInOrder P (values ++ v ∷ [])
  one_more_in_order v each here k w at =
      let reached : k ≤ length values = omega (arith, slice_get_within (values ++ v ∷ []) k w at, length-append values (v ∷ [])) in
      let before : take k (values ++ v ∷ []) ≡ take k values = take-append-le k values (v ∷ []) reached in
      subst (λ l. P l k w) (sym before)
      (⊎_elim
      (λ (e : k ≡ length values).
      let same : v ≡ w = same_Some v w (sym (slice_get-seam values [] v) ∙ ap (slice_get (values ++ v ∷ [])) (sym e) ∙ at) in
      let whole : take k values ≡ values = ap (λ n. take n values) e ∙ take_all (length values) values (omega arith) in
      subst (λ l. P l k w) (sym whole) (subst (λ n. P values n w) (sym e) (subst (P values (length values)) same here)))
      (λ (earlier : k < length values). each k w (sym (get_stays values (v ∷ []) k earlier) ∙ at))
      (eq-or-lt_of_le reached))

module _ (by : Validation) (m : Module) where
  -- infos in order with no info of an entry point, and one more of a function
  pub one_function : (lists : ModuleInfoLists) (info : FunctionInfo) → lists.entry_points ≡ [] → AreInfosInOrder by m lists → IsInfoOf by m lists (callable.Function (length lists.functions)) info
      → AreInfosInOrder by m (record lists { functions = lists.functions ++ info ∷ [] })
  one_function lists info none in_order accepted =
      let as_before : lists ≡ record lists { entry_points = [] } = ap (λ (l : List FunctionInfo). record lists { entry_points = l }) none in
      let here = subst (λ (l : ModuleInfoLists). IsInfoOf by m l (callable.Function (length lists.functions)) info) as_before accepted in
      record {
        functions = one_more_in_order (λ before i info. IsInfoOf by m (record lists { functions = before; entry_points = [] }) (callable.Function i) info) lists.functions info in_order.functions here;
        entry_points = none_in_order (λ before i own. IsInfoOf by m (record lists { functions = lists.functions ++ info ∷ []; entry_points = before }) (callable.EntryPoint i) own) lists.entry_points none;
      }

  -- infos in order, and one more of an entry point
  pub one_entry_point : (lists : ModuleInfoLists) (info : FunctionInfo) → AreInfosInOrder by m lists → IsInfoOf by m lists (callable.EntryPoint (length lists.entry_points)) info
      → AreInfosInOrder by m (record lists { entry_points = lists.entry_points ++ info ∷ [] })
  one_entry_point lists info in_order here = record {
    functions = in_order.functions;
    entry_points = one_more_in_order (λ before i info. IsInfoOf by m (record lists { entry_points = before }) (callable.EntryPoint i) info) lists.entry_points info in_order.entry_points here;
  }

  -- infos stay in order with the next one
  pub added_in_order : (at : Callable) (old new : ModuleInfoLists) → IsNext m old at → AreInfosInOrder by m old → IsInfoAdded by m at old new → AreInfosInOrder by m new
  added_in_order (callable.Function i) old new next in_order a =
      let here = subst (λ (n : ℕ). IsInfoOf by m old (callable.Function n) a.info) (sym next.1) a.accepted in
      subst (AreInfosInOrder by m) (sym a.added) (one_function old a.info next.2 in_order here)
  added_in_order (callable.EntryPoint i) old new next in_order a =
      let here = subst (λ (n : ℕ). IsInfoOf by m old (callable.EntryPoint n) a.info) (sym next.2) a.accepted in
      subst (AreInfosInOrder by m) (sym a.added) (one_entry_point old a.info in_order here)

  -- nothing is in order
  pub nothing_in_order : (lists : ModuleInfoLists) → lists.functions ≡ [] → lists.entry_points ≡ [] → AreInfosInOrder by m lists
  nothing_in_order lists functions entry_points = record {
    functions = none_in_order (λ before i info. IsInfoOf by m (record lists { functions = before; entry_points = [] }) (callable.Function i) info) lists.functions functions;
    entry_points = none_in_order (λ before i info. IsInfoOf by m (record lists { entry_points = before }) (callable.EntryPoint i) info) lists.entry_points entry_points;
  }

  -- infos of entry points that are added after the infos of all functions
  pub added_after : (old between new : ModuleInfoLists) (result : Result (Unit {0}) FunctionsError) → between ≡ record old { functions = between.functions; entry_points = between.entry_points }
      → AddsInfos by m (HaveInfos m) between new result → AddsInfos by m (HaveInfos m) old new result
  added_after old between new result others h = record {
    others = h.others ∙ ap (λ (l : ModuleInfoLists). record l { functions = new.functions; entry_points = new.entry_points }) others;
    in_order = h.in_order;
    returned = h.returned;
  }

-- the next function or entry point can be validated
pub next_can : (m : Module) (lists : ModuleInfoLists) (at : Callable) (f : Function) → HandlesAccepted m → IsNext m lists at → function_of m at ≡ Some f → IsFunctionReady m f (length lists.functions)
next_can m lists (callable.Function i) f h next there = subst (IsFunctionReady m f) (sym next.1) ((ready_in_order m h).functions i f there)
next_can m lists (callable.EntryPoint i) f h next there =
    let e = found_at m.entry_points i next.0 in
    let same : e.0.function ≡ f = same_Some e.0.function f (sym (ap (option_map (λ (e : EntryPoint). e.function)) e.1) ∙ there) in
    subst (λ (n : ℕ). IsFunctionReady m f n) (sym next.1) (subst (λ (f : Function). IsFunctionReady m f (length m.functions)) same ((ready_in_order m h).entry_points i e.0 e.1))

-- the next function or entry point exists
pub next_there : (m : Module) (lists : ModuleInfoLists) (at : Callable) → IsNext m lists at → IsThere m at
next_there m lists (callable.Function i) next = next.0
next_there m lists (callable.EntryPoint i) next = next.0
