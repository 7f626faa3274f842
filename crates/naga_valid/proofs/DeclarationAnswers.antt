-- What is returned of functions and entry points, one after another.
use Rattle.std.proofs.Common.{◌≡◌, ◌∙◌, ◌+◌, ◌<◌, ◌≤◌, ◌||◌, ◌++◌, ◌∷◌, [], ⊎_elim, ℕ, suc, Bool, true, false, not, IsTrue, All, IfSome, OnOk, List, Option, Some, Result, Ok, Err, inl, inr, refl, sym, ap, arith, length, slice_get, subst, take}
use Rattle.std.specs.List.{list_any}
use Rattle.std.specs.Prelude.{ltb}
use Rattle.std.proofs.Math.Nat.{eq-or-lt_of_le}
use Rattle.std.proofs.lemmas.List.Elements.{All-append, All-cons, All-nil}
use Rattle.naga_info.specs.ModuleInfo.{ModuleInfoLists}
use Rattle.naga_info.specs.declared.module_info.FunctionInfo.{FunctionInfo}
use Rattle.naga_interface.specs.EntryPoints.{IsEntryPointResult, takes_memory as entry_takes_memory}
use Rattle.naga_interface.specs.Functions.{IsDeclarationResult, has_initialisers}
use Rattle.naga_interface.specs.declared.error.EntryPointError.{EntryPointError}
use Rattle.naga_interface.specs.declared.error.EntryPointError.TheVariants as entry_point_error
use Rattle.naga_interface.specs.declared.error.FunctionDeclarationError.{FunctionDeclarationError}
use Rattle.naga_ir.specs.declared.ir.EntryPoint.{EntryPoint}
use Rattle.naga_ir.specs.declared.ir.Function.{Function}
use Rattle.naga_ir.specs.declared.ir.Module.{Module}
use Rattle.naga_typing.proofs.ExpressionKinds.{kinds_exist}
use Rattle.naga_valid.proofs.MoreStages.{take-one-more}
use Rattle.naga_valid.proofs.NamesInOrder.{accepted_stage, with_new_name, with_taken_name}
use Rattle.naga_valid.specs.Interfaces.{IsDeclarationOf, IsDeclarationRefusal, IsInterfaceOf, KeepDeclarations, KeepInterfaces, is_conflict, known_of, surroundings_of, takes_memory}
use Rattle.naga_valid.specs.State.{State}
use Rattle.naga_valid.specs.steps.Interfaces.{IsDeclarationAnswer, IsInterfaceAnswer, has_covered_stage}

-- what holds of each index below a number, and of that number, holds below the next
one_index_more : (P : ℕ → Type 0) (n : ℕ) → ((i : ℕ) → i < n → P i) → P n → (i : ℕ) → i < n + 1 → P i
one_index_more P n before here i within = ⊎_elim (λ (e : i ≡ n). subst P (sym e) here) (λ (earlier : i < n). before i earlier) (eq-or-lt_of_le (let reached : i ≤ n = omega (arith, within) in reached))

-- one more of the first items is the next one behind them
pub taken_one_more : {A : Type 0} (items : List A) (n : ℕ) (a : A) → slice_get items n ≡ Some a → take (n + 1) items ≡ take n items ++ a ∷ []
taken_one_more items n a at = ap (λ k. take k items) (let next : n + 1 ≡ suc n = omega arith in next) ∙ take-one-more items n a at

-- what holds if a result is `Ok` holds on it
pub on_ok : {E : Type 0} (r : Result (Unit {0}) E) (P : Type 0) → (r ≡ Ok tt → P) → OnOk r P
on_ok (Ok u) P h = h refl
on_ok (Err e) P h = tt

or_right : (a b : Bool) → IsTrue b → IsTrue (a || b)
or_right true b h = refl
or_right false b h = h

or_left : (a b : Bool) → IsTrue a → IsTrue (a || b)
or_left true b h = refl
or_left false b h = cc h

module _ {T : Type 0} (state : State T) (m : Module) (lists : ModuleInfoLists) where
  -- what is returned of one function
  pub declaration_answer : (i : ℕ) (f : Function) (info : FunctionInfo) (result : Result (Unit {0}) FunctionDeclarationError) → slice_get m.functions i ≡ Some f → slice_get lists.functions i ≡ Some info
      → IsDeclarationResult (surroundings_of state m) info.types f result → IsDeclarationAnswer state m lists i result
  declaration_answer i f info result at has (kinds, are, inl is) = inl (record { function = f; there = at; info = info; has_info = has; kinds = kinds; are_kinds = are; rule = sym is })
  declaration_answer i f info result at has (kinds, are, inr (is, needs)) = inr (is, subst (λ (o : Option Function). IfSome o (λ f. IsTrue (has_initialisers f))) (sym at) needs)

  -- one more function declares what it may
  pub one_more_declared : (i : ℕ) (result : Result (Unit {0}) FunctionDeclarationError) → KeepDeclarations state m lists i → IsDeclarationAnswer state m lists i result → result ≡ Ok tt → KeepDeclarations state m lists (i + 1)
  one_more_declared i result before (inl is) ok = one_index_more (λ k. IsDeclarationOf state m lists k (Ok tt)) i before (subst (IsDeclarationOf state m lists i) ok is)
  one_more_declared i result before (inr (is, needs)) ok = cc (is, ok)

  -- a function whose declarations are refused is the first
  pub declaration_refused : (i : ℕ) (source : FunctionDeclarationError) → i < length m.functions → KeepDeclarations state m lists i → IsDeclarationAnswer state m lists i (Err source) → IsDeclarationRefusal state m lists i source
  declaration_refused i source there before (inl is) = record { there = there; before = before; refused = inl is }
  declaration_refused i source there before (inr (is, needs)) = record { there = there; before = before; refused = inr (cc is, needs) }

  -- what is returned of one entry point, whose name is new
  pub interface_answer : (i : ℕ) (e : EntryPoint) (info : FunctionInfo) (result : Result (Unit {0}) EntryPointError) → slice_get m.entry_points i ≡ Some e → slice_get lists.entry_points i ≡ Some info
      → not (list_any (is_conflict e) (take i m.entry_points)) ≡ true → IsEntryPointResult (surroundings_of state m) info e result → IsInterfaceAnswer state m lists i result
  interface_answer i e info result at has new (kinds, are, inl is) = inl (record {
    entry_point = e;
    there = at;
    info = info;
    has_info = has;
    kinds = kinds;
    are_kinds = are;
    rule = with_new_name (surroundings_of state m) (known_of info kinds) info.available_stages.0 (take i m.entry_points) e new ∙ sym is;
  })
  interface_answer i e info result at has new (kinds, are, inr (is, needs)) = inr (is, subst (λ (o : Option EntryPoint). IfSome o (λ e. IsTrue (takes_memory state m e))) (sym at) (or_right (ltb 1 (length m.entry_points)) (entry_takes_memory (surroundings_of state m) e) needs))

  -- what is returned of one whose name is taken
  pub conflict_answer : (i : ℕ) (e : EntryPoint) (info : FunctionInfo) → slice_get m.entry_points i ≡ Some e → slice_get lists.entry_points i ≡ Some info
      → not (list_any (is_conflict e) (take i m.entry_points)) ≡ false → IsInterfaceAnswer state m lists i (Err entry_point_error.Conflict)
  conflict_answer i e info at has taken =
      let kinds = kinds_exist e.function.expressions in
      inl (record {
        entry_point = e;
        there = at;
        info = info;
        has_info = has;
        kinds = kinds.0;
        are_kinds = kinds.1;
        rule = with_taken_name (surroundings_of state m) (known_of info kinds.0) info.available_stages.0 (take i m.entry_points) e taken;
      })

  -- what is returned of one whose name finds no memory
  pub memory_answer : (i : ℕ) (e : EntryPoint) → slice_get m.entry_points i ≡ Some e → ltb 1 (length m.entry_points) ≡ true → IsInterfaceAnswer state m lists i (Err entry_point_error.OutOfMemory)
  memory_answer i e at several = inr (refl, subst (λ (o : Option EntryPoint). IfSome o (λ e. IsTrue (takes_memory state m e))) (sym at) (or_left (ltb 1 (length m.entry_points)) (entry_takes_memory (surroundings_of state m) e) several))

  -- one more entry point keeps its rules
  pub one_more_interface : (i : ℕ) (result : Result (Unit {0}) EntryPointError) → KeepInterfaces state m lists i → IsInterfaceAnswer state m lists i result → result ≡ Ok tt → KeepInterfaces state m lists (i + 1)
  one_more_interface i result before (inl is) ok = one_index_more (λ k. IsInterfaceOf state m lists k (Ok tt)) i before (subst (IsInterfaceOf state m lists i) ok is)
  one_more_interface i result before (inr (is, needs)) ok = cc (is, ok)

  -- an entry point that is accepted is of a stage that is covered
  pub answered_stage : (info : FunctionInfo) (e : EntryPoint) (result : Result (Unit {0}) EntryPointError) → IsEntryPointResult (surroundings_of state m) info e result → result ≡ Ok tt → has_covered_stage e ≡ true
  answered_stage info e result (kinds, are, inl is) ok = accepted_stage (surroundings_of state m) (known_of info kinds) info.available_stages.0 e (sym is ∙ ok)
  answered_stage info e result (kinds, are, inr (is, needs)) ok = cc (is, ok)

  -- the stages of the first entry points are covered, and so is that of one more
  pub one_more_covered : (i : ℕ) (e : EntryPoint) → slice_get m.entry_points i ≡ Some e → has_covered_stage e ≡ true → All (λ (e : EntryPoint). IsTrue (has_covered_stage e)) (take i m.entry_points)
      → All (λ (e : EntryPoint). IsTrue (has_covered_stage e)) (take (i + 1) m.entry_points)
  one_more_covered i e at covered before =
      let Covered : EntryPoint → Type 0 = λ (e : EntryPoint). IsTrue (has_covered_stage e) in
      subst (All Covered) (sym (taken_one_more m.entry_points i e at)) (All-append Covered (take i m.entry_points) (e ∷ []) before (All-cons Covered e [] covered (All-nil Covered)))
