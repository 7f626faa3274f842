-- Whatever is needed has a lower rank.
use Rattle.std.proofs.Common.{◌≡◌, ℕ, ◌+◌, ◌<◌, ◌≤◌, ◌⊎◌, inl, inr, length, Option, Some, None, Result, Ok, Err, OnOk, IfErr, arith, refl, ap}
use Rattle.std.proofs.lemmas.Bool.{cases_lt}
use Rattle.naga_arena.specs.Memory.{UnlessOutOfMemory}
use Rattle.naga_ir.specs.Handles.{NamesType, OrderedReference, constant, operand, override, part, size_initialiser, size_type}
use Rattle.naga_ir.specs.ItemReferences.{global_lists}
use Rattle.naga_ir.specs.Ranks.{DependsOn, first_waiting, goes_back, names_type, reach, sized, top_before}
use Rattle.naga_ir.specs.declared.ir.Module.{Module}
use Rattle.naga_ir.specs.declared.reference.Reference.{Reference}
use Rattle.naga_handles.specs.Order.{CanBeOrdered, NamesOrderFault, RanksFall, rank_of}
use Rattle.naga_handles.specs.steps.VisitState.{IsNoOrder}
use Rattle.naga_handles.specs.declared.error.ValidationFault.{ValidationFault}
use Rattle.naga_handles.specs.declared.error.ValidationFault.TheVariants.{Invalid, MissingMember, OutOfMemory}
use Rattle.naga_handles.proofs.OrderLemmas.{fault_breaks, named_there}
use Rattle.naga_handles.proofs.WaitingLemmas.{waiting_asks, waiting_before, waiting_grows, waiting_le, top_grows, top_has, top_le}
use Rattle.naga_handles.proofs.OrderFaults.{size_within}

module _ (m : Module) (a : CanBeOrdered m) where
  types_fall : (t u : ℕ) → u < t → u + top_before (global_lists m) (u + 1) < t + top_before (global_lists m) (t + 1)
  types_fall t u l = let g = top_grows (global_lists m) (u + 1) (t + 1) (omega (arith, l)) in omega (arith, l, g)

  expressions_fall : (e o : ℕ) → o < e → o + first_waiting (global_lists m) o < e + first_waiting (global_lists m) e
  expressions_fall e o l = let g = waiting_grows (global_lists m) o e (omega (arith, l)) in omega (arith, l, g)

  back : (s t : Reference) → OrderedReference (global_lists m) s t → rank_of (global_lists m) t < rank_of (global_lists m) s
  back _ _ (part t u x at h) = types_fall t u (a.back _ _ (part t u x at h))
  back _ _ (size_type t o x v at h there) = types_fall t v.ty (a.back _ _ (size_type t o x v at h there))
  back _ _ (operand e o x at h) = expressions_fall e o (a.back _ _ (operand e o x at h))
  back _ _ (constant e c d at there) = expressions_fall e d.init (a.back _ _ (constant e c d at there))
  back _ _ (override e o n v at there h) = expressions_fall e n (a.back _ _ (override e o n v at there h))

  size_falls : (t n : ℕ) → size_initialiser (global_lists m) t ≡ Some n → n + first_waiting (global_lists m) n < t + top_before (global_lists m) (t + 1)
  size_falls t n h =
      let r : reach (size_initialiser (global_lists m) t) ≡ n + 1 = ap reach h in
      let g = waiting_le (global_lists m) n t (size_within (global_lists m) t n h) (omega (arith, r)) in
      let b = top_has (global_lists m) t in
      omega (arith, r, g, b)

  named_before : (t e u : ℕ) (size : Option ℕ) → size_initialiser (global_lists m) t ≡ size → e < reach size → NamesType (global_lists m) e u → u < t
  named_before t e u None h l names = absurd (omega (arith, l))
  named_before t e u (Some n) h l names = a.sizes t n e u h (omega (arith, l)) names

  type_falls : (e u : ℕ) → NamesType (global_lists m) e u → u + top_before (global_lists m) (u + 1) < e + first_waiting (global_lists m) e
  type_falls e u names =
      let there : u < length m.types = named_there m a e u names.0 names.1 names.2 in
      let before : u < first_waiting (global_lists m) e = by_place there (cases_lt (first_waiting (global_lists m) e) (length m.types)) in
      let low = top_le (global_lists m) (u + 1) e (λ v l. waiting_before (global_lists m) e v (omega (arith, l, before))) in
      omega (arith, before, low)
    where
      by_place : u < length m.types → (first_waiting (global_lists m) e < length m.types) ⊎ (length m.types ≤ first_waiting (global_lists m) e) → u < first_waiting (global_lists m) e
      by_place there (inl l) = named_before (first_waiting (global_lists m) e) e u (size_initialiser (global_lists m) (first_waiting (global_lists m) e)) refl (waiting_asks (global_lists m) e l) names
      by_place there (inr l) = omega (arith, there, l)

  falls : (s t : Reference) → DependsOn (global_lists m) s t → rank_of (global_lists m) t < rank_of (global_lists m) s
  falls s t (goes_back _ _ h) = back s t h
  falls _ _ (sized t n h) = size_falls t n h
  falls _ _ (names_type e u names) = type_falls e u names

  -- along each edge ranks fall
  pub ranks_fall : RanksFall (global_lists m)
  ranks_fall = falls

-- ranks fall if the result says that items can be ordered
pub falls_if_ordered : {A E : Type 0} (m : Module) (r : Result A E) → OnOk r (CanBeOrdered m) → OnOk r (RanksFall (global_lists m))
falls_if_ordered m (Ok x) a = ranks_fall m a
falls_if_ordered m (Err e) a = tt

-- a result that is right in both cases decides
pub decides : {A : Type 0} (m : Module) (r : Result A ValidationFault) → OnOk r (CanBeOrdered m) → IfErr r (IsNoOrder m)
    → UnlessOutOfMemory (λ fault. fault ≡ OutOfMemory) r (λ _. CanBeOrdered m) (λ fault. NamesOrderFault m fault × (CanBeOrdered m → ⊥))
decides m (Ok x) a refused = a
decides m (Err fault) a refused = by_fault fault refused
  where
    by_walk : (f : ValidationFault) → NamesOrderFault m f → CanBeOrdered m → ⊥
    by_walk (Invalid e) names b = fault_breaks m b e names
    by_walk (MissingMember t name) names b = elim names [ ]
    by_walk OutOfMemory names b = elim names [ ]

    by_fault : (f : ValidationFault) → IsNoOrder m f → (f ≡ OutOfMemory) ⊎ (NamesOrderFault m f × (CanBeOrdered m → ⊥))
    by_fault f (inl e) = inl e
    by_fault f (inr names) = inr (names, by_walk f names)
