-- The machine values of a `Loose` and of an `OpenModule`. Assumes `Logic`.
use Rattle.std.proofs.Common.{◌≡◌, ℕ, List, [], ◌∷◌, ◌++◌, refl, subst, lit<}
use mathlib.Core.Bool.{Bool, true, false, ◌&&◌}
use lib.Dec.{T}
use seplogic.Ra.Ura.{Ura}
use mir.Syntax.{impl, ty_ptr, tnil, dnil}
use mir.Raw.{raw as bare}
use mir.Val.{Val, vptr, vstruct, vcons, vnil, of_list, has_ty, WT}
use base.Logic.{SProp, ent, guard, guard_i, via, never, fst∗, snd∗}
use types.Logic.{Logic, sem}
use types.Kit.{Item, Goal, Seq, Step, step, ‵, given, ◌$◌, use1, learn, move, drop, fsplit, fjoin, fpick, fpack, feq_i, feq_l}
use denote.RattleType.{RattleType, Valss}
use denote.Builtin.{RawPtr}
use denote.Memory.{lone}
use denote.RawPtr.{Ptr, block_ptr, null_ptr, ptr_val, in_a_block, Testable}
use denote.Steps.{nothing}
use denote.Param.{layout}
use denote.Param.Laws.{Laws}
use denote.Struct.Struct.{within}
use denote.Struct.Owning.{shape}
use Rattle.std.specs.declared.alloc.Allocator.{Ghosts}
use Rattle.std.specs.declared.alloc.Global.{Global}
use Rattle.std.specs.declared.option.Option.{Option}
use Rattle.std.specs.contracts.alloc.Global as heap
use Rattle.std.specs.contracts.impls.GlobalAllocator.TheImpl.{ghosts}
use contract.Monad.{fact_use}
use Rattle.std.proofs.GlobalToken.{dealloc_token-Testable}
use Rattle.std.proofs.alloc.Calls.{Al, handle_tells}
use Rattle.std.proofs.alloc.Global.TheLaws as heap_laws
use Rattle.std.proofs.cell.Inside.{Good}
use Rattle.std.specs.Ptr.{points_to}
use Rattle.std.specs.Box.Ownership.{box_owns}
use Rattle.std.proofs.ResultValues.{and_tt}
use Rattle.naga_c.specs.OpenModules.{open_module_owns}
use Rattle.naga_c.specs.contracts.open_module.OpenModule as open_module
use Rattle.naga_c.specs.contracts.loose.Loose as loose
use Rattle.naga_c.specs.contracts.accepted.AcceptedModule as accepted
use Rattle.std.specs.declared.option.Option.TheVariants.{None, Some}
use Rattle.naga_c.specs.declared.accepted.AcceptedModule.{AcceptedModule}

-- a struct of two values
abbrev pub both : Val → Val → Val
both v w = vstruct (vcons v (vcons w vnil))

-- the row of an `OpenModule`
abbrev pub Open : RattleType
Open = open_module.the_row

-- the row of its allocator
abbrev pub Heap : RattleType
Heap = heap.the_row

-- a pointer has the type of pointers
pub pointer_good : (p : Ptr) → Good ty_ptr (ptr_val p)
pointer_good (block_ptr b o) = (tt, tt)
pointer_good null_ptr = (tt, record { fits = lit< tt })

both_tt : (x y : Bool) → T x → T y → T (x && (y && true))
both_tt true true s t = tt
both_tt true false s t = absurd t
both_tt false y s t = absurd s

-- a pointer and an allocator have the type of the two
pub both_good : (v h : Val) → Good ty_ptr v → Good (layout Heap) h → Good (layout Open) (both v h)
both_good v h p fits = (both_tt (has_ty ty_ptr v) (has_ty (layout Heap) h) p.0 fits.0, (p.1, (fits.1, tt)))

module _ (R Z : RattleType) (L : Laws Z) (g : Ghosts Z.Denot) where
  -- the row of a `Loose`
  abbrev pub Loose : RattleType
  Loose = loose.the_row R Z g

  -- its allocator
  abbrev al : Al
  al = record { row = Z; laws = L; g = g; d = impl [] tnil dnil; drops = impl [] tnil dnil }

  pub loose_good : (b o : ℕ) (h : Val) → Good (layout Z) h → T (has_ty (layout Z) h && true) × WT (both (vptr b o) h)
  loose_good b o h fits = (and_tt (has_ty (layout Z) h) fits.0, (tt, (fits.1, tt)))

  module _ {M : Type 1} {𝓤 : Ura M} {𝓛 : Logic 𝓤} {K : Type 0} {Γ : List (Item 𝓤)} {G : Goal 𝓤 𝓛.H} where
    -- what a `Loose` owns: the box's memory, and its allocator
    pub loose_out : K → (d : Loose.Denot) (vs : List Val)
        → ((b o : ℕ) (h : Val) → d.at ≡ block_ptr b o → vs ≡ both (vptr b o) h ∷ [] → Good (layout Z) h → Seq K 𝓛 (‵ (box_owns (g.dealloc_token d.alloc) R (block_ptr b o) d.value) ∷ ‵ (Z.own_val d.alloc (h ∷ [])) ∷ Γ) G)
        → Seq K 𝓛 (‵ (Loose.own_val d vs) ∷ Γ) G
    loose_out t d vs k =
        fsplit t $ fpick t (λ vss. fsplit t $ feq_l t (λ ev. fsplit t $ feq_l t (λ ep. fsplit t $ handle_tells al t d.alloc vss.1.0 (λ h ea fits. move t (1 ∷ []) $ drop t $ move t (1 ∷ []) $
        in_a_block t d.at (λ p. box_owns (g.dealloc_token d.alloc) R p d.value) (fst∗ 𝓤 (never 𝓤) (sem 𝓛 (g.dealloc_token d.alloc (bare (lone R.mir)) null_ptr))) (λ b o e. k b o h e
        (subst (λ (p : Ptr). vs ≡ vstruct (of_list (ptr_val p ∷ h ∷ [])) ∷ []) e
        (subst (λ (ws : List Val). vs ≡ vstruct (of_list (ptr_val d.at ∷ (ws ++ []))) ∷ []) ea (subst (λ (ps : List Val). vs ≡ vstruct (of_list (ps ++ (vss.1.0 ++ []))) ∷ []) ep ev))) fits)))))

    -- a `Loose` of that
    pub loose_in : K → (b o : ℕ) (h : Val) (a : Z.Denot) (x : R.Denot)
        → Step K 𝓛 (‵ (Loose.own_val (record { at = block_ptr b o; alloc = a; value = x }) (both (vptr b o) h ∷ [])) ∷ Γ) G (‵ (box_owns (g.dealloc_token a) R (block_ptr b o) x) ∷ ‵ (Z.own_val a (h ∷ [])) ∷ Γ) G
    loose_in t b o h a x = step (λ s. let v : Val = both (vptr b o) h in
        nothing t $ move t (2 ∷ 0 ∷ []) $ fjoin t $ feq_i t (List Val) (vptr b o ∷ []) (vptr b o ∷ []) refl $ fjoin t $ feq_i t (List Val) (v ∷ []) (v ∷ []) refl $ fjoin t $
        fpack t (Valss (RawPtr ∷ Z ∷ [])) (within (shape (loose.the_type R Z g)) (block_ptr b o, (a, tt)) (v ∷ [])) (vptr b o ∷ [], (h ∷ [], tt)) $ fjoin t $ s)

-- the allocator of an `OpenModule`
abbrev heap_al : Al
heap_al = record { row = Heap; laws = heap_laws.the_row_laws; g = ghosts; d = impl [] tnil dnil; drops = impl [] tnil dnil }

-- the row of what an `OpenModule` has
abbrev pub Kept : RattleType
Kept = accepted.the_row

-- the pointer of a box may be tested for null
tested : {M : Type 1} {𝓤 : Ura M} (𝓛 : Logic 𝓤) (a : Global) (p : Ptr) (x : AcceptedModule)
    → ent 𝓤 (sem 𝓛 (box_owns (ghosts.dealloc_token a) Kept p x)) (guard 𝓤 (Testable p) (sem 𝓛 (box_owns (ghosts.dealloc_token a) Kept p x)))
tested {𝓤 = 𝓤} 𝓛 a p x = let B : SProp 𝓤 = sem 𝓛 (box_owns (ghosts.dealloc_token a) Kept p x) in
    fact_use 𝓤 (Testable p) (via 𝓤 _ (snd∗ 𝓤 (sem 𝓛 (points_to Kept p x)) (sem 𝓛 (ghosts.dealloc_token a (bare (lone Kept.mir)) p))) (dealloc_token-Testable 𝓛 a (bare (lone Kept.mir)) p)) (guard_i 𝓤 (Testable p) B)

module _ {M : Type 1} {𝓤 : Ura M} {𝓛 : Logic 𝓤} {K : Type 0} {Γ : List (Item 𝓤)} {G : Goal 𝓤 𝓛.H} where
  -- what an `OpenModule` owns: the memory at its address, and its allocator
  pub open_module_out : K → (d : Open.Denot) (vs : List Val)
      → ((h : Val) → vs ≡ both (ptr_val d.at) h ∷ [] → Good (layout Heap) h → Seq K 𝓛 (‵ (open_module_owns d.alloc d.at d.held) ∷ ‵ (Heap.own_val d.alloc (h ∷ [])) ∷ Γ) G)
      → Seq K 𝓛 (‵ (Open.own_val d vs) ∷ Γ) G
  open_module_out t d vs k =
      fsplit t $ fpick t (λ vss. fsplit t $ feq_l t (λ ev. fsplit t $ feq_l t (λ ep. fsplit t $ handle_tells heap_al t d.alloc vss.1.0 (λ h ea fits. move t (1 ∷ []) $ drop t $ move t (1 ∷ []) $
      k h (subst (λ (ws : List Val). vs ≡ vstruct (of_list (ptr_val d.at ∷ (ws ++ []))) ∷ []) ea (subst (λ (ps : List Val). vs ≡ vstruct (of_list (ps ++ (vss.1.0 ++ []))) ∷ []) ep ev)) fits))))

  -- an `OpenModule` of that
  pub open_module_in : K → (p : Ptr) (h : Val) (a : Global) (x : Option AcceptedModule)
      → Step K 𝓛 (‵ (Open.own_val (record { at = p; alloc = a; held = x }) (both (ptr_val p) h ∷ [])) ∷ Γ) G (‵ (open_module_owns a p x) ∷ ‵ (Heap.own_val a (h ∷ [])) ∷ Γ) G
  open_module_in t p h a x = step (λ s. let v : Val = both (ptr_val p) h in
      nothing t $ move t (2 ∷ 0 ∷ []) $ fjoin t $ feq_i t (List Val) (ptr_val p ∷ []) (ptr_val p ∷ []) refl $ fjoin t $ feq_i t (List Val) (v ∷ []) (v ∷ []) refl $ fjoin t $
      fpack t (Valss (RawPtr ∷ heap.the_field.row ∷ [])) (within (shape open_module.the_type) (p, (heap.the_type.to a, tt)) (v ∷ [])) (ptr_val p ∷ [], (h ∷ [], tt)) $ fjoin t $ s)

  -- an open module at null has nothing, and any other has a box, whose pointer may be tested
  pub by_held : K → (a : Global) (p : Ptr) (held : Option AcceptedModule)
      → (p ≡ null_ptr → held ≡ None → Seq K 𝓛 Γ G)
      → ((b o : ℕ) (x : AcceptedModule) → p ≡ block_ptr b o → held ≡ Some x → Testable (block_ptr b o) → Seq K 𝓛 (‵ (box_owns (ghosts.dealloc_token a) Kept (block_ptr b o) x) ∷ Γ) G)
      → Seq K 𝓛 (‵ (open_module_owns a p held) ∷ Γ) G
  by_held t a p None none some = fpick t (λ is. drop t $ none is refl)
  by_held t a p (Some x) none some =
      in_a_block t p (λ q. box_owns (ghosts.dealloc_token a) Kept q x) (fst∗ 𝓤 (never 𝓤) (sem 𝓛 (ghosts.dealloc_token a (bare (lone Kept.mir)) null_ptr))) (λ b o is.
      use1 𝓛 (given (Testable (block_ptr b o)) (‵ (box_owns (ghosts.dealloc_token a) Kept (block_ptr b o) x))) (tested 𝓛 a (block_ptr b o) x) $ learn t (λ may. some b o x is refl may))
