use Rattle.std.proofs.Common.{◌≡◌, ◌<◌, ◌≤◌, ◌*◌, ℕ, suc, true≢false, List, [], ◌∷◌, Option, Some, None, cond, All, Bool, true, false, length, get_or, refl, sym, ap, subst, ◌∙◌, arith}
use Rattle.std.specs.List.{find, flat_map, slice_get}
use Rattle.std.specs.Option.{option_map, unwrap_or}
use Rattle.std.specs.Prelude.{IsOk, Result, Ok, Err, if◌then◌else◌, leb}
use Rattle.std.proofs.lemmas.Bool.{leb-true}
use Rattle.std.proofs.lemmas.List.Elements.{All-contains, Contains-append_left}
use Rattle.std.proofs.lemmas.List.Folds.{find_at}
use Rattle.std.proofs.lemmas.List.Sums.{position_or_len_is}
use Rattle.std.proofs.lemmas.Option.{get_or_from_slice_get, slice_get-map, slice_get_read, slice_get_within}
use Rattle.naga_immediates.proofs.SlotParts.{inner_is}
use Rattle.naga_immediates.specs.Slots.{immediate_size, is_immediate}
use Rattle.naga_ir.proofs.Handles.{global_references_ok}
use Rattle.naga_ir.proofs.ReferencesOfItems.{within_all}
use Rattle.naga_ir.specs.Handles.{Exists, GlobalReferencesOk, HandlesAccepted, module_counts}
use Rattle.naga_ir.specs.ItemReferences.{GlobalLists, global_lists, global_variable_references, other_references}
use Rattle.naga_ir.specs.declared.ir.GlobalVariable.{GlobalVariable as Variable}
use Rattle.naga_ir.specs.declared.ir.Module.{Module}
use Rattle.naga_ir.specs.declared.reference.Reference.TheVariants as to
use Rattle.naga_ir.specs.declared.types.«Type».{«Type»}
use Rattle.naga_ir.specs.declared.types.TypeInner.{TypeInner}
use Rattle.naga_ir.specs.declared.types.TypeInner.TheVariants.{Array}
use Rattle.naga_typing.proofs.Existence.{references_exist}
use Rattle.naga_typing.specs.Context.{lists_of}
use Rattle.naga_typing.specs.Layout.{SizeFits, element_count, layout_results, layout_rule, max_type_size, size_of}
use Rattle.naga_typing.specs.declared.layouter.LayoutErrorInner.{LayoutErrorInner}
use Rattle.naga_typing.specs.declared.layouter.LayoutErrorInner.TheVariants.{TooLarge}
use Rattle.naga_typing.specs.Leaves.{size_at_index}
use Rattle.naga_immediates.proofs.immediates.ImmediateSlots.size_for_module.Goals as goal

-- the types of a module's variables exist
variable_typed : (m : Module) → HandlesAccepted m → (i : ℕ) (v : Variable) → slice_get m.global_variables i ≡ Some v → v.ty < length m.types
variable_typed m h i v at =
    All-contains (Exists (module_counts m)) (other_references m) (to.Type_ v.ty) h.exist.others
    (Contains-append_left (flat_map global_variable_references m.global_variables) _ (to.Type_ v.ty) (within_all global_variable_references m.global_variables i v (to.Type_ v.ty) at (0, omega arith, refl)))

abbrev fine : Result (Unit {0}) LayoutErrorInner
fine = Ok tt

within_max : (n : ℕ) (b : Bool) → leb n max_type_size ≡ b → IsOk (if b then fine else Err TooLarge) → n ≤ 4294967295
within_max n true e h = let under : n ≤ 2147483647 = leb-true n 2147483647 e in omega arith
within_max n false e h = absurd (true≢false (sym h))

-- what has a layout has a size of 32 bits
laid_out_fits : (g : GlobalLists) (inner : TypeInner) → IsOk (layout_rule g inner) → SizeFits g inner
unfolding lib.Count.ones
laid_out_fits g (Array base size stride) h = within_max (element_count g size * stride) (leb (element_count g size * stride) max_type_size) refl h
laid_out_fits g _ h = tt

fits_at : (g : GlobalLists) (t : ℕ) (x : «Type») → All IsOk (layout_results g) → slice_get g.types t ≡ Some x → SizeFits g x.inner
fits_at g t x all at =
    let there : slice_get (layout_results g) t ≡ Some (layout_rule g x.inner) = slice_get-map (λ (t : «Type»). layout_rule g t.inner) g.types t ∙ ap (option_map (λ (t : «Type»). layout_rule g t.inner)) at in
    laid_out_fits g x.inner (subst IsOk (get_or_from_slice_get (layout_results g) t (layout_rule g x.inner) (layout_rule g x.inner) there) (all t (layout_rule g x.inner) (slice_get_within (layout_results g) t (layout_rule g x.inner) there)))

pub index-requires : goal.index-requires
index-requires c =
    let at = slice_get_read c.as_slice-variable-items.result.now _ c.loop-variable.variable-index c.variable-item.result refl c.loop-variable-test.true c.variable-item.is in
    subst (λ (ts : List «Type»). c.variable-item.result.ty < length ts) (sym c.to_ctx-gctx.ensures.types)
    (variable_typed c.args.module.now c.requires.handles c.loop-variable.variable-index c.variable-item.result (subst (λ (vs : List Variable). slice_get vs c.loop-variable.variable-index ≡ Some c.variable-item.result) c.as_slice-variable-items.ensures at))

pub size-requires-clause-references : goal.size-requires-clause-references
size-requires-clause-references c = subst GlobalReferencesOk (sym c.to_ctx-gctx.ensures.lists) (global_references_ok c.args.module.now c.requires.handles)

pub size-requires-clause-exist : goal.size-requires-clause-exist
size-requires-clause-exist c = references_exist (lists_of c.to_ctx-gctx.result) (subst GlobalReferencesOk (sym c.to_ctx-gctx.ensures.lists) (global_references_ok c.args.module.now c.requires.handles)) _ _ c.index.ensures

pub size-requires-clause-fits : goal.size-requires-clause-fits
size-requires-clause-fits c = fits_at (lists_of c.to_ctx-gctx.result) _ c.index.result.now (subst (λ g. All IsOk (layout_results g)) (sym c.to_ctx-gctx.ensures.lists) c.requires.laid_out) c.index.ensures

module _ (g : GlobalLists) (variables : List Variable) (i : ℕ) (none : (k : ℕ) (d : Variable) → k < i → is_immediate (get_or variables k d).space ≡ false) where
  first_is : (v : Variable) (x : «Type») → slice_get variables i ≡ Some v → is_immediate v.space ≡ true → slice_get g.types v.ty ≡ Some x → immediate_size g variables ≡ size_of g x.inner
  first_is v x at is there =
      let within : i < length variables = slice_get_within variables i v at in
      let place = position_or_len_is (λ (v : Variable). is_immediate v.space) variables i v (omega arith) (λ k before. none k v before) (λ _. subst (λ (w : Variable). is_immediate w.space ≡ true) (sym (get_or_from_slice_get variables i v v at)) is) in
      ap (λ (o : Option Variable). unwrap_or (option_map (λ (v : Variable). size_at_index g v.ty) o) 0) (find_at (λ (v : Variable). is_immediate v.space) variables ∙ ap (slice_get variables) place ∙ at)
      ∙ ap (λ (o : Option TypeInner). unwrap_or (option_map (size_of g) o) 0) (inner_is g v.ty x there)

none_found : (variables : List Variable) → ((k : ℕ) (d : Variable) → k < length variables → is_immediate (get_or variables k d).space ≡ false) → find (λ (v : Variable). is_immediate v.space) variables ≡ None
none_found [] all = refl
none_found (v ∷ rest) all =
    ap (λ b. cond b (Some v) (find (λ (v : Variable). is_immediate v.space) rest)) (all 0 v (omega arith)) ∙ none_found rest (λ k d within. all (suc k) d (omega arith))

pub returns-in-Immediate : goal.returns-in-Immediate
returns-in-Immediate c =
    let at = slice_get_read c.as_slice-variable-items.result.now _ c.loop-variable.variable-index c.variable-item.result refl c.loop-variable-test.true c.variable-item.is in
    let found = first_is (lists_of c.to_ctx-gctx.result) c.as_slice-variable-items.result.now c.loop-variable.variable-index c.loop-variable.invariant c.variable-item.result c.index.result.now at (ap is_immediate c.in-Immediate.is) c.index.ensures in
    c.size.ensures ∙ sym found ∙ ap (λ g. immediate_size g c.as_slice-variable-items.result.now) c.to_ctx-gctx.ensures.lists ∙ ap (immediate_size (global_lists c.args.module.now)) c.as_slice-variable-items.ensures

pub returns : goal.returns
returns c =
    let nothing = none_found c.as_slice-variable-items.result.now (λ k d within. c.loop-variable.invariant k d (omega (arith, c.loop-variable-test.false))) in
    ap (λ (o : Option Variable). unwrap_or (option_map (λ (v : Variable). size_at_index (global_lists c.args.module.now) v.ty) o) 0) (sym nothing)
    ∙ ap (immediate_size (global_lists c.args.module.now)) c.as_slice-variable-items.ensures
