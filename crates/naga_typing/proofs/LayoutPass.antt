-- Laying out types in their order.
use Rattle.std.proofs.Common.{◌≡◌, ◌<◌, ℕ, Bool, true, false, List, [], ◌∷◌, Result, Ok, Err, if◌then◌else◌, length, subst}
use Rattle.naga_ir.specs.Handles.{GlobalReferencesOk}
use Rattle.naga_ir.specs.ItemReferences.{GlobalLists}
use Rattle.naga_ir.specs.declared.types.«Type».{«Type»}
use Rattle.naga_ir.specs.declared.types.TypeInner.{TypeInner}
use Rattle.naga_ir.specs.declared.types.TypeInner.TheVariants.{Array}
use Rattle.naga_ir.proofs.ReferencesOfItems.{parts_come_before}
use Rattle.naga_typing.proofs.Iteration.{Computing, all_accepted, all_values, next_index, next_item}
use Rattle.naga_typing.specs.Layout.{AreLayouts, layout_of, layout_rule, size_rule}
use Rattle.naga_typing.specs.declared.layouter.LayoutErrorInner.{LayoutErrorInner}
use Rattle.naga_typing.specs.declared.layouter.LayoutErrorInner.TheVariants.{NonPowerOfTwoWidth, OutOfMemory, TooLarge}
use Rattle.naga_typing.specs.declared.layouter.TypeLayout.{TypeLayout}
use Rattle.naga_typing.specs.steps.Layout.{PartsLaidOut}

module _ (g : GlobalLists) where
  abbrev pub accepts : «Type» → Result (Unit {0}) LayoutErrorInner
  accepts t = layout_rule g t.inner

  either : (b : Bool) (r other : Result (Unit {0}) LayoutErrorInner) → ¬ (r ≡ Err OutOfMemory) → ¬ (other ≡ Err OutOfMemory) → ¬ ((if b then r else other) ≡ Err OutOfMemory)
  either true r other n m = n
  either false r other n m = m

  sized : (inner : TypeInner) → ¬ (size_rule g inner ≡ Err OutOfMemory)
  sized (Array base size stride) = either _ (Ok tt) (Err TooLarge) (λ e. absurd (cc)) (λ e. absurd (cc))
  sized _ = λ e. absurd (cc)

  -- the rule is never out of memory
  pub rule_not_out_of_memory : (inner : TypeInner) → ¬ (layout_rule g inner ≡ Err OutOfMemory)
  rule_not_out_of_memory inner = either _ (size_rule g inner) (Err NonPowerOfTwoWidth) (sized inner) (λ e. absurd (cc))

  -- the types so far have these layouts, and these types are left
  abbrev pub LaidOut : List TypeLayout → List (ℕ × «Type») → Type 0
  LaidOut = Computing (layout_of g) accepts g.types

  -- the parts of the next type are laid out
  pub next_parts : GlobalReferencesOk g → (layouts : List TypeLayout) (left : List (ℕ × «Type»)) (n : ℕ) (t : «Type») (more : List (ℕ × «Type»)) → LaidOut layouts left → left ≡ (n, t) ∷ more
      → PartsLaidOut layouts t.inner
  next_parts ok layouts left n t more w e u names =
      let there = next_item accepts g.types (length layouts) left n t more w.iterating e in
      subst (λ (k : ℕ). u < k) (next_index accepts g.types (length layouts) left n t more w.iterating e) (parts_come_before g ok n t u there names)

  -- if no type is left, all are laid out
  pub all_laid_out : (layouts : List TypeLayout) (left : List (ℕ × «Type»)) → LaidOut layouts left → left ≡ [] → AreLayouts g layouts
  all_laid_out layouts left w e = record {
    accepted = all_accepted accepts g.types (length layouts) left w.iterating e;
    in_order = all_values (layout_of g) accepts g.types layouts left w e;
  }
