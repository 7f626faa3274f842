-- What expressions, constants, overrides and types refer to exists.
use Rattle.std.proofs.Common.{◌≡◌, ◌<◌, ◌⊎◌, ⊎_elim, ℕ, List, [], ◌∷◌, Option, Some, None, Contains, IfSome, length, slice_get, map, refl, sym, ap, subst, ◌∙◌, arith, option_to_list}
use Rattle.std.specs.List.{flat_map}
use Rattle.std.proofs.lemmas.List.Elements.{All-contains, All-contains_itself, Contains-append_right}
use Rattle.naga_ir.proofs.ReferencesOfItems.{all_of_expressions, item_in, of_constant, of_expression, of_override, of_type, only, type_in, within_all}
use Rattle.naga_ir.specs.Handles.{ExistsGlobally, GlobalReferencesOk}
use Rattle.naga_ir.specs.ItemReferences.{GlobalLists, expression_references, type_references}
use Rattle.naga_ir.specs.References.{named_item, named_type}
use Rattle.naga_ir.specs.declared.expression.Expression.{Expression}
use Rattle.naga_ir.specs.declared.expression.Expression.TheVariants as expression
use Rattle.naga_ir.specs.declared.ir.Constant.{Constant}
use Rattle.naga_ir.specs.declared.ir.Override.{Override}
use Rattle.naga_ir.specs.declared.reference.Reference.{Reference}
use Rattle.naga_ir.specs.declared.reference.Reference.TheVariants as to
use Rattle.naga_ir.specs.Parts.{parts, pending, size_override}
use Rattle.naga_ir.specs.declared.types.«Type».{«Type»}
use Rattle.naga_ir.specs.declared.types.ArraySize.{ArraySize}
use Rattle.naga_ir.specs.declared.types.TypeInner.{TypeInner}
use Rattle.naga_ir.specs.declared.types.TypeInner.TheVariants.{Array, BindingArray}
use Rattle.naga_ir.specs.declared.types.ArraySize.TheVariants.{Pending}
use Rattle.naga_typing.specs.Constants.{NamedItemsExist, NamedItemExists}
use Rattle.naga_typing.specs.Context.{ReferencesExist}

if_some : (P : ℕ → Type 0) (o : Option ℕ) → ((n : ℕ) → o ≡ Some n → P n) → IfSome o P
if_some P None h = tt
if_some P (Some n) h = h n refl

constant_named : (c : ℕ) → named_item (expression.Constant c) ≡ Some (to.Constant c)
unfolding named_item
constant_named c = refl

-- the override that sizes a type exists
pub size_override_exists : (g : GlobalLists) (inner : TypeInner) → ReferencesExist g inner → IfSome (size_override inner) (λ o. o < length g.overrides)
size_override_exists g inner there =
    if_some (λ o. o < length g.overrides) (size_override inner)
    (λ o e. All-contains (ExistsGlobally g) (type_references inner) (to.Override o) there
    (Contains-append_right (map to.Type_ (parts inner)) _ (to.Override o) (subst (λ (s : Option ℕ). Contains (map to.Override (option_to_list s)) (to.Override o)) (sym e) (only (to.Override o)))))

sized_by_array : (base : ℕ) (size : ArraySize) (stride : ℕ) → size_override (Array base size stride) ≡ pending size
unfolding size_override
sized_by_array base size stride = refl

-- the override that sizes an array exists
pub array_override_exists : (g : GlobalLists) (inner : TypeInner) (base : ℕ) (size : ArraySize) (stride : ℕ) → ReferencesExist g inner → inner ≡ Array base size stride → IfSome (pending size) (λ o. o < length g.overrides)
array_override_exists g inner base size stride there e =
    subst (λ o. IfSome o (λ o. o < length g.overrides)) (ap size_override e ∙ sized_by_array base size stride) (size_override_exists g inner there)

sized_by_binding_array : (base : ℕ) (size : ArraySize) → size_override (BindingArray base size) ≡ pending size
unfolding size_override
sized_by_binding_array base size = refl

-- the override that sizes an array or a binding array exists
pub sizing_override_exists : (g : GlobalLists) (inner : TypeInner) (size : ArraySize) (o : ℕ) → ReferencesExist g inner
    → ((base : ℕ) × (stride : ℕ) × (inner ≡ Array base size stride)) ⊎ ((base : ℕ) × (inner ≡ BindingArray base size)) → size ≡ Pending o → o < length g.overrides
sizing_override_exists g inner size o there form e =
    let named : size_override inner ≡ pending size = ⊎_elim
    (λ (a : (base : ℕ) × (stride : ℕ) × (inner ≡ Array base size stride)). ap size_override a.2 ∙ sized_by_array a.0 size a.1)
    (λ (b : (base : ℕ) × (inner ≡ BindingArray base size)). ap size_override b.1 ∙ sized_by_binding_array b.0 size)
    form in
    subst (λ (s : Option ℕ). IfSome s (λ o. o < length g.overrides)) (named ∙ ap pending e) (size_override_exists g inner there)

module _ (g : GlobalLists) (xs : List Expression) (named : NamedItemsExist g xs) where
  -- the type that an expression names exists
  pub named_type_exists : (k : ℕ) (x : Expression) → slice_get xs k ≡ Some x → IfSome (named_type x) (λ t. t < length g.types)
  named_type_exists k x at =
      if_some (λ t. t < length g.types) (named_type x)
      (λ t e. All-contains (NamedItemExists g) (flat_map expression_references xs) (to.Type_ t) named (within_all expression_references xs k x (to.Type_ t) at (type_in x t e)))

  -- the constant that an expression names exists
  pub named_constant_exists : (k c : ℕ) → slice_get xs k ≡ Some (expression.Constant c) → c < length g.constants
  named_constant_exists k c at =
      let x : Expression = expression.Constant c in
      All-contains (NamedItemExists g) (flat_map expression_references xs) (to.Constant c) named
      (within_all expression_references xs k x (to.Constant c) at (item_in x (to.Constant c) (constant_named c)))

module _ (g : GlobalLists) (ok : GlobalReferencesOk g) where
  named_globally : (r : Reference) → ExistsGlobally g r → NamedItemExists g r
  named_globally (to.Type_ t) h = h
  named_globally (to.Constant c) h = h
  named_globally (to.Override o) h = h
  named_globally _ h = tt

  -- the types, constants and overrides that global expressions name exist
  pub named_items_exist : NamedItemsExist g g.expressions
  named_items_exist k d within = named_globally _ (all_of_expressions g ok k d within)

  -- the type that a global expression names exists
  pub global_type_exists : (e : ℕ) (x : Expression) → slice_get g.expressions e ≡ Some x → IfSome (named_type x) (λ t. t < length g.types)
  global_type_exists e x at = if_some (λ t. t < length g.types) (named_type x) (λ t n. of_expression g ok e x (to.Type_ t) at (type_in x t n))

  -- the initialiser of a constant exists
  pub initialiser_exists : (c : ℕ) (x : Constant) → slice_get g.constants c ≡ Some x → x.init < length g.expressions
  initialiser_exists c x at = of_constant g ok c x (to.Expression x.init) at (1, omega arith, refl)

  -- the initialiser of an override exists
  pub override_initialiser_exists : (o : ℕ) (x : Override) (e : ℕ) → slice_get g.overrides o ≡ Some x → x.init ≡ Some e → e < length g.expressions
  override_initialiser_exists o x e at begins =
      of_override g ok o x (to.Expression e) at
      (Contains-append_right (to.Type_ x.ty ∷ []) _ (to.Expression e) (subst (λ (i : Option ℕ). Contains (map to.Expression (option_to_list i)) (to.Expression e)) (sym begins) (only (to.Expression e))))

  -- everything that a type of the list refers to exists
  pub references_exist : (t : ℕ) (x : «Type») → slice_get g.types t ≡ Some x → ReferencesExist g x.inner
  references_exist t x at k d within = of_type g ok t x _ at (All-contains_itself (type_references x.inner) k d within)
