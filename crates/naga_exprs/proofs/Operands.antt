-- What a global expression is composed or splatted of comes before it, and what it is composed to is a type.
use Rattle.std.proofs.Common.{◌≡◌, ◌<◌, ◌≤◌, ℕ, List, All, Contains, IfSome, Some, get_or, length, slice_get, refl, subst, sym, ap, ◌∙◌, arith}
use Rattle.std.proofs.lemmas.List.Elements.{All-contains_itself}
use Rattle.naga_ir.specs.Handles.{GlobalReferencesOk}
use Rattle.naga_ir.specs.Handles.OrderedReference.{operand}
use Rattle.naga_ir.specs.ItemReferences.{GlobalLists}
use Rattle.naga_ir.specs.References.{named_type, operands}
use Rattle.naga_ir.specs.declared.expression.Expression.{Expression}
use Rattle.naga_ir.specs.declared.expression.Expression.TheVariants as form
use Rattle.naga_ir.specs.declared.reference.Reference.TheVariants as to
use Rattle.naga_ir.specs.declared.types.VectorSize.{VectorSize}
use Rattle.naga_typing.proofs.Existence.{global_type_exists}
use Rattle.naga_typing.proofs.FormOperands.{of_splat}

composed_of : (ty : ℕ) (components : List ℕ) → operands (form.Compose ty components) ≡ components
unfolding operands
composed_of ty components = refl

composed_to : (ty : ℕ) (components : List ℕ) → named_type (form.Compose ty components) ≡ Some ty
unfolding named_type
composed_to ty components = refl

module _ (g : GlobalLists) (ok : GlobalReferencesOk g) (e n : ℕ) (x : Expression) (at : slice_get g.expressions e ≡ Some x) (le : e ≤ n) where
  operand_before : (o : ℕ) → Contains (operands x) o → o < n
  operand_before o within = let before : o < e = ok.back (to.Expression e) (to.Expression o) (operand e o x at within) in omega arith

  -- the type of a composition exists
  pub type_exists : (ty : ℕ) (components : List ℕ) → x ≡ form.Compose ty components → ty < length g.types
  type_exists ty components is = subst (λ t. IfSome t (λ t. t < length g.types)) (ap named_type is ∙ composed_to ty components) (global_type_exists g ok e x at)

  -- the components of a composition come before it
  pub components_before : (ty : ℕ) (components : List ℕ) → x ≡ form.Compose ty components → All (λ o. o < n) components
  components_before ty components is k d within =
      let o = get_or components k d in
      operand_before o (subst (λ os. Contains os o) (sym (ap operands is ∙ composed_of ty components)) (All-contains_itself components k d within))

  -- what is splatted comes before
  pub splatted_before : (size : VectorSize) (value : ℕ) → x ≡ form.Splat size value → value < n
  splatted_before size value is = operand_before value (of_splat x size value is)
