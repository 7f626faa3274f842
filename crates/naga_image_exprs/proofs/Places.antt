-- What the expressions of a function, the variables and the types of a module refer to exists.
use Rattle.std.proofs.Common.{◌≡◌, ◌<◌, ◌⊎◌, inl, inr, ℕ, List, Some, Contains, length, map, slice_get, refl, subst, arith, option_to_list}
use Rattle.std.specs.List.{flat_map}
use Rattle.std.proofs.lemmas.List.Elements.{All-contains, Contains-append_left}
use Rattle.naga_arena.proofs.Elements.{all_at, contains-map}
use Rattle.naga_ir.proofs.Handles.{global_references_ok}
use Rattle.naga_ir.proofs.ReferencesOfItems.{item_in, within_all}
use Rattle.naga_ir.specs.Handles.{Exists, ExistsGlobally, function_counts, module_counts}
use Rattle.naga_ir.specs.ItemReferences.{expression_references, global_lists, global_variable_references, named_references, other_references, type_references}
use Rattle.naga_ir.specs.References.{named_item, operands}
use Rattle.naga_ir.specs.declared.expression.Expression.{Expression}
use Rattle.naga_ir.specs.declared.expression.Expression.TheVariants as form
use Rattle.naga_ir.specs.declared.ir.FunctionArgument.{FunctionArgument}
use Rattle.naga_ir.specs.declared.ir.GlobalVariable.{GlobalVariable}
use Rattle.naga_ir.specs.declared.reference.Reference.{Reference}
use Rattle.naga_ir.specs.declared.reference.Reference.TheVariants as to
use Rattle.naga_ir.specs.Parts.{parts, size_override}
use Rattle.naga_ir.specs.declared.types.«Type».{«Type»}
use Rattle.naga_ir.specs.declared.types.ArraySize.{ArraySize}
use Rattle.naga_ir.specs.declared.types.TypeInner.{TypeInner}
use Rattle.naga_ir.specs.declared.types.TypeInner.TheVariants.{BindingArray}
use Rattle.naga_info.specs.Surroundings.{AreSound, ExpressionSurroundings}
use Rattle.naga_typing.proofs.Existence.{references_exist}
use Rattle.naga_typing.proofs.FormOperands.{of_access, of_access_index}
use Rattle.naga_typing.specs.Context.{ReferencesExist}

variable_named : (v : ℕ) → named_item (form.GlobalVariable v) ≡ Some (to.GlobalVariable v)
unfolding named_item
variable_named v = refl

type_of_binding : (base : ℕ) (size : ArraySize) → Contains (map to.Type_ (parts (BindingArray base size))) (to.Type_ base)
unfolding parts
type_of_binding base size = (0, omega arith, refl)

module _ (s : ExpressionSurroundings) (sound : AreSound s) where
  -- what an expression of the function refers to exists
  of_expression : (e : ℕ) (x : Expression) (r : Reference) → slice_get s.function.expressions e ≡ Some x → Contains (expression_references x) r → Exists (function_counts s.«module» s.function) r
  of_expression e x r at within =
      All-contains (Exists (function_counts s.«module» s.function)) (flat_map expression_references s.function.expressions) r sound.in_function.expressions
      (within_all expression_references s.function.expressions e x r at within)

  -- a variable of the module that an expression names exists
  pub variable_exists : (e v : ℕ) → slice_get s.function.expressions e ≡ Some (form.GlobalVariable v) → v < length s.«module».global_variables
  variable_exists e v at =
      let x : Expression = form.GlobalVariable v in of_expression e x (to.GlobalVariable v) at (item_in x (to.GlobalVariable v) (variable_named v))

  -- each operand of an expression exists
  pub operand_exists : (e o : ℕ) (x : Expression) → slice_get s.function.expressions e ≡ Some x → Contains (operands x) o → o < length s.function.expressions
  operand_exists e o x at within =
      of_expression e x (to.Expression o) at (Contains-append_left (map to.Expression (operands x)) (named_references x) (to.Expression o) (contains-map to.Expression (operands x) o within))

  -- the type of a variable of the module exists
  pub variable_type_exists : (v : ℕ) (x : GlobalVariable) → slice_get s.«module».global_variables v ≡ Some x → x.ty < length s.«module».types
  variable_type_exists v x at =
      let variables : List Reference = flat_map global_variable_references s.«module».global_variables in
      All-contains (Exists (module_counts s.«module»)) (other_references s.«module») (to.Type_ x.ty) sound.handles.exist.others
      (Contains-append_left variables _ (to.Type_ x.ty) (within_all global_variable_references s.«module».global_variables v x (to.Type_ x.ty) at (0, omega arith, refl)))

  -- the type of an argument exists
  pub argument_type_exists : (i : ℕ) (a : FunctionArgument) → slice_get s.function.arguments i ≡ Some a → a.ty < length s.«module».types
  argument_type_exists i a at = all_at (λ (a : FunctionArgument). a.ty < length s.«module».types) s.function.arguments i a sound.in_function.arguments at

  -- the type of the bindings of a binding array exists
  pub binding_type_exists : (t : ℕ) (x : «Type») (base : ℕ) (size : ArraySize) → slice_get s.«module».types t ≡ Some x → x.inner ≡ BindingArray base size → base < length s.«module».types
  binding_type_exists t x base size at is =
      let g = global_lists s.«module» in
      let form : TypeInner = BindingArray base size in
      let named : List Reference = map to.Type_ (parts form) in
      All-contains (ExistsGlobally g) (type_references form) (to.Type_ base) (subst (ReferencesExist g) is (references_exist g (global_references_ok s.«module» sound.handles) t x at))
      (Contains-append_left named (map to.Override (option_to_list (size_override form))) (to.Type_ base) (type_of_binding base size))

  -- the base of an access exists
  pub base_exists : (e base : ℕ) (x : Expression) → slice_get s.function.expressions e ≡ Some x → ((index : ℕ) × (x ≡ form.Access base index)) ⊎ ((index : ℕ) × (x ≡ form.AccessIndex base index))
      → base < length s.function.expressions
  base_exists e base x at (inl h) = operand_exists e base x at (of_access x base h.0 h.1)
  base_exists e base x at (inr h) = operand_exists e base x at (of_access_index x base h.0 h.1)
