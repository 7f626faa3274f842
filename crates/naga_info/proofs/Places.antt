-- What expressions refer to exists, and comes before them.
use Rattle.std.proofs.Common.{◌≡◌, ◌<◌, ℕ, Contains, Some, IfSome, length, slice_get, arith}
use Rattle.std.proofs.lemmas.List.Elements.{All-weaker}
use Rattle.std.specs.List.{flat_map}
use Rattle.naga_ir.proofs.Handles.{global_references_ok}
use Rattle.naga_ir.specs.Handles.{Exists, ExpressionReferencesOk, GlobalReferencesOk, HandlesAccepted, constant, function_counts, operand, own_operand}
use Rattle.naga_ir.specs.ItemReferences.{GlobalLists, expression_references, global_lists}
use Rattle.naga_ir.specs.References.{named_type, operands}
use Rattle.naga_ir.specs.declared.expression.Expression.{Expression}
use Rattle.naga_ir.specs.declared.expression.Expression.TheVariants as form
use Rattle.naga_ir.specs.declared.ir.Constant.{Constant}
use Rattle.naga_ir.specs.declared.ir.Function.{Function}
use Rattle.naga_ir.specs.declared.ir.Module.{Module}
use Rattle.naga_ir.specs.declared.reference.Reference.{Reference}
use Rattle.naga_ir.specs.declared.reference.Reference.TheVariants as to
use Rattle.naga_info.specs.Integers.{Scope, expression_at, operand_place}
use Rattle.naga_info.specs.declared.sources.Place.{Place}
use Rattle.naga_info.specs.declared.sources.Place.TheVariants.{InFunction, InModule}
use Rattle.naga_info.specs.Sources.{PlaceExists, rank}
use Rattle.naga_typing.proofs.Existence.{global_type_exists, initialiser_exists, named_constant_exists, named_items_exist, named_type_exists}
use Rattle.naga_typing.specs.Constants.{NamedItemExists, NamedItemsExist}

-- what exists for a function exists in its module, if it is a type, a constant or an override
named_in_module : (m : Module) (f : Function) (r : Reference) → Exists (function_counts m f) r → NamedItemExists (global_lists m) r
named_in_module m f (to.Type_ t) h = h
named_in_module m f (to.Constant c) h = h
named_in_module m f (to.Override o) h = h
named_in_module m f (to.GlobalVariable v) h = tt
named_in_module m f (to.Expression e) h = tt
named_in_module m f (to.LocalVariable v) h = tt
named_in_module m f (to.Function i) h = tt
named_in_module m f (to.DiagnosticFilterNode d) h = tt
named_in_module m f (to.Emit range) h = tt

-- the handles of a module and of a function in it are right
pub record AreInScope (s : Scope) : Type 0 where
  pub handles : HandlesAccepted s.«module»
  pub in_function : ExpressionReferencesOk s.«module» s.function

module _ (s : Scope) (sound : AreInScope s) where
  abbrev g : GlobalLists
  g = global_lists s.«module»

  global_ok : GlobalReferencesOk g
  global_ok = global_references_ok s.«module» sound.handles

  -- the types, constants and overrides that the function's expressions name exist
  pub items_exist : NamedItemsExist g s.function.expressions
  items_exist = All-weaker (Exists (function_counts s.«module» s.function)) (NamedItemExists g) (named_in_module s.«module» s.function) (flat_map expression_references s.function.expressions) sound.in_function.expressions

  -- the constant at a place exists
  pub constant_exists : (p : Place) (c : ℕ) → expression_at s p ≡ Some (form.Constant c) → c < length s.«module».constants
  constant_exists (InFunction e) c at = named_constant_exists g s.function.expressions items_exist e c at
  constant_exists (InModule e) c at = named_constant_exists g s.«module».global_expressions (named_items_exist g global_ok) e c at

  -- the type that the expression at a place names exists
  pub type_exists : (p : Place) (x : Expression) → expression_at s p ≡ Some x → IfSome (named_type x) (λ t. t < length s.«module».types)
  type_exists (InFunction e) x at = named_type_exists g s.function.expressions items_exist e x at
  type_exists (InModule e) x at = global_type_exists g global_ok e x at

  -- an operand comes before
  pub operand_before : (p : Place) (x : Expression) (o : ℕ) → PlaceExists s p → expression_at s p ≡ Some x → Contains (operands x) o → rank s (operand_place p o) < rank s p
  operand_before (InFunction e) x o there at within = let back : o < e = sound.in_function.back (to.Expression e) (to.Expression o) (own_operand e o x at within) in omega (arith, back)
  operand_before (InModule e) x o there at within = let back : o < e = global_ok.back (to.Expression e) (to.Expression o) (operand e o x at within) in back

  -- an operand exists
  pub operand_exists : (p : Place) (x : Expression) (o : ℕ) → PlaceExists s p → expression_at s p ≡ Some x → Contains (operands x) o → PlaceExists s (operand_place p o)
  operand_exists (InFunction e) x o there at within = let back : o < e = sound.in_function.back (to.Expression e) (to.Expression o) (own_operand e o x at within) in omega (arith, back, there)
  operand_exists (InModule e) x o there at within = let back : o < e = global_ok.back (to.Expression e) (to.Expression o) (operand e o x at within) in omega (arith, back, there)

  -- the initialiser of a constant exists
  pub initialiser_there : (c : ℕ) (d : Constant) → slice_get s.«module».constants c ≡ Some d → PlaceExists s (InModule d.init)
  initialiser_there c d at = initialiser_exists g global_ok c d at

  -- the initialiser of a constant comes before the constant
  pub initialiser_before : (p : Place) (c : ℕ) (d : Constant) → expression_at s p ≡ Some (form.Constant c) → slice_get s.«module».constants c ≡ Some d → rank s (InModule d.init) < rank s p
  initialiser_before (InFunction e) c d at names = let there : d.init < length s.«module».global_expressions = initialiser_exists g global_ok c d names in omega (arith, there)
  initialiser_before (InModule e) c d at names = global_ok.back (to.Expression e) (to.Expression d.init) (constant e c d at names)
