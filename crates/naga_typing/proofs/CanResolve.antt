-- Expressions that can be resolved: what they refer to exists, and which expressions can be.
use Rattle.std.proofs.Common.{◌≡◌, ◌<◌, ℕ, suc, List, [], ◌∷◌, Option, Some, None, All, Contains, IfSome, length, map, slice_get, refl, ap, option_to_list, arith}
use Rattle.std.specs.List.{flat_map}
use Rattle.std.proofs.lemmas.List.Elements.{All-append, All-contains, All-cons, All-nil}
use Rattle.std.specs.Option.{option_and_then}
use Rattle.naga_arena.proofs.Elements.{all-left, all-of, all-right, all-unmap, all_at}
use Rattle.naga_ir.proofs.Handles.{global_references_ok}
use Rattle.naga_ir.proofs.ReferencesOfItems.{item_in, within_all}
use Rattle.naga_ir.specs.Handles.{Exists, ExpressionReferencesOk, HandlesAccepted, among_globals, module_counts, operand, own_operand}
use Rattle.naga_ir.specs.ItemReferences.{constant_references, expression_references, global_lists, named_references, override_references, type_references}
use Rattle.naga_ir.specs.References.{named_item, named_type, operands}
use Rattle.naga_ir.specs.declared.expression.Expression.{Expression}
use Rattle.naga_ir.specs.declared.expression.Expression.TheVariants as expression
use Rattle.naga_ir.specs.declared.ir.Function.{Function}
use Rattle.naga_ir.specs.declared.ir.Module.{Module}
use Rattle.naga_ir.specs.declared.reference.Reference.{Reference}
use Rattle.naga_ir.specs.declared.reference.Reference.TheVariants as to
use Rattle.naga_ir.specs.declared.types.«Type».{«Type»}
use Rattle.naga_ir.specs.declared.types.TypeInner.{TypeInner}
use Rattle.naga_typing.specs.PlainLaws.{all_parts_exist, parts_exist, types_exist}
use Rattle.naga_typing.specs.Resolutions.{PartsExist, ResolutionExists, inner_in, operand as type_of_operand}
use Rattle.naga_typing.specs.Typings.{CanResolve, counts_in_sight}
use Rattle.naga_typing.specs.declared.typifier.TypeResolution.{TypeResolution}

module _ (m : Module) (x : Expression) (earlier : List TypeResolution) (can : CanResolve m x earlier) where
  abbrev InSight : Reference → Type 0
  InSight = Exists (counts_in_sight m (length earlier) can.local_variables)

  constant_named : (c : ℕ) → x ≡ expression.Constant c → named_item x ≡ Some (to.Constant c)
  unfolding named_item
  constant_named c e = ap named_item e

  override_named : (o : ℕ) → x ≡ expression.Override o → named_item x ≡ Some (to.Override o)
  unfolding named_item
  override_named o e = ap named_item e

  -- the constant that the expression names exists
  pub constant_exists : (c : ℕ) → x ≡ expression.Constant c → c < length m.constants
  constant_exists c e = All-contains InSight (expression_references x) (to.Constant c) can.references (item_in x (to.Constant c) (constant_named c e))

  -- the override that the expression names exists
  pub override_exists : (o : ℕ) → x ≡ expression.Override o → o < length m.overrides
  override_exists o e = All-contains InSight (expression_references x) (to.Override o) can.references (item_in x (to.Override o) (override_named o e))

  variable_named : (v : ℕ) → x ≡ expression.GlobalVariable v → named_item x ≡ Some (to.GlobalVariable v)
  unfolding named_item
  variable_named v e = ap named_item e

  -- the global variable that the expression names exists
  pub global_variable_exists : (v : ℕ) → x ≡ expression.GlobalVariable v → v < length m.global_variables
  global_variable_exists v e = All-contains InSight (expression_references x) (to.GlobalVariable v) can.references (item_in x (to.GlobalVariable v) (variable_named v e))

  function_named : (f : ℕ) → x ≡ expression.CallResult f → named_item x ≡ Some (to.Function f)
  unfolding named_item
  function_named f e = ap named_item e

  -- the function whose result the expression is exists
  pub function_exists : (f : ℕ) → x ≡ expression.CallResult f → f < length m.functions
  function_exists f e = All-contains InSight (expression_references x) (to.Function f) can.references (item_in x (to.Function f) (function_named f e))

  -- the types that an operand's type names exist
  pub operand_parts_exist : (e : ℕ) (inner : TypeInner) → type_of_operand m.types earlier e ≡ Some inner → PartsExist m.types inner
  operand_parts_exist e inner at = by_operand (slice_get earlier e) refl at
    where
      by_operand : (found : Option TypeResolution) → slice_get earlier e ≡ found → option_and_then (inner_in m.types) found ≡ Some inner → PartsExist m.types inner
      by_operand None there is = cc is
      by_operand (Some r) there is =
          let g = global_lists m in
          parts_exist m.types r inner (all_parts_exist g (global_references_ok m can.handles)) (types_exist g r (all_at (ResolutionExists g) earlier e r can.earlier_exist there)) is

  -- each operand has a type
  pub all_earlier : All (λ (o : ℕ). o < length earlier) (operands x)
  all_earlier = all-unmap InSight to.Expression (operands x) (all-left InSight (map to.Expression (operands x)) (named_references x) can.references)

  pub operands_earlier : (o : ℕ) → Contains (operands x) o → o < length earlier
  operands_earlier o names = All-contains (λ (o : ℕ). o < length earlier) (operands x) o all_earlier names

module _ (m : Module) (count n local_variables : ℕ) where
  abbrev Before : Reference → Type 0
  Before = Exists (counts_in_sight m count local_variables)

  abbrev Now : Reference → Type 0
  Now = Exists (counts_in_sight m n local_variables)

  item_in_sight : (x : Expression) → IfSome (named_item x) Before → IfSome (named_item x) Now
  unfolding named_item
  item_in_sight (expression.Constant c) h = h
  item_in_sight (expression.Override o) h = h
  item_in_sight (expression.GlobalVariable v) h = h
  item_in_sight (expression.LocalVariable v) h = h
  item_in_sight (expression.CallResult f) h = h
  item_in_sight _ h = tt

  one_named : (P : Reference → Type 0) (o : Option Reference) → IfSome o P → All P (option_to_list o)
  one_named P None h = All-nil P
  one_named P (Some r) h = All-cons P r [] h (All-nil P)

  if_named : (P : Reference → Type 0) (o : Option Reference) → All P (option_to_list o) → IfSome o P
  if_named P None all = tt
  if_named P (Some r) all = all 0 r (omega arith)

  type_in_sight : (o : Option ℕ) → All Before (map to.Type_ (option_to_list o)) → All Now (map to.Type_ (option_to_list o))
  type_in_sight None all = All-nil Now
  type_in_sight (Some t) all = All-cons Now (to.Type_ t) [] (all 0 (to.Type_ t) (omega arith)) (All-nil Now)

  operands_in_sight : (os : List ℕ) → ((o : ℕ) → Contains os o → o < n) → All Now (map to.Expression os)
  operands_in_sight [] below = All-nil Now
  operands_in_sight (o ∷ os) below =
      All-cons Now (to.Expression o) (map to.Expression os) (below o (0, omega arith, refl)) (operands_in_sight os (λ p h. below p (suc h.0, omega (arith, h.1), h.2)))

  -- if everything that an expression refers to exists, it does so too among as many expressions as its operands need
  in_sight : (x : Expression) → All Before (expression_references x) → ((o : ℕ) → Contains (operands x) o → o < n) → All Now (expression_references x)
  in_sight x all below =
      let named : List Reference = map to.Type_ (option_to_list (named_type x)) in
      let item : List Reference = option_to_list (named_item x) in
      let rest = all-right Before (map to.Expression (operands x)) (named_references x) all in
      All-append Now (map to.Expression (operands x)) (named_references x) (operands_in_sight (operands x) below)
      (All-append Now named item (type_in_sight (named_type x) (all-left Before named item rest))
      (one_named Now (named_item x) (item_in_sight x (if_named Before (named_item x) (all-right Before named item rest)))))

-- what one of some expressions refers to exists if what all of them refer to does
of_one : (P : Reference → Type 0) (xs : List Expression) (n : ℕ) (x : Expression) → All P (flat_map expression_references xs) → slice_get xs n ≡ Some x → All P (expression_references x)
of_one P xs n x all at = all-of P (expression_references x) (λ r names. All-contains P (flat_map expression_references xs) r all (within_all expression_references xs n x r at names))

-- everything that a global expression refers to exists, each operand among the expressions before it
pub global_expression_in_sight : (m : Module) → HandlesAccepted m → (n : ℕ) (x : Expression) → slice_get m.global_expressions n ≡ Some x → All (Exists (counts_in_sight m n 0)) (expression_references x)
global_expression_in_sight m handles n x at =
    let P = Exists (module_counts m) in
    let types : List Reference = flat_map (λ (t : «Type»). type_references t.inner) m.types in
    let constants : List Reference = flat_map constant_references m.constants in
    let overrides : List Reference = flat_map override_references m.overrides in
    let all = all-right P overrides _ (all-right P constants _ (all-right P types _ handles.exist.globals)) in
    in_sight m (length m.global_expressions) n 0 x (of_one P m.global_expressions n x all at)
    (λ o names. handles.back _ _ (among_globals _ _ (operand n o x at names)))

-- everything that an expression of a function refers to exists, each operand among the expressions before it
pub function_expression_in_sight : (m : Module) (f : Function) → ExpressionReferencesOk m f → (n : ℕ) (x : Expression) → slice_get f.expressions n ≡ Some x
    → All (Exists (counts_in_sight m n (length f.local_variables))) (expression_references x)
function_expression_in_sight m f ok n x at =
    let P = Exists (counts_in_sight m (length f.expressions) (length f.local_variables)) in
    in_sight m (length f.expressions) n (length f.local_variables) x (of_one P f.expressions n x ok.expressions at) (λ o names. ok.back _ _ (own_operand n o x at names))
