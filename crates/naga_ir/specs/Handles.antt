-- Which handles of a module are right.
use Rattle.std.specs.Prelude.{◌≡◌, ℕ, ◌<◌, ◌≤◌, List, Option, Some, None, All, Contains, length, slice_get, ⊤}
use Rattle.std.specs.List.{flat_map}
use Rattle.naga_arena.specs.Existence.{IsGoodRange}
use Rattle.naga_ir.specs.ItemReferences.{GlobalLists, all_functions, expression_references, filter_references, function_references, global_lists, global_references, other_references}
use Rattle.naga_ir.specs.References.{named_type, operands}
use Rattle.naga_ir.specs.Parts.{parts, size_override}
use Rattle.naga_ir.specs.declared.types.«Type».{«Type»}
use Rattle.naga_ir.specs.declared.types.StructMember.{StructMember}
use Rattle.naga_ir.specs.declared.types.TypeInner.TheVariants.{Struct}
use Rattle.naga_ir.specs.declared.expression.Expression.{Expression}
use Rattle.naga_ir.specs.declared.expression.Expression.TheVariants as expression
use Rattle.naga_ir.specs.declared.ir.Constant.{Constant}
use Rattle.naga_ir.specs.declared.ir.Override.{Override}
use Rattle.naga_ir.specs.declared.ir.Function.{Function}
use Rattle.naga_ir.specs.declared.ir.FunctionArgument.{FunctionArgument}
use Rattle.naga_ir.specs.declared.ir.LocalVariable.{LocalVariable}
use Rattle.naga_ir.specs.declared.ir.DiagnosticFilterNode.{DiagnosticFilterNode}
use Rattle.naga_ir.specs.declared.ir.Module.{Module}
use Rattle.naga_ir.specs.declared.reference.Reference.{Reference}
use Rattle.naga_ir.specs.declared.reference.Reference.TheVariants as to

-- how many items of each kind can be referred to
pub record Counts : Type 0 where
  pub types : ℕ
  pub constants : ℕ
  pub overrides : ℕ
  pub global_variables : ℕ
  pub expressions : ℕ
  pub local_variables : ℕ
  pub functions : ℕ
  pub diagnostic_filters : ℕ

-- the counts of a module, whose global expressions see no local variable
abbrev pub module_counts : Module → Counts
module_counts m = record {
  types = length m.types;
  constants = length m.constants;
  overrides = length m.overrides;
  global_variables = length m.global_variables;
  expressions = length m.global_expressions;
  local_variables = 0;
  functions = length m.functions;
  diagnostic_filters = length m.diagnostic_filters;
}

-- the counts of a function, which sees its own expressions and variables
abbrev pub function_counts : Module → Function → Counts
function_counts m f =
    record (module_counts m) { expressions = length f.expressions; local_variables = length f.local_variables }

-- a reference is not dangling
abbrev pub Exists : Counts → Reference → Type 0
Exists n (to.Type_ t) = t < n.types
Exists n (to.Constant c) = c < n.constants
Exists n (to.Override o) = o < n.overrides
Exists n (to.GlobalVariable v) = v < n.global_variables
Exists n (to.Expression e) = e < n.expressions
Exists n (to.LocalVariable v) = v < n.local_variables
Exists n (to.Function f) = f < n.functions
Exists n (to.DiagnosticFilterNode d) = d < n.diagnostic_filters
Exists n (to.Emit range) = IsGoodRange n.expressions range

-- the type of index `place.0` is a struct with a member of index `place.1`
abbrev pub MemberExists : List «Type» → ℕ × ℕ → Type 0
MemberExists types place =
    (t : «Type») × (members : List StructMember) × (span : ℕ) × (slice_get types place.0 ≡ Some t)
    × (t.inner ≡ Struct members span) × (place.1 < length members)

-- everything that a module refers to exists, and so does everything that it documents
pub record EverythingExists (m : Module) : Type 0 where
  pub globals : All (Exists (module_counts m)) (global_references (global_lists m))
  pub filters : All (Exists (module_counts m)) (filter_references m)
  pub others : All (Exists (module_counts m)) (other_references m)
  pub in_functions : All (λ f. All (Exists (function_counts m f)) (function_references f)) (all_functions m)
  pub documented_members : All (λ c. MemberExists m.types c.0) m.doc_comments.struct_members
  pub documented_entry_points : All (λ c. c.0 < length m.entry_points) m.doc_comments.entry_points

-- the pairs among types and global expressions of which the second has to precede the first
pub data OrderedReference (g : GlobalLists) : Reference → Reference → Type 0 where
  part : (t u : ℕ) (x : «Type») → slice_get g.types t ≡ Some x → Contains (parts x.inner) u
      → OrderedReference g (to.Type_ t) (to.Type_ u)
  size_type : (t o : ℕ) (x : «Type») (v : Override) → slice_get g.types t ≡ Some x → size_override x.inner ≡ Some o
      → slice_get g.overrides o ≡ Some v → OrderedReference g (to.Type_ t) (to.Type_ v.ty)
  operand : (e o : ℕ) (x : Expression) → slice_get g.expressions e ≡ Some x → Contains (operands x) o
      → OrderedReference g (to.Expression e) (to.Expression o)
  constant : (e c : ℕ) (d : Constant) → slice_get g.expressions e ≡ Some (expression.Constant c)
      → slice_get g.constants c ≡ Some d → OrderedReference g (to.Expression e) (to.Expression d.init)
  override : (e o n : ℕ) (v : Override) → slice_get g.expressions e ≡ Some (expression.Override o)
      → slice_get g.overrides o ≡ Some v → v.init ≡ Some n → OrderedReference g (to.Expression e) (to.Expression n)

-- the pairs among a list of expressions: each with each of its operands
pub data OrderedOperands (xs : List Expression) : Reference → Reference → Type 0 where
  own_operand : (e o : ℕ) (x : Expression) → slice_get xs e ≡ Some x → Contains (operands x) o
      → OrderedOperands xs (to.Expression e) (to.Expression o)

-- all pairs of a module: `OrderedReference`, `OrderedOperands` of each function, each function with each that it calls
-- or whose result it names, and each filter with its parent
pub data OrderedInModule (m : Module) : Reference → Reference → Type 0 where
  among_globals : (s t : Reference) → OrderedReference (global_lists m) s t → OrderedInModule m s t
  in_function : (f : Function) (s t : Reference) → Contains (all_functions m) f → OrderedOperands f.expressions s t
      → OrderedInModule m s t
  calls_function : (i j : ℕ) (f : Function) → slice_get m.functions i ≡ Some f
      → Contains (function_references f) (to.Function j) → OrderedInModule m (to.Function i) (to.Function j)
  parent_filter : (i j : ℕ) (n : DiagnosticFilterNode) → slice_get m.diagnostic_filters i ≡ Some n → n.parent ≡ Some j
      → OrderedInModule m (to.DiagnosticFilterNode i) (to.DiagnosticFilterNode j)

-- the index that a reference names; a range is in no pair
abbrev pub place_of : Reference → ℕ
place_of (to.Type_ t) = t
place_of (to.Constant c) = c
place_of (to.Override o) = o
place_of (to.GlobalVariable v) = v
place_of (to.Expression e) = e
place_of (to.LocalVariable v) = v
place_of (to.Function f) = f
place_of (to.DiagnosticFilterNode d) = d
place_of (to.Emit range) = range.start

-- in each of `Pairs` the second reference precedes the first
abbrev pub ReferencesPrecede : (Reference → Reference → Type 0) → Type 0
ReferencesPrecede Pairs = (s t : Reference) → Pairs s t → place_of t < place_of s

-- the initialiser of an override, if it has one
abbrev pub initialiser_of : Option Override → Option ℕ
initialiser_of None = None
initialiser_of (Some v) = v.init

-- the initialiser of the override of an index, if there is one
abbrev pub initialiser_at : List Override → Option ℕ → Option ℕ
initialiser_at overrides None = None
initialiser_at overrides (Some o) = initialiser_of (slice_get overrides o)

-- the initialiser of the override that sizes a type, if one does
abbrev pub sized_by : List Override → Option «Type» → Option ℕ
sized_by overrides None = None
sized_by overrides (Some x) = initialiser_at overrides (size_override x.inner)

-- the initialiser of the override that sizes the type of index `t`, if one does
unfoldable pub size_initialiser : GlobalLists → ℕ → Option ℕ
size_initialiser g t = sized_by g.overrides (slice_get g.types t)

-- the global expression at e names the type u
abbrev pub NamesType : GlobalLists → ℕ → ℕ → Type 0
NamesType g e u = (x : Expression) × (slice_get g.expressions e ≡ Some x) × (named_type x ≡ Some u)

-- an expression up to the initialiser that sizes a type names only types that precede that type
abbrev pub SizesResolveFirst : GlobalLists → Type 0
SizesResolveFirst g = (t n e u : ℕ) → size_initialiser g t ≡ Some n → e ≤ n → NamesType g e u → u < t

-- the handles of a module are right: everything exists, references go back, and the types that size a type precede it
pub record HandlesAccepted (m : Module) : Type 0 where
  pub exist : EverythingExists m
  pub back : ReferencesPrecede (OrderedInModule m)
  pub sizes : SizesResolveFirst (global_lists m)

-- what is referred to is not a local variable, and exists if it is a type, constant, override or global expression
abbrev pub ExistsGlobally : GlobalLists → Reference → Type 0
ExistsGlobally g (to.Type_ t) = t < length g.types
ExistsGlobally g (to.Constant c) = c < length g.constants
ExistsGlobally g (to.Override o) = o < length g.overrides
ExistsGlobally g (to.Expression e) = e < length g.expressions
ExistsGlobally g (to.LocalVariable v) = ⊥
ExistsGlobally _ _ = ⊤

-- among types, constants, overrides and global expressions references exist and go back
pub record GlobalReferencesOk (g : GlobalLists) : Type 0 where
  pub exist : All (ExistsGlobally g) (global_references g)
  pub back : ReferencesPrecede (OrderedReference g)

-- the types of a function's arguments exist, and so does what its expressions refer to, whose operands go back
pub record ExpressionReferencesOk (m : Module) (f : Function) : Type 0 where
  pub arguments : All (λ (a : FunctionArgument). a.ty < length m.types) f.arguments
  pub expressions : All (Exists (function_counts m f)) (flat_map expression_references f.expressions)
  pub back : ReferencesPrecede (OrderedOperands f.expressions)

-- the references of a function's arguments and expressions are right, and the types of its variables exist
pub record FunctionReferencesOk (m : Module) (f : Function) : Type 0 where
  pub in_expressions : ExpressionReferencesOk m f
  pub local_variables : All (λ (v : LocalVariable). v.ty < length m.types) f.local_variables
