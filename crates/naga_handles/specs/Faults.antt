-- What is wrong with a module's handles.
use Rattle.std.specs.Prelude.{◌≡◌, ◌⊎◌, ℕ, ◌<◌, ◌≤◌, List, Some, Contains, codes, length, slice_get, unwrap_or}
use Rattle.std.specs.List.{flat_map}
use Rattle.naga_ir.specs.Handles.{Counts, Exists, MemberExists, NamesType, OrderedInModule, OrderedReference, function_counts, module_counts, place_of, size_initialiser}
use Rattle.naga_ir.specs.ItemReferences.{constant_references, global_lists, named_references, other_references, override_references, references_with}
use Rattle.naga_ir.specs.References.{named_item}
use Rattle.naga_ir.specs.declared.expression.Expression.{Expression}
use Rattle.naga_ir.specs.declared.ir.EntryPoint.{EntryPoint}
use Rattle.naga_ir.specs.declared.ir.Function.{Function}
use Rattle.naga_ir.specs.declared.ir.Module.{Module}
use Rattle.naga_ir.specs.declared.reference.Reference.{Reference}
use Rattle.naga_ir.specs.declared.reference.Reference.TheVariants as to
use Rattle.naga_ir.specs.Parts.{size_override}
use Rattle.naga_ir.specs.declared.types.«Type».{«Type»}
use Rattle.naga_ir.specs.declared.types.TypeInner.{TypeInner}
use Rattle.naga_ir.specs.declared.types.TypeInner.TheVariants.{Struct}
use Rattle.naga_handles.specs.declared.error.InvalidHandleError.{InvalidHandleError}
use Rattle.naga_handles.specs.declared.error.InvalidHandleError.TheVariants.{BadHandle, ForwardDependency, BadRange}
use Rattle.naga_handles.specs.declared.error.ValidationFault.{ValidationFault}
use Rattle.naga_handles.specs.declared.error.ValidationFault.TheVariants.{Invalid, MissingMember}

-- the name of the kind of item that a reference names
abbrev pub kind_of : Reference → List ℕ
kind_of (to.Type_ t) = codes "Type"
kind_of (to.Constant c) = codes "Constant"
kind_of (to.Override o) = codes "Override"
kind_of (to.GlobalVariable v) = codes "GlobalVariable"
kind_of (to.Expression e) = codes "Expression"
kind_of (to.LocalVariable v) = codes "LocalVariable"
kind_of (to.Function f) = codes "Function"
kind_of (to.DiagnosticFilterNode d) = codes "DiagnosticFilterNode"
kind_of (to.Emit range) = codes "Expression"

-- the error on a dangling reference
abbrev pub missing : Reference → InvalidHandleError
missing (to.Emit range) = BadRange (record { kind = codes "Expression"; start = range.start; end = range.end })
missing (to.Type_ t) = BadHandle (record { kind = kind_of (to.Type_ t); index = t })
missing (to.Constant c) = BadHandle (record { kind = kind_of (to.Constant c); index = c })
missing (to.Override o) = BadHandle (record { kind = kind_of (to.Override o); index = o })
missing (to.GlobalVariable v) = BadHandle (record { kind = kind_of (to.GlobalVariable v); index = v })
missing (to.Expression e) = BadHandle (record { kind = kind_of (to.Expression e); index = e })
missing (to.LocalVariable v) = BadHandle (record { kind = kind_of (to.LocalVariable v); index = v })
missing (to.Function f) = BadHandle (record { kind = kind_of (to.Function f); index = f })
missing (to.DiagnosticFilterNode d) = BadHandle (record { kind = kind_of (to.DiagnosticFilterNode d); index = d })

-- the error on a pair of which the second doesn't precede the first
abbrev pub forward : Reference → Reference → InvalidHandleError
forward s t = ForwardDependency (record {
  subject = place_of s;
  subject_kind = kind_of s;
  depends_on = place_of t;
  depends_on_kind = kind_of t;
})

-- the references of types and global expressions that only have to exist; a type that an expression names is one
-- if no size needs the expression
pub data VisitedReference (m : Module) : Reference → Type 0 where
  size : (t o : ℕ) (x : «Type») → slice_get m.types t ≡ Some x → size_override x.inner ≡ Some o
      → VisitedReference m (to.Override o)
  initialiser : (t n : ℕ) → size_initialiser (global_lists m) t ≡ Some n → VisitedReference m (to.Expression n)
  item : (e : ℕ) (x : Expression) (r : Reference) → slice_get m.global_expressions e ≡ Some x → named_item x ≡ Some r
      → VisitedReference m r
  type_ : (e u : ℕ) → NamesType (global_lists m) e u
      → ((t n : ℕ) → size_initialiser (global_lists m) t ≡ Some n → e ≤ n → ⊥) → VisitedReference m (to.Type_ u)

-- what may be wrong with types and global expressions
pub data IsOrderFault (m : Module) : InvalidHandleError → Type 0 where
  not_back : (s t : Reference) → OrderedReference (global_lists m) s t → place_of s ≤ place_of t
      → IsOrderFault m (forward s t)
  size_not_first : (t n e u : ℕ) → size_initialiser (global_lists m) t ≡ Some n → e ≤ n → NamesType (global_lists m) e u
      → t ≤ u → IsOrderFault m (forward (to.Type_ t) (to.Type_ u))
  not_visited : (r : Reference) → VisitedReference m r → (Exists (module_counts m) r → ⊥) → IsOrderFault m (missing r)

-- what a function refers to that only has to exist: all but the operands of its expressions
abbrev pub plain_references : Function → List Reference
plain_references f = references_with named_references f

-- the reference is not to a function
abbrev pub IsNotFunction : Reference → Type 0
IsNotFunction (to.Function f) = ⊥
IsNotFunction _ = Unit {0}

-- the other references that only have to exist, with the counts of items that they can name; the references of a
-- function to functions go back instead
pub data PlainReference (m : Module) : Counts → Reference → Type 0 where
  of_constant : (r : Reference) → Contains (flat_map constant_references m.constants) r
      → PlainReference m (module_counts m) r
  of_override : (r : Reference) → Contains (flat_map override_references m.overrides) r
      → PlainReference m (module_counts m) r
  other : (r : Reference) → Contains (other_references m) r → PlainReference m (module_counts m) r
  in_function : (f : Function) (r : Reference) → Contains m.functions f → Contains (plain_references f) r
      → IsNotFunction r → PlainReference m (function_counts m f) r
  in_entry_point : (p : EntryPoint) (r : Reference) → Contains m.entry_points p
      → Contains (plain_references p.function) r → PlainReference m (function_counts m p.function) r

-- what may be wrong with a module's handles and ranges
pub data IsHandleFault (m : Module) : InvalidHandleError → Type 0 where
  on_walk : (e : InvalidHandleError) → IsOrderFault m e → IsHandleFault m e
  forward_in_module : (s t : Reference) → OrderedInModule m s t → place_of s ≤ place_of t
      → IsHandleFault m (forward s t)
  not_there : (n : Counts) (r : Reference) → PlainReference m n r → (Exists n r → ⊥) → IsHandleFault m (missing r)
  no_entry_point : (place : ℕ) (lines : List (List ℕ)) → Contains m.doc_comments.entry_points (place, lines)
      → length m.entry_points ≤ place
      → IsHandleFault m (BadHandle (record { kind = codes "EntryPoint"; index = place }))

-- what an error says in place of the name of a type without one, if a comment documents a
-- member that the type doesn't have
abbrev pub text_of_unnamed : TypeInner → List ℕ
text_of_unnamed (Struct members span) = codes "members length incorrect"
text_of_unnamed _ = codes "Unknown"

-- the name of a type in the error on a comment that documents a member which the type doesn't have
abbrev pub display_name : «Type» → List ℕ
display_name t = unwrap_or t.name (text_of_unnamed t.inner)

-- what may be wrong with the handles of a module
pub data IsFault (m : Module) : ValidationFault → Type 0 where
  invalid : (e : InvalidHandleError) → IsHandleFault m e → IsFault m (Invalid e)
  missing_member : (t k : ℕ) (lines : List (List ℕ)) (x : «Type»)
      → Contains m.doc_comments.struct_members ((t, k), lines) → slice_get m.types t ≡ Some x
      → (MemberExists m.types (t, k) → ⊥) → IsFault m (MissingMember t (display_name x))

-- memory may be requested: there are overrides, or a comment documents a missing member
abbrev pub NeedsMemory : Module → Type 0
NeedsMemory m = (0 < length m.overrides) ⊎ ((t : ℕ) × (name : List ℕ) × IsFault m (MissingMember t name))
