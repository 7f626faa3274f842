-- `PlainTyping` keeps the laws of typings. The proof is among the definitions, since an `impl` cites it.
use Rattle.std.proofs.Common.{◌≡◌, ◌<◌, ℕ, List, Option, Some, None, Ok, Err, All, length, get_or, map, slice_get, refl, ap, subst, arith}
use Rattle.std.specs.Prelude.{Bool, true, false, if◌then◌else◌, IfSome, [], ◌∷◌, Result, ⊤}
use Rattle.std.specs.Option.{option_and_then, option_map}
use Rattle.std.proofs.lemmas.Option.{same_Some, slice_get-get_or}
use Rattle.std.proofs.lemmas.List.Elements.{All-contains, All-nil}
use Rattle.naga_arena.proofs.Elements.{all-left, all-unmap, all_at}
use Rattle.naga_ir.proofs.Handles.{global_references_ok}
use Rattle.naga_ir.proofs.ReferencesOfItems.{of_constant, of_override, parts_come_before, type_in}
use Rattle.naga_ir.specs.ItemReferences.{GlobalLists, expression_references, global_lists}
use Rattle.naga_ir.specs.Handles.{Exists, ExistsGlobally, GlobalReferencesOk}
use Rattle.naga_ir.specs.References.{named_type}
use Rattle.naga_ir.specs.declared.expression.BinaryOperator.{BinaryOperator}
use Rattle.naga_ir.specs.declared.expression.BinaryOperator.TheVariants.{Multiply, Equal, NotEqual, Less, LessEqual, Greater, GreaterEqual}
use Rattle.naga_ir.specs.declared.expression.Expression.{Expression}
use Rattle.naga_ir.specs.declared.expression.Expression.TheVariants as form
use Rattle.naga_ir.specs.declared.expression.MathFunction.{MathFunction}
use Rattle.naga_ir.specs.declared.expression.MathFunction.TheVariants as math
use Rattle.naga_ir.specs.declared.expression.RelationalFunction.{RelationalFunction}
use Rattle.naga_ir.specs.declared.expression.RelationalFunction.TheVariants.{All as OfAll, Any, IsNan, IsInf}
use Rattle.naga_ir.specs.declared.ir.Constant.{Constant}
use Rattle.naga_ir.specs.declared.ir.Override.{Override}
use Rattle.naga_ir.specs.declared.ir.Module.{Module}
use Rattle.naga_ir.specs.declared.reference.Reference.TheVariants as to
use Rattle.naga_ir.specs.Parts.{parts, size_override}
use Rattle.naga_ir.specs.declared.types.«Type».{«Type»}
use Rattle.naga_ir.specs.declared.types.Scalar.{Scalar as ScalarType}
use Rattle.naga_ir.specs.declared.types.ScalarKind.{ScalarKind}
use Rattle.naga_ir.specs.declared.types.StructMember.{StructMember}
use Rattle.naga_ir.specs.declared.types.TypeInner.{TypeInner}
use Rattle.naga_ir.specs.declared.types.TypeInner.TheVariants.{Scalar, Vector, Matrix, CooperativeMatrix, Array, Struct}
use Rattle.naga_ir.specs.declared.types.VectorSize.{VectorSize}
use Rattle.naga_ir.proofs.PartLemmas.{base_is, members_are}
use Rattle.naga_typing.specs.Math.{argument_type, arguments, has_no_gap, math_type, matrix_type, outer_product, result_type, scalar_type, signature, transposed, unless_of_module, vector_parts}
use Rattle.naga_typing.specs.PlainTyping.{ResolveResult, binary_of, cast_of, element_of, math_of, of_form, part_of, plain_resolves, product_of, relational_of, same_type, splat_of, swizzle_of, bools_of, type_of_constant, type_of_member, type_of_override, value_of}
use Rattle.naga_typing.specs.Resolutions.{AllPartsExist, IsProperResolution, PartsExist, ResolutionExists, TypesExist, inner_in, operand}
use Rattle.naga_typing.specs.Typings.{CanResolve, IsLawful, counts_in_sight}
use Rattle.naga_typing.specs.declared.typifier.ResolveError.{ResolveError}
use Rattle.naga_typing.specs.declared.typifier.ResolveError.TheVariants.{IncompatibleOperands, NotResolvable, OutOfMemory}
use Rattle.naga_typing.specs.declared.typifier.TypeResolution.{TypeResolution}
use Rattle.naga_typing.specs.declared.typifier.TypeResolution.TheVariants.{Handle, Value}

-- a result keeps the laws: everything that a type refers to exists, the type is proper,
-- and an error isn't out of memory
abbrev pub IsLawfulResult : GlobalLists → ResolveResult → Type 0
IsLawfulResult g (Ok r) = ResolutionExists g r × IsProperResolution r
IsLawfulResult g (Err IncompatibleOperands) = ⊤
IsLawfulResult g (Err NotResolvable) = ⊤
IsLawfulResult g (Err OutOfMemory) = ⊥

-- a type, if there is one, keeps the laws as a result
abbrev IsLawfulType : GlobalLists → Result TypeInner ResolveError → Type 0
IsLawfulType g type = IsLawfulResult g (value_of type)

-- the type `inner` as a result keeps the laws
abbrev IsLawfulForm : GlobalLists → TypeInner → Type 0
IsLawfulForm g inner = IsLawfulResult g (Ok (Value inner))

module _ (g : GlobalLists) where
  pub of_scalar : (scalar : ScalarType) → IsLawfulResult g (Ok (Value (Scalar scalar)))
  unfolding parts size_override
  of_scalar scalar = (All-nil (ExistsGlobally g), tt)

  pub of_vector : (size : VectorSize) (scalar : ScalarType) → IsLawfulResult g (Ok (Value (Vector size scalar)))
  unfolding parts size_override
  of_vector size scalar = (All-nil (ExistsGlobally g), tt)

  pub of_matrix : (columns rows : VectorSize) (scalar : ScalarType)
      → IsLawfulResult g (Ok (Value (Matrix columns rows scalar)))
  unfolding parts size_override
  of_matrix columns rows scalar = (All-nil (ExistsGlobally g), tt)

  pub of_element : (inner : TypeInner) → PartsExist g.types inner → IsLawfulResult g (element_of inner)
  of_element (Vector size scalar) exist = of_scalar scalar
  of_element (Matrix columns rows scalar) exist = of_vector rows scalar
  of_element (Array base size stride) exist =
      (base_is (λ p. p < length g.types) (Array base size stride) base size stride exist refl, tt)
  of_element _ exist = tt

  of_member : (members : List StructMember) (index : ℕ) → All (λ (m : StructMember). m.ty < length g.types) members
      → IsLawfulResult g (type_of_member (slice_get members index))
  of_member members index all = by_member (slice_get members index) refl
    where
      by_member : (found : Option StructMember) → slice_get members index ≡ found
          → IsLawfulResult g (type_of_member found)
      by_member None at = tt
      by_member (Some m) at = (all_at (λ (m : StructMember). m.ty < length g.types) members index m all at, tt)

  pub of_part : (index : ℕ) (inner : TypeInner) → PartsExist g.types inner → IsLawfulResult g (part_of index inner)
  of_part index (Struct members span) exist =
      of_member members index (members_are (λ p. p < length g.types) (Struct members span) members span exist refl)
  of_part index (Vector size scalar) exist = of_scalar scalar
  of_part index (Matrix columns rows scalar) exist = of_vector rows scalar
  of_part index (Array base size stride) exist = of_element (Array base size stride) exist
  of_part index _ exist = tt

  of_splat : (size : VectorSize) (inner : TypeInner) → IsLawfulResult g (splat_of size inner)
  of_splat size (Scalar scalar) = of_vector size scalar
  of_splat size _ = tt

  of_swizzle : (size : VectorSize) (inner : TypeInner) → IsLawfulResult g (swizzle_of size inner)
  of_swizzle size (Vector of_size scalar) = of_vector size scalar
  of_swizzle size _ = tt

  of_bools : (inner : TypeInner) → IsLawfulResult g (bools_of inner)
  of_bools (Scalar scalar) = of_scalar _
  of_bools (Vector size scalar) = of_vector size _
  of_bools _ = tt

  pub of_cast : (kind : ScalarKind) (convert : Option ℕ) (inner : TypeInner)
      → IsLawfulResult g (cast_of kind convert inner)
  of_cast kind convert (Scalar scalar) = of_scalar _
  of_cast kind convert (Vector size scalar) = of_vector size _
  of_cast kind convert (Matrix columns rows scalar) = of_matrix columns rows _
  of_cast kind convert _ = tt

  of_relational : (fun : RelationalFunction) (inner : TypeInner) → IsLawfulResult g (relational_of fun inner)
  of_relational OfAll inner = of_scalar _
  of_relational Any inner = of_scalar _
  of_relational IsNan inner = of_bools inner
  of_relational IsInf inner = of_bools inner

  of_argument_type : (inner : TypeInner) (further : List TypeInner)
      → IfSome (argument_type inner further) (IsLawfulForm g)
  of_argument_type (Scalar scalar) further = of_scalar scalar
  of_argument_type (Vector size scalar) further = of_vector size scalar
  of_argument_type _ further = tt

  of_scalar_type : (inner : TypeInner) (further : List TypeInner) → IfSome (scalar_type inner further) (IsLawfulForm g)
  of_scalar_type (Scalar scalar) further = of_scalar scalar
  of_scalar_type (Vector size scalar) further = of_scalar scalar
  of_scalar_type (Matrix columns rows scalar) further = of_scalar scalar
  of_scalar_type (CooperativeMatrix columns rows scalar role) further = of_scalar scalar
  of_scalar_type _ further = tt

  of_transposed : (inner : TypeInner) (further : List TypeInner) → IfSome (transposed inner further) (IsLawfulForm g)
  of_transposed (Matrix columns rows scalar) further = of_matrix rows columns scalar
  of_transposed _ further = tt

  of_matrix_type : (inner : TypeInner) (further : List TypeInner) → IfSome (matrix_type inner further) (IsLawfulForm g)
  of_matrix_type (Matrix columns rows scalar) further = of_matrix columns rows scalar
  of_matrix_type _ further = tt

  of_outer : (inner : TypeInner) (further : List TypeInner) → IfSome (outer_product inner further) (IsLawfulForm g)
  of_outer inner further = by_parts (vector_parts inner) (option_and_then vector_parts (slice_get further 0))
    where
      by_parts : (left right : Option (VectorSize × ScalarType))
          → IfSome
          (option_and_then (λ (l : VectorSize × ScalarType).
          option_map (λ (r : VectorSize × ScalarType). Matrix r.0 l.0 l.1) right) left)
          (IsLawfulForm g)
      by_parts None right = tt
      by_parts (Some l) None = tt
      by_parts (Some l) (Some r) = of_matrix r.0 l.0 l.1

  of_signature : (fun : MathFunction) (inner : TypeInner) (further : List TypeInner)
      → IfSome ((signature fun).result inner further) (IsLawfulForm g)
  unfolding signature
  of_signature math.Length inner further = of_scalar_type inner further
  of_signature math.Distance inner further = of_scalar_type inner further
  of_signature math.Dot inner further = of_scalar_type inner further
  of_signature math.Determinant inner further = of_scalar_type inner further
  of_signature math.Transpose inner further = of_transposed inner further
  of_signature math.Inverse inner further = of_matrix_type inner further
  of_signature math.Outer inner further = of_outer inner further
  of_signature math.Modf inner further = tt
  of_signature math.Frexp inner further = tt
  of_signature math.Dot4I8Packed inner further = of_scalar _
  of_signature math.Dot4U8Packed inner further = of_scalar _
  of_signature math.Pack4x8snorm inner further = of_scalar _
  of_signature math.Pack4x8unorm inner further = of_scalar _
  of_signature math.Pack2x16snorm inner further = of_scalar _
  of_signature math.Pack2x16unorm inner further = of_scalar _
  of_signature math.Pack2x16float inner further = of_scalar _
  of_signature math.Pack4xI8 inner further = of_scalar _
  of_signature math.Pack4xU8 inner further = of_scalar _
  of_signature math.Pack4xI8Clamp inner further = of_scalar _
  of_signature math.Pack4xU8Clamp inner further = of_scalar _
  of_signature math.Unpack4x8snorm inner further = of_vector _ _
  of_signature math.Unpack4x8unorm inner further = of_vector _ _
  of_signature math.Unpack2x16snorm inner further = of_vector _ _
  of_signature math.Unpack2x16unorm inner further = of_vector _ _
  of_signature math.Unpack2x16float inner further = of_vector _ _
  of_signature math.Unpack4xI8 inner further = of_vector _ _
  of_signature math.Unpack4xU8 inner further = of_vector _ _
  of_signature _ inner further = of_argument_type inner further

  of_choice : (b : Bool) (type : Result TypeInner ResolveError) → IsLawfulType g type
      → IsLawfulType g (if b then type else Err IncompatibleOperands)
  of_choice true type h = h
  of_choice false type h = tt

  of_type : (inner : Option TypeInner) → IfSome inner (IsLawfulForm g) → IsLawfulType g (unless_of_module inner)
  of_type None h = tt
  of_type (Some inner) h = h

  of_result_type : (fun : MathFunction) (types : List TypeInner) → IsLawfulType g (result_type fun types)
  of_result_type fun [] = tt
  of_result_type fun (first ∷ further) = of_choice _ _ (of_type _ (of_signature fun first further))

  of_math : (fun : MathFunction) (first : TypeInner) (second third fourth : Option TypeInner)
      → IsLawfulResult g (value_of (math_type fun first second third fourth))
  of_math fun first second third fourth =
      let types = arguments first second third fourth in
      of_choice (has_no_gap second third fourth) (result_type fun types) (of_result_type fun types)

  pub of_product : (left right : ResolveResult) (x y : TypeInner) → IsLawfulResult g left → IsLawfulResult g right
      → IsLawfulResult g (product_of left right x y)
  of_product left right (Scalar s) (Vector size scalar) l r = r
  of_product left right (Scalar s) (Matrix columns rows scalar) l r = r
  of_product left right (Matrix columns rows scalar) (Vector size s) l r = of_vector rows scalar
  of_product left right (Vector size s) (Matrix columns rows scalar) l r = of_vector columns scalar
  of_product left right (Matrix columns rows scalar) (Matrix right_columns right_rows s) l r =
      of_matrix right_columns rows scalar
  of_product left right _ _ l r = l

-- the types that a resolution names exist
pub parts_exist : (types : List «Type») (r : TypeResolution) (x : TypeInner) → AllPartsExist types → TypesExist types r
    → inner_in types r ≡ Some x → PartsExist types x
parts_exist types (Value inner) x all exists is = subst (PartsExist types) (same_Some inner x is) exists
parts_exist types (Handle t) x all exists is = by_type (slice_get types t) refl is
  where
    by_type : (found : Option «Type») → slice_get types t ≡ found → option_map (λ (y : «Type»). y.inner) found ≡ Some x
        → PartsExist types x
    by_type None at is = cc
    by_type (Some y) at is =
        subst (PartsExist types) (same_Some y.inner x is)
        (all_at (λ (t : «Type»). PartsExist types t.inner) types t y all at)

-- if references exist and go back, the types that types name exist
pub all_parts_exist : (g : GlobalLists) → GlobalReferencesOk g → AllPartsExist g.types
all_parts_exist g ok k d within p names =
    let before = parts_come_before g ok k (get_or g.types k d) p (slice_get-get_or g.types k d within) names in
    omega (arith, before, within)

-- if everything that a resolution refers to exists, so do the types that it names
pub types_exist : (g : GlobalLists) (r : TypeResolution) → ResolutionExists g r → TypesExist g.types r
types_exist g (Handle t) exists = exists
types_exist g (Value inner) exist = λ p names.
    All-contains (λ (t : ℕ). t < length g.types) (parts inner) p
    (all-unmap (ExistsGlobally g) to.Type_ (parts inner)
    (all-left (ExistsGlobally g) (map to.Type_ (parts inner)) _ exist)) names

module _ (m : Module) (x : Expression) (earlier : List TypeResolution) (can : CanResolve m x earlier) where
  abbrev g : GlobalLists
  g = global_lists m

  ok : GlobalReferencesOk g
  ok = global_references_ok m can.handles

  pub lawful_operand : (e : ℕ) (rule : TypeInner → ResolveResult)
      → ((inner : TypeInner) → PartsExist m.types inner → IsLawfulResult g (rule inner))
      → IsLawfulResult g (of_form (operand m.types earlier e) rule)
  lawful_operand e rule lawful = by_operand (slice_get earlier e) refl
    where
      by_form : (r : TypeResolution) → ResolutionExists g r → (found : Option TypeInner) → inner_in m.types r ≡ found
          → IsLawfulResult g (of_form found rule)
      by_form r exists None is = tt
      by_form r exists (Some inner) is =
          lawful inner (parts_exist m.types r inner (all_parts_exist g ok) (types_exist g r exists) is)

      by_operand : (found : Option TypeResolution) → slice_get earlier e ≡ found
          → IsLawfulResult g (of_form (option_and_then (inner_in m.types) found) rule)
      by_operand None at = tt
      by_operand (Some r) at =
          by_form r (all_at (ResolutionExists g) earlier e r can.earlier_exist at) (inner_in m.types r) refl

  pub lawful_same : (e : ℕ) → IsLawfulResult g (same_type (slice_get earlier e))
  lawful_same e = by_operand (slice_get earlier e) refl
    where
      by_operand : (found : Option TypeResolution) → slice_get earlier e ≡ found → IsLawfulResult g (same_type found)
      by_operand None at = tt
      by_operand (Some r) at = (
        all_at (ResolutionExists g) earlier e r can.earlier_exist at,
        all_at IsProperResolution earlier e r can.earlier_proper at,
      )

  pub lawful_binary : (op : BinaryOperator) (left right : ℕ)
      → IsLawfulResult g (binary_of m.types earlier op left right)
  lawful_binary Equal left right = lawful_operand left bools_of (λ inner exist. of_bools g inner)
  lawful_binary NotEqual left right = lawful_operand left bools_of (λ inner exist. of_bools g inner)
  lawful_binary Less left right = lawful_operand left bools_of (λ inner exist. of_bools g inner)
  lawful_binary LessEqual left right = lawful_operand left bools_of (λ inner exist. of_bools g inner)
  lawful_binary Greater left right = lawful_operand left bools_of (λ inner exist. of_bools g inner)
  lawful_binary GreaterEqual left right = lawful_operand left bools_of (λ inner exist. of_bools g inner)
  lawful_binary Multiply left right =
      lawful_operand left _
      (λ x x_exist.
      lawful_operand right _
      (λ y y_exist.
      of_product g (same_type (slice_get earlier left)) (same_type (slice_get earlier right)) x y
      (lawful_same left) (lawful_same right)))
  lawful_binary _ left right = lawful_same left

  lawful_math : (fun : MathFunction) (arg : ℕ) (arg1 arg2 arg3 : Option ℕ)
      → IsLawfulResult g (math_of m.types earlier fun arg arg1 arg2 arg3)
  lawful_math fun arg arg1 arg2 arg3 = lawful_operand arg _ (λ first exist. of_math g fun first _ _ _)

  lawful_constant : (c : ℕ) → IsLawfulResult g (type_of_constant (slice_get m.constants c))
  lawful_constant c = by_constant (slice_get m.constants c) refl
    where
      by_constant : (found : Option Constant) → slice_get m.constants c ≡ found
          → IsLawfulResult g (type_of_constant found)
      by_constant None at = tt
      by_constant (Some d) at = (of_constant g ok c d (to.Type_ d.ty) at (0, omega arith, refl), tt)

  lawful_override : (o : ℕ) → IsLawfulResult g (type_of_override (slice_get m.overrides o))
  lawful_override o = by_override (slice_get m.overrides o) refl
    where
      by_override : (found : Option Override) → slice_get m.overrides o ≡ found
          → IsLawfulResult g (type_of_override found)
      by_override None at = tt
      by_override (Some d) at = (of_override g ok o d (to.Type_ d.ty) at (0, omega arith, refl), tt)

  pub lawful_named : (t : ℕ) → named_type x ≡ Some t → IsLawfulResult g (Ok (Handle t))
  lawful_named t e = (
    All-contains (Exists (counts_in_sight m (length earlier) can.local_variables)) (expression_references x)
        (to.Type_ t) can.references (type_in x t e),
    tt,
  )

-- each result of `PlainTyping` keeps the laws
pub lawful : (m : Module) (x : Expression) (earlier : List TypeResolution) → CanResolve m x earlier
    → IsLawfulResult (global_lists m) (plain_resolves m x earlier)
unfolding plain_resolves named_type
lawful m (form.Literal value) earlier can = of_scalar (global_lists m) _
lawful m (form.Constant c) earlier can = lawful_constant m (form.Constant c) earlier can c
lawful m (form.Override o) earlier can = lawful_override m (form.Override o) earlier can o
lawful m (form.ZeroValue ty) earlier can = lawful_named m (form.ZeroValue ty) earlier can ty refl
lawful m (form.Compose ty components) earlier can = lawful_named m (form.Compose ty components) earlier can ty refl
lawful m (form.Access base index) earlier can =
    lawful_operand m (form.Access base index) earlier can base element_of (of_element (global_lists m))
lawful m (form.AccessIndex base index) earlier can =
    lawful_operand m (form.AccessIndex base index) earlier can base (part_of index) (of_part (global_lists m) index)
lawful m (form.Splat size value) earlier can =
    lawful_operand m (form.Splat size value) earlier can value (splat_of size)
    (λ inner exist. of_splat (global_lists m) size inner)
lawful m (form.Swizzle size vector pattern) earlier can =
    lawful_operand m (form.Swizzle size vector pattern) earlier can vector (swizzle_of size)
    (λ inner exist. of_swizzle (global_lists m) size inner)
lawful m (form.Unary op expr) earlier can = lawful_same m (form.Unary op expr) earlier can expr
lawful m (form.Derivative expr) earlier can = lawful_same m (form.Derivative expr) earlier can expr
lawful m (form.Select condition accept reject) earlier can =
    lawful_same m (form.Select condition accept reject) earlier can accept
lawful m (form.Binary op left right) earlier can = lawful_binary m (form.Binary op left right) earlier can op left right
lawful m (form.Relational fun argument) earlier can =
    lawful_operand m (form.Relational fun argument) earlier can argument (relational_of fun)
    (λ inner exist. of_relational (global_lists m) fun inner)
lawful m (form.Math fun arg arg1 arg2 arg3) earlier can =
    lawful_math m (form.Math fun arg arg1 arg2 arg3) earlier can fun arg arg1 arg2 arg3
lawful m (form.As expr kind convert) earlier can =
    lawful_operand m (form.As expr kind convert) earlier can expr (cast_of kind convert)
    (λ inner exist. of_cast (global_lists m) kind convert inner)
lawful m (form.ArrayLength expr) earlier can = of_scalar (global_lists m) _
lawful m _ earlier can = tt

-- `PlainTyping` is a lawful typing
pub plain_lawful : IsLawful plain_resolves
unfolding plain_resolves
plain_lawful = record {
  literals = λ m value earlier. refl;
  constants = λ m c d earlier at. ap type_of_constant at;
  overrides = λ m o d earlier at. ap type_of_override at;
  zero_values = λ m t earlier. refl;
  compositions = λ m t components earlier. refl;
  splats = λ m size e scalar earlier at. ap (λ (o : Option TypeInner). of_form o (splat_of size)) at;
  exist = λ m x earlier r can is. (subst (IsLawfulResult (global_lists m)) is (lawful m x earlier can)).0;
  proper = λ m x earlier r can is. (subst (IsLawfulResult (global_lists m)) is (lawful m x earlier can)).1;
  decided = λ m x earlier can is. subst (IsLawfulResult (global_lists m)) is (lawful m x earlier can);
}
