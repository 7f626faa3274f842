-- `==` of two `TypeInner` decides equality of the values that contracts see.
use mathlib.Core.HLevel.{is_prop→PathP}
use Rattle.std.proofs.Math.Bridge.{le_prop}
use Rattle.std.proofs.Common.{rules, ◌<◌, ◌≡◌, ℕ, List, Bool, true, refl, subst, ap}
use denote.Enum.Bare.{same_true}
use Rattle.std.specs.Prelude.{◌==◌, Option, Some, None, slice_get}
use Rattle.std.specs.Bool.{Decides}
use Rattle.std.specs.Option.{option_eq}
use Rattle.std.specs.Cmp.{first_so, second_so}
use Rattle.std.specs.Cmp.Lexicographic.{pointwise, bytes_decides}
use Rattle.std.proofs.lemmas.Slice.Eq.{slice_eq-Decides}
use Rattle.std.specs.contracts.prelude.BoolPartialEq.TheImpl as of_bool
use Rattle.naga_arena.specs.contracts.text.TextPartialEq.TheImpl as of_text
use Rattle.naga_ir.specs.declared.types.TypeInner.{TypeInner}
use Rattle.naga_ir.specs.declared.types.TypeInner.TheVariants.{Scalar, Vector, Matrix, CooperativeMatrix, Atomic, Pointer, ValuePointer, Array, Struct, Image, Sampler, AccelerationStructure, RayQuery, BindingArray}
use Rattle.naga_ir.specs.declared.types.Scalar.{Scalar as ScalarType}
use Rattle.naga_ir.specs.declared.types.VectorSize.{VectorSize}
use Rattle.naga_ir.specs.declared.types.CooperativeSize.{CooperativeSize}
use Rattle.naga_ir.specs.declared.types.CooperativeRole.{CooperativeRole}
use Rattle.naga_ir.specs.declared.types.ArraySize.{ArraySize}
use Rattle.naga_ir.specs.declared.types.ArraySize.TheVariants.{Constant, Pending, Dynamic}
use Rattle.std.specs.declared.num.NonZeroU32.{NonZeroU32}
use Rattle.naga_ir.specs.declared.types.AddressSpace.{AddressSpace}
use Rattle.naga_ir.specs.declared.types.ImageDimension.{ImageDimension}
use Rattle.naga_ir.specs.declared.types.ImageClass.{ImageClass}
use Rattle.naga_ir.specs.BuiltIns.{built_ins, number}
use Rattle.naga_ir.specs.declared.built_in.BuiltIn.{BuiltIn as BuiltInType}
use Rattle.naga_ir.specs.declared.storage_format.StorageFormat.{StorageFormat}
use Rattle.naga_ir.specs.declared.types.Binding.{Binding}
use Rattle.naga_ir.specs.declared.types.Binding.TheVariants.{BuiltIn, Location}
use Rattle.naga_ir.specs.declared.types.ImageClass.TheVariants as class
use Rattle.naga_ir.specs.declared.types.Interpolation.{Interpolation}
use Rattle.naga_ir.specs.declared.types.Sampling.{Sampling}
use Rattle.naga_ir.specs.declared.types.StorageAccess.{StorageAccess}
use Rattle.naga_ir.specs.declared.types.StructMember.{StructMember}
use Rattle.naga_ir.specs.contracts.types.TypeInnerPartialEq.TheImpl.{ghosts}
use Rattle.naga_ir.specs.contracts.types.StructMemberPartialEq.TheImpl as of_member
use Rattle.naga_ir.specs.contracts.built_in.BuiltInPartialEq.TheImpl as of_built_in
use Rattle.naga_ir.specs.contracts.storage_format.StorageFormat.{the_type as format_type}
use Rattle.naga_ir.specs.contracts.storage_format.StorageFormatPartialEq.TheImpl as of_format
use Rattle.naga_ir.specs.contracts.types.BindingPartialEq.TheImpl as of_binding
use Rattle.naga_ir.specs.contracts.types.InterpolationPartialEq.TheImpl as of_interpolation
use Rattle.naga_ir.specs.contracts.types.SamplingPartialEq.TheImpl as of_sampling
use Rattle.naga_ir.specs.contracts.types.StorageAccessPartialEq.TheImpl as of_access
use Rattle.naga_ir.specs.contracts.types.ScalarPartialEq.TheImpl as of_scalar
use Rattle.naga_ir.specs.contracts.types.VectorSizePartialEq.TheImpl as of_size
use Rattle.naga_ir.specs.contracts.types.CooperativeSizePartialEq.TheImpl as of_cooperative_size
use Rattle.naga_ir.specs.contracts.types.CooperativeRolePartialEq.TheImpl as of_role
use Rattle.naga_ir.specs.contracts.types.ArraySizePartialEq.TheImpl as of_array_size
use Rattle.naga_ir.specs.contracts.types.AddressSpacePartialEq.TheImpl as of_space
use Rattle.naga_ir.specs.contracts.types.ImageDimensionPartialEq.TheImpl as of_dimension
use Rattle.naga_ir.specs.contracts.types.ImageClassPartialEq.TheImpl as of_class
use Rattle.naga_ir.specs.contracts.types.StructMemberEq.TheImpl.Laws as member_laws
use Rattle.naga_ir.specs.contracts.types.TypeInnerEq.TheImpl.Laws as inner_laws

bool_same : (a b : Bool) → of_bool.ghosts.eq a b ≡ true → a ≡ b
bool_same a b h = search rules

scalar_same : (a b : ScalarType) → of_scalar.ghosts.eq a b ≡ true → a ≡ b
scalar_same a b h = search rules

size_same : (a b : VectorSize) → of_size.ghosts.eq a b ≡ true → a ≡ b
size_same a b h = search rules

cooperative_size_same : (a b : CooperativeSize) → of_cooperative_size.ghosts.eq a b ≡ true → a ≡ b
cooperative_size_same a b h = search rules

role_same : (a b : CooperativeRole) → of_role.ghosts.eq a b ≡ true → a ≡ b
role_same a b h = search rules

space_same : (a b : AddressSpace) → of_space.ghosts.eq a b ≡ true → a ≡ b
space_same a b h = search rules

dimension_same : (a b : ImageDimension) → of_dimension.ghosts.eq a b ≡ true → a ≡ b
dimension_same a b h = search rules

format_same : (a b : StorageFormat) → of_format.ghosts.eq a b ≡ true → a ≡ b
format_same a b h = same_true format_type (search rules) a b h

access_same : (a b : StorageAccess) → of_access.ghosts.eq a b ≡ true → a ≡ b
access_same a b h = search rules

class_same : (a b : ImageClass) → of_class.ghosts.eq a b ≡ true → a ≡ b
class_same (class.Sampled kind multi) (class.Sampled kind' multi') h = search rules
class_same (class.Depth multi) (class.Depth multi') h = search rules
class_same (class.Storage f a) (class.Storage f' a') h =
    let p : of_format.ghosts.eq f f' ≡ true = first_so _ _ h in
    let q : of_access.ghosts.eq a a' ≡ true = second_so (of_format.ghosts.eq f f') _ h in
    cc (format_same f f' p, access_same a a' q)
class_same class.External class.External h = refl
class_same _ _ h = cc

-- two numbers above 0 are equal if their values are
pub non_zero_same : (a b : NonZeroU32) → a.value ≡ b.value → a ≡ b
non_zero_same a b p = λ j. record { value = p j; ok = is_prop→PathP (λ j. 0 < p j) (λ j. le_prop) a.ok b.ok j }

array_size_same : (a b : ArraySize) → of_array_size.ghosts.eq a b ≡ true → a ≡ b
array_size_same (Constant n) (Constant n') h = search (rules, non_zero_same)
array_size_same (Pending o) (Pending o') h = search rules
array_size_same Dynamic Dynamic h = refl
array_size_same _ _ h = cc

numbered : (a : BuiltInType) → slice_get built_ins (number a) ≡ Some a
numbered a = search rules

-- two built-in values are equal if their numbers are
pub number_same : (a b : BuiltInType) → number a ≡ number b → a ≡ b
number_same a b e = cc (numbered a, numbered b)

built_in_same : (a b : BuiltInType) → of_built_in.ghosts.eq a b ≡ true → a ≡ b
built_in_same a b h = search (rules, number_same)

interpolation_same : (a b : Option Interpolation) → option_eq of_interpolation.ghosts.eq a b ≡ true → a ≡ b
interpolation_same a b h = search rules

sampling_same : (a b : Option Sampling) → option_eq of_sampling.ghosts.eq a b ≡ true → a ≡ b
sampling_same a b h = search rules

location : (l l' : ℕ) (i i' : Option Interpolation) (s s' : Option Sampling) (b b' : Option ℕ) (p p' : Bool) → of_binding.ghosts.eq (Location l i s b p) (Location l' i' s' b' p') ≡ true → Location l i s b p ≡ Location l' i' s' b' p'
location l l' i i' s s' b b' p p' h =
    let same : l ≡ l' = search rules in
    let after_location = second_so (l == l') _ h in
    let i_same : option_eq of_interpolation.ghosts.eq i i' ≡ true = first_so _ _ after_location in
    let after_interpolation = second_so (option_eq of_interpolation.ghosts.eq i i') _ after_location in
    let s_same : option_eq of_sampling.ghosts.eq s s' ≡ true = first_so _ _ after_interpolation in
    let sources : b ≡ b' = search rules in
    let primitives : p ≡ p' = search rules in
    cc (same, interpolation_same i i' i_same, sampling_same s s' s_same, sources, primitives)

one_binding_same : (a b : Binding) → of_binding.ghosts.eq a b ≡ true → a ≡ b
one_binding_same (BuiltIn a) (BuiltIn b) h = search (rules, built_in_same)
one_binding_same (Location l i s b p) (Location l' i' s' b' p') h = location l l' i i' s s' b b' p p' h
one_binding_same _ _ h = cc

binding_same : (a b : Option Binding) → option_eq of_binding.ghosts.eq a b ≡ true → a ≡ b
binding_same None None h = refl
binding_same (Some a) (Some b) h = ap Some (one_binding_same a b h)
binding_same None (Some b) h = cc
binding_same (Some a) None h = cc

pub name_same : (a b : Option (List ℕ)) → option_eq of_text.ghosts.eq a b ≡ true → a ≡ b
name_same None None h = refl
name_same (Some x) (Some y) h = ap Some ((bytes_decides x y).0 h)
name_same None (Some y) h = cc
name_same (Some x) None h = cc

member_same : (a b : StructMember) → of_member.ghosts.eq a b ≡ true → a ≡ b
member_same a b h =
    let names : a.name ≡ b.name = name_same a.name b.name (first_so _ _ h) in
    let types : a.ty ≡ b.ty = search rules in
    let by_binding : option_eq of_binding.ghosts.eq a.binding b.binding ≡ true = first_so _ _ (second_so _ _ (second_so _ _ h)) in
    let bindings : a.binding ≡ b.binding = binding_same a.binding b.binding by_binding in
    let offsets : a.offset ≡ b.offset = search rules in
    λ j. record { name = names j; ty = types j; binding = bindings j; offset = offsets j }

member_decides : (a b : StructMember) → Decides (of_member.ghosts.eq a b) (a ≡ b)
member_decides a b = (member_same a b, λ e. subst (λ (x : StructMember). of_member.ghosts.eq a x ≡ true) e (member_laws.laws-law.refl a))

members_decide : (xs ys : List StructMember) → Decides (pointwise of_member.ghosts.eq xs ys) (xs ≡ ys)
members_decide xs ys = slice_eq-Decides member_decides xs ys (pointwise of_member.ghosts.eq xs ys) refl

value_pointer : (n n' : Option VectorSize) (s s' : ScalarType) (p p' : AddressSpace) → ghosts.eq (ValuePointer n s p) (ValuePointer n' s' p') ≡ true → ValuePointer n s p ≡ ValuePointer n' s' p'
value_pointer None None s s' p p' h = let c : of_scalar.ghosts.eq s s' ≡ true = first_so _ _ h in let d : of_space.ghosts.eq p p' ≡ true = second_so (of_scalar.ghosts.eq s s') _ h in cc (scalar_same s s' c, space_same p p' d)
value_pointer (Some n) (Some n') s s' p p' h =
    let b : of_size.ghosts.eq n n' ≡ true = first_so _ _ h in
    let c : of_scalar.ghosts.eq s s' ≡ true = first_so _ _ (second_so (of_size.ghosts.eq n n') _ h) in
    let d : of_space.ghosts.eq p p' ≡ true = second_so (of_scalar.ghosts.eq s s') _ (second_so (of_size.ghosts.eq n n') _ h) in
    cc (size_same n n' b, scalar_same s s' c, space_same p p' d)
value_pointer _ _ s s' p p' h = cc

image : (d d' : ImageDimension) (a a' : Bool) (c c' : ImageClass) → ghosts.eq (Image d a c) (Image d' a' c') ≡ true → Image d a c ≡ Image d' a' c'
image d d' a a' c c' h =
    let p : of_dimension.ghosts.eq d d' ≡ true = first_so _ _ h in
    let b : of_bool.ghosts.eq a a' ≡ true = first_so _ _ (second_so (of_dimension.ghosts.eq d d') _ h) in
    let q : of_class.ghosts.eq c c' ≡ true = second_so (of_bool.ghosts.eq a a') _ (second_so (of_dimension.ghosts.eq d d') _ h) in
    cc (dimension_same d d' p, bool_same a a' b, class_same c c' q)

cooperative : (m m' n n' : CooperativeSize) (s s' : ScalarType) (r r' : CooperativeRole) → ghosts.eq (CooperativeMatrix m n s r) (CooperativeMatrix m' n' s' r') ≡ true → CooperativeMatrix m n s r ≡ CooperativeMatrix m' n' s' r'
cooperative m m' n n' s s' r r' h =
    let a : of_cooperative_size.ghosts.eq m m' ≡ true = first_so _ _ h in
    let rest = second_so (of_cooperative_size.ghosts.eq m m') _ h in
    let b : of_cooperative_size.ghosts.eq n n' ≡ true = first_so _ _ rest in
    let end = second_so (of_cooperative_size.ghosts.eq n n') _ rest in
    let c : of_scalar.ghosts.eq s s' ≡ true = first_so _ _ end in
    let d : of_role.ghosts.eq r r' ≡ true = second_so (of_scalar.ghosts.eq s s') _ end in
    cc (cooperative_size_same m m' a, cooperative_size_same n n' b, scalar_same s s' c, role_same r r' d)

array : (b b' : ℕ) (z z' : ArraySize) (s s' : ℕ) → ghosts.eq (Array b z s) (Array b' z' s') ≡ true → Array b z s ≡ Array b' z' s'
array b b' z z' s s' h =
    let same : b ≡ b' = search rules in
    let size : of_array_size.ghosts.eq z z' ≡ true = first_so _ _ (second_so _ _ h) in
    let stride : s ≡ s' = search rules in
    cc (same, array_size_same z z' size, stride)

binding_array : (b b' : ℕ) (z z' : ArraySize) → ghosts.eq (BindingArray b z) (BindingArray b' z') ≡ true → BindingArray b z ≡ BindingArray b' z'
binding_array b b' z z' h =
    let same : b ≡ b' = search rules in
    let size : of_array_size.ghosts.eq z z' ≡ true = second_so _ _ h in
    cc (same, array_size_same z z' size)

pub inner_same : (a b : TypeInner) → ghosts.eq a b ≡ true → a ≡ b
inner_same (Scalar s) (Scalar t) h = search rules
inner_same (Vector size scalar) (Vector size' scalar') h = search rules
inner_same (Matrix columns rows scalar) (Matrix columns' rows' scalar') h = search rules
inner_same (CooperativeMatrix columns rows scalar role) (CooperativeMatrix columns' rows' scalar' role') h = cooperative columns columns' rows rows' scalar scalar' role role' h
inner_same (Atomic s) (Atomic t) h = search rules
inner_same (Pointer base space) (Pointer base' space') h = search rules
inner_same (ValuePointer size scalar space) (ValuePointer size' scalar' space') h = value_pointer size size' scalar scalar' space space' h
inner_same (Array base size stride) (Array base' size' stride') h = array base base' size size' stride stride' h
inner_same (Struct members span) (Struct members' span') h = search (rules, members_decide)
inner_same (Image dim arrayed class) (Image dim' arrayed' class') h = image dim dim' arrayed arrayed' class class' h
inner_same (Sampler comparison) (Sampler comparison') h = search rules
inner_same (AccelerationStructure v) (AccelerationStructure w) h = search rules
inner_same (RayQuery v) (RayQuery w) h = search rules
inner_same (BindingArray base size) (BindingArray base' size') h = binding_array base base' size size' h
inner_same _ _ h = cc

-- `==` of two `TypeInner` decides whether they are equal
pub inner_decides : (a b : TypeInner) → Decides (ghosts.eq a b) (a ≡ b)
inner_decides a b = (inner_same a b, λ e. subst (λ (x : TypeInner). ghosts.eq a x ≡ true) e (inner_laws.laws-law.refl a))
