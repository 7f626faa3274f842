-- The table of built-in values.
use Rattle.std.specs.Prelude.{◌==◌, ◌&&◌, ◌||◌, leb, ℕ, Bool as Boolean, true, false, List, [], ◌∷◌, Option, Some, None}
use Rattle.naga_flags.specs.Bits.{CLIP_DISTANCES, COMPUTE, CULL_DISTANCE, DRAW_INDEX, FRAGMENT, MULTISAMPLED_SHADING, MULTIVIEW, PRIMITIVE_INDEX, SHADER_BARYCENTRICS, SUBGROUP, VERTEX, union_of}
use Rattle.naga_info.specs.Words.{are_equal}
use Rattle.naga_interface.specs.declared.built_in.BuiltInRow.{BuiltInRow}
use Rattle.naga_interface.specs.declared.built_in.BuiltInType.{BuiltInType}
use Rattle.naga_interface.specs.declared.built_in.BuiltInType.TheVariants.{Distances, Either32, Scalar, Vector}
use Rattle.naga_ir.specs.BuiltIns.{number}
use Rattle.naga_ir.specs.declared.built_in.BuiltIn.{BuiltIn}
use Rattle.naga_ir.specs.declared.built_in.BuiltIn.TheVariants as built_in
use Rattle.naga_ir.specs.declared.types.ArraySize.TheVariants.{Constant}
use Rattle.naga_ir.specs.declared.types.Scalar.{Scalar as ScalarType}
use Rattle.naga_ir.specs.declared.types.ScalarKind.TheVariants.{Sint, Uint, Float, Bool}
use Rattle.naga_ir.specs.declared.types.«Type».{«Type»}
use Rattle.naga_ir.specs.declared.types.TypeInner.{TypeInner}
use Rattle.naga_ir.specs.declared.types.TypeInner.TheVariants as form
use Rattle.naga_ir.specs.declared.types.VectorSize.TheVariants.{Bi, Tri, Quad}
use Rattle.naga_typing.specs.Resolutions.{inner_in}
use Rattle.naga_typing.specs.declared.typifier.TypeResolution.TheVariants.{Handle}

-- the scalars of built-in values
abbrev pub u32 : ScalarType
u32 = record { kind = Uint; width = 4 }

abbrev pub i32 : ScalarType
i32 = record { kind = Sint; width = 4 }

abbrev pub f32 : ScalarType
f32 = record { kind = Float; width = 4 }

abbrev pub bool : ScalarType
bool = record { kind = Bool; width = 1 }

-- a row: the stages in which the value is an input, those in which it is an output, its type, and the capability that
-- it needs, or 0
abbrev pub row : ℕ → ℕ → BuiltInType → ℕ → BuiltInRow
row inputs outputs ty capability = record {
  inputs = record { 0 = inputs };
  outputs = record { 0 = outputs };
  ty = ty;
  capability = record { 0 = capability };
}

-- no stage that is covered has the value
abbrev pub nowhere : BuiltInRow
nowhere = row 0 0 (Scalar u32) 0

-- the row of a built-in value; stages of meshes and rays are not covered, nor their values
abbrev pub built_in_row : BuiltIn → BuiltInRow
built_in_row built_in.VertexIndex = row VERTEX 0 (Scalar u32) 0
built_in_row built_in.InstanceIndex = row VERTEX 0 (Scalar u32) 0
built_in_row built_in.BaseVertex = row VERTEX 0 (Scalar u32) 0
built_in_row built_in.BaseInstance = row VERTEX 0 (Scalar u32) 0
built_in_row built_in.DrawIndex = row VERTEX 0 (Scalar u32) DRAW_INDEX
built_in_row (built_in.Position invariant) = row FRAGMENT VERTEX (Vector Quad f32) 0
built_in_row built_in.PointSize = row 0 VERTEX (Scalar f32) 0
built_in_row built_in.PointCoord = row FRAGMENT 0 (Vector Bi f32) 0
built_in_row built_in.ClipDistances = row 0 VERTEX Distances CLIP_DISTANCES
built_in_row built_in.CullDistance = row 0 VERTEX Distances CULL_DISTANCE
built_in_row built_in.ViewIndex = row (union_of (VERTEX ∷ FRAGMENT ∷ [])) 0 Either32 MULTIVIEW
built_in_row built_in.FragDepth = row 0 FRAGMENT (Scalar f32) 0
built_in_row built_in.FrontFacing = row FRAGMENT 0 (Scalar bool) 0
built_in_row built_in.PrimitiveIndex = row FRAGMENT 0 (Scalar u32) PRIMITIVE_INDEX
built_in_row (built_in.Barycentric perspective) = row FRAGMENT 0 (Vector Tri f32) SHADER_BARYCENTRICS
built_in_row built_in.SampleIndex = row FRAGMENT 0 (Scalar u32) MULTISAMPLED_SHADING
built_in_row built_in.SampleMask = row FRAGMENT FRAGMENT (Scalar u32) 0
built_in_row built_in.LocalInvocationIndex = row COMPUTE 0 (Scalar u32) 0
built_in_row built_in.LocalInvocationId = row COMPUTE 0 (Vector Tri u32) 0
built_in_row built_in.GlobalInvocationId = row COMPUTE 0 (Vector Tri u32) 0
built_in_row built_in.WorkGroupId = row COMPUTE 0 (Vector Tri u32) 0
built_in_row built_in.WorkGroupSize = row COMPUTE 0 (Vector Tri u32) 0
built_in_row built_in.NumWorkGroups = row COMPUTE 0 (Vector Tri u32) 0
built_in_row built_in.NumSubgroups = row COMPUTE 0 (Scalar u32) SUBGROUP
built_in_row built_in.SubgroupId = row COMPUTE 0 (Scalar u32) SUBGROUP
built_in_row built_in.SubgroupSize = row (union_of (COMPUTE ∷ FRAGMENT ∷ [])) 0 (Scalar u32) SUBGROUP
built_in_row built_in.SubgroupInvocationId = row (union_of (COMPUTE ∷ FRAGMENT ∷ [])) 0 (Scalar u32) SUBGROUP
built_in_row _ = nowhere

-- whether there is a type, and it is `scalar`
abbrev pub is_scalar : ScalarType → Option TypeInner → Boolean
is_scalar scalar (Some inner) = are_equal inner (form.Scalar scalar)
is_scalar scalar None = false

-- the greatest number of distances
abbrev pub most_distances : ℕ
most_distances = 8

-- whether `inner` is an array of distances: numbers of 32 bits, as many as the module says
abbrev pub are_distances : List «Type» → TypeInner → Boolean
are_distances types (form.Array base (Constant count) stride) =
    leb count.value most_distances && is_scalar f32 (inner_in types (Handle base))
are_distances types _ = false

-- whether `inner` is the type of a built-in value
abbrev pub is_built_in_type : List «Type» → BuiltInType → TypeInner → Boolean
is_built_in_type types (Scalar scalar) inner = are_equal inner (form.Scalar scalar)
is_built_in_type types Either32 inner = are_equal inner (form.Scalar u32) || are_equal inner (form.Scalar i32)
is_built_in_type types (Vector size scalar) inner = are_equal inner (form.Vector size scalar)
is_built_in_type types Distances inner = are_distances types inner

-- a built-in value without what it says besides: whether `Position` is invariant, and how `Barycentric` is corrected
abbrev pub plain : BuiltIn → BuiltIn
plain (built_in.Position invariant) = built_in.Position false
plain (built_in.Barycentric perspective) = built_in.Barycentric false
plain b = b

-- the number of a built-in value, whatever it says besides
abbrev pub plain_number : BuiltIn → ℕ
plain_number b = number (plain b)

-- whether two built-in values are the same, whatever they say besides
abbrev pub are_same_built_in : BuiltIn → BuiltIn → Boolean
are_same_built_in a b = plain_number a == plain_number b

-- the values of a subgroup that are only defined in workgroups of one dimension
abbrev pub is_of_one_dimension : BuiltIn → Boolean
is_of_one_dimension built_in.NumSubgroups = true
is_of_one_dimension built_in.SubgroupId = true
is_of_one_dimension built_in.SubgroupInvocationId = true
is_of_one_dimension _ = false
