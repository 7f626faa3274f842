-- The names that texts show in place of numbers.
use Rattle.std.specs.Prelude.{ℕ, List, [], ◌∷◌, codes, ◌==◌, if◌then◌else◌}
use Rattle.naga_error_text.specs.declared.names.Names.{Names}
use Rattle.naga_error_text.specs.declared.names.Names.TheVariants.{ItemKinds, Bools, ScalarKinds, ScalarLetters, ScalarBits, VectorSizes, Components, Dimensions, ImageNames, Accesses, Spaces, UnaryOperators, BinaryOperators, MathFunctions, StorageFormats, BuiltIns, Interpolations, Samplings, EntryStages, Capabilities}

-- the name of the number `n` in a table, or "unknown"
abbrev pub name_in : List (ℕ × List ℕ) → ℕ → List ℕ
name_in [] n = codes "unknown"
name_in (row ∷ table) n = if row.0 == n then row.1 else name_in table n

-- the numbers of each kind, with their names
abbrev pub names : Names → List (ℕ × List ℕ)
names ItemKinds =
    (1, codes "Type") ∷ (2, codes "Constant") ∷ (3, codes "Override") ∷ (4, codes "GlobalVariable") ∷
    (5, codes "Expression") ∷ (6, codes "LocalVariable") ∷ (7, codes "Function") ∷
    (8, codes "DiagnosticFilterNode") ∷ (9, codes "EntryPoint") ∷ []
names Bools = (0, codes "false") ∷ (1, codes "true") ∷ []
names ScalarKinds =
    (0, codes "Sint") ∷ (1, codes "Uint") ∷ (2, codes "Float") ∷ (3, codes "Bool") ∷ (4, codes "AbstractInt") ∷
    (5, codes "AbstractFloat") ∷ []
names ScalarLetters = (0, codes "i") ∷ (1, codes "u") ∷ (2, codes "f") ∷ []
names ScalarBits = (1, codes "8") ∷ (2, codes "16") ∷ (4, codes "32") ∷ (8, codes "64") ∷ []
names VectorSizes = (2, codes "Bi") ∷ (3, codes "Tri") ∷ (4, codes "Quad") ∷ []
names Components = (0, codes "X") ∷ (1, codes "Y") ∷ (2, codes "Z") ∷ (3, codes "W") ∷ []
names Dimensions = (0, codes "D1") ∷ (1, codes "D2") ∷ (2, codes "D3") ∷ (3, codes "Cube") ∷ []
names ImageNames = (0, codes "Images") ∷ (1, codes "Arrayed images") ∷ []
names Accesses =
    (0, codes "StorageAccess { load: false, store: false, atomic: false }") ∷
    (1, codes "StorageAccess { load: true, store: false, atomic: false }") ∷
    (2, codes "StorageAccess { load: false, store: true, atomic: false }") ∷
    (3, codes "StorageAccess { load: true, store: true, atomic: false }") ∷
    (4, codes "StorageAccess { load: false, store: false, atomic: true }") ∷
    (5, codes "StorageAccess { load: true, store: false, atomic: true }") ∷
    (6, codes "StorageAccess { load: false, store: true, atomic: true }") ∷
    (7, codes "StorageAccess { load: true, store: true, atomic: true }") ∷ []
names Spaces =
    (0, codes "Function") ∷ (1, codes "Private") ∷ (2, codes "WorkGroup") ∷ (3, codes "Uniform") ∷
    (4, codes "Storage") ∷ (5, codes "Handle") ∷ (6, codes "Immediate") ∷ (7, codes "TaskPayload") ∷
    (8, codes "RayPayload") ∷ (9, codes "IncomingRayPayload") ∷ []
names UnaryOperators = (0, codes "Negate") ∷ (1, codes "LogicalNot") ∷ (2, codes "BitwiseNot") ∷ []
names BinaryOperators =
    (0, codes "Add") ∷ (1, codes "Subtract") ∷ (2, codes "Multiply") ∷ (3, codes "Divide") ∷ (4, codes "Modulo") ∷
    (5, codes "Equal") ∷ (6, codes "NotEqual") ∷ (7, codes "Less") ∷ (8, codes "LessEqual") ∷ (9, codes "Greater") ∷
    (10, codes "GreaterEqual") ∷ (11, codes "And") ∷ (12, codes "ExclusiveOr") ∷ (13, codes "InclusiveOr") ∷
    (14, codes "LogicalAnd") ∷ (15, codes "LogicalOr") ∷ (16, codes "ShiftLeft") ∷ (17, codes "ShiftRight") ∷ []
names MathFunctions =
    (0, codes "Abs") ∷ (1, codes "Min") ∷ (2, codes "Max") ∷ (3, codes "Clamp") ∷ (4, codes "Saturate") ∷
    (5, codes "Cos") ∷ (6, codes "Cosh") ∷ (7, codes "Sin") ∷ (8, codes "Sinh") ∷ (9, codes "Tan") ∷
    (10, codes "Tanh") ∷ (11, codes "Acos") ∷ (12, codes "Asin") ∷ (13, codes "Atan") ∷ (14, codes "Atan2") ∷
    (15, codes "Asinh") ∷ (16, codes "Acosh") ∷ (17, codes "Atanh") ∷ (18, codes "Radians") ∷ (19, codes "Degrees") ∷
    (20, codes "Ceil") ∷ (21, codes "Floor") ∷ (22, codes "Round") ∷ (23, codes "Fract") ∷ (24, codes "Trunc") ∷
    (25, codes "Exp") ∷ (26, codes "Exp2") ∷ (27, codes "Log") ∷ (28, codes "Log2") ∷ (29, codes "Pow") ∷
    (30, codes "Dot") ∷ (31, codes "Cross") ∷ (32, codes "Distance") ∷ (33, codes "Length") ∷
    (34, codes "Normalize") ∷ (35, codes "FaceForward") ∷ (36, codes "Reflect") ∷ (37, codes "Refract") ∷
    (38, codes "Sign") ∷ (39, codes "Fma") ∷ (40, codes "Mix") ∷ (41, codes "Step") ∷ (42, codes "SmoothStep") ∷
    (43, codes "Sqrt") ∷ (44, codes "InverseSqrt") ∷ (45, codes "Transpose") ∷ (46, codes "Determinant") ∷
    (47, codes "QuantizeToF16") ∷ (48, codes "CountTrailingZeros") ∷ (49, codes "CountLeadingZeros") ∷
    (50, codes "CountOneBits") ∷ (51, codes "ReverseBits") ∷ (52, codes "ExtractBits") ∷ (53, codes "InsertBits") ∷
    (54, codes "FirstTrailingBit") ∷ (55, codes "FirstLeadingBit") ∷ (56, codes "Pack2x16float") ∷
    (57, codes "Unpack2x16float") ∷ (58, codes "Modf") ∷ (59, codes "Frexp") ∷ (60, codes "Ldexp") ∷
    (61, codes "Dot4I8Packed") ∷ (62, codes "Dot4U8Packed") ∷ (63, codes "Outer") ∷ (64, codes "Inverse") ∷
    (65, codes "Pack4x8snorm") ∷ (66, codes "Pack4x8unorm") ∷ (67, codes "Pack2x16snorm") ∷
    (68, codes "Pack2x16unorm") ∷ (69, codes "Pack4xI8") ∷ (70, codes "Pack4xU8") ∷ (71, codes "Pack4xI8Clamp") ∷
    (72, codes "Pack4xU8Clamp") ∷ (73, codes "Unpack4x8snorm") ∷ (74, codes "Unpack4x8unorm") ∷
    (75, codes "Unpack2x16snorm") ∷ (76, codes "Unpack2x16unorm") ∷ (77, codes "Unpack4xI8") ∷
    (78, codes "Unpack4xU8") ∷ []
names StorageFormats =
    (0, codes "R8Unorm") ∷ (1, codes "R8Snorm") ∷ (2, codes "R8Uint") ∷ (3, codes "R8Sint") ∷ (4, codes "R16Uint") ∷
    (5, codes "R16Sint") ∷ (6, codes "R16Float") ∷ (7, codes "Rg8Unorm") ∷ (8, codes "Rg8Snorm") ∷
    (9, codes "Rg8Uint") ∷ (10, codes "Rg8Sint") ∷ (11, codes "R32Uint") ∷ (12, codes "R32Sint") ∷
    (13, codes "R32Float") ∷ (14, codes "Rg16Uint") ∷ (15, codes "Rg16Sint") ∷ (16, codes "Rg16Float") ∷
    (17, codes "Rgba8Unorm") ∷ (18, codes "Rgba8Snorm") ∷ (19, codes "Rgba8Uint") ∷ (20, codes "Rgba8Sint") ∷
    (21, codes "Bgra8Unorm") ∷ (22, codes "Rgb10a2Uint") ∷ (23, codes "Rgb10a2Unorm") ∷ (24, codes "Rg11b10Ufloat") ∷
    (25, codes "R64Uint") ∷ (26, codes "Rg32Uint") ∷ (27, codes "Rg32Sint") ∷ (28, codes "Rg32Float") ∷
    (29, codes "Rgba16Uint") ∷ (30, codes "Rgba16Sint") ∷ (31, codes "Rgba16Float") ∷ (32, codes "Rgba32Uint") ∷
    (33, codes "Rgba32Sint") ∷ (34, codes "Rgba32Float") ∷ (35, codes "R16Unorm") ∷ (36, codes "R16Snorm") ∷
    (37, codes "Rg16Unorm") ∷ (38, codes "Rg16Snorm") ∷ (39, codes "Rgba16Unorm") ∷ (40, codes "Rgba16Snorm") ∷ []
names BuiltIns =
    (0, codes "Position { invariant: false }") ∷ (1, codes "Position { invariant: true }") ∷ (2, codes "ViewIndex") ∷
    (3, codes "BaseInstance") ∷ (4, codes "BaseVertex") ∷ (5, codes "ClipDistances") ∷ (6, codes "CullDistance") ∷
    (7, codes "InstanceIndex") ∷ (8, codes "PointSize") ∷ (9, codes "VertexIndex") ∷ (10, codes "DrawIndex") ∷
    (11, codes "FragDepth") ∷ (12, codes "PointCoord") ∷ (13, codes "FrontFacing") ∷ (14, codes "PrimitiveIndex") ∷
    (15, codes "Barycentric { perspective: false }") ∷ (16, codes "Barycentric { perspective: true }") ∷
    (17, codes "SampleIndex") ∷ (18, codes "SampleMask") ∷ (19, codes "GlobalInvocationId") ∷
    (20, codes "LocalInvocationId") ∷ (21, codes "LocalInvocationIndex") ∷ (22, codes "WorkGroupId") ∷
    (23, codes "WorkGroupSize") ∷ (24, codes "NumWorkGroups") ∷ (25, codes "NumSubgroups") ∷ (26, codes "SubgroupId") ∷
    (27, codes "SubgroupSize") ∷ (28, codes "SubgroupInvocationId") ∷ (29, codes "MeshTaskSize") ∷
    (30, codes "CullPrimitive") ∷ (31, codes "PointIndex") ∷ (32, codes "LineIndices") ∷ (33, codes "TriangleIndices") ∷
    (34, codes "VertexCount") ∷ (35, codes "Vertices") ∷ (36, codes "PrimitiveCount") ∷ (37, codes "Primitives") ∷
    (38, codes "RayInvocationId") ∷ (39, codes "NumRayInvocations") ∷ (40, codes "InstanceCustomData") ∷
    (41, codes "GeometryIndex") ∷ (42, codes "WorldRayOrigin") ∷ (43, codes "WorldRayDirection") ∷
    (44, codes "ObjectRayOrigin") ∷ (45, codes "ObjectRayDirection") ∷ (46, codes "RayTmin") ∷
    (47, codes "RayTCurrentMax") ∷ (48, codes "ObjectToWorld") ∷ (49, codes "WorldToObject") ∷ (50, codes "HitKind") ∷
    []
names Interpolations = (1, codes "Perspective") ∷ (2, codes "Linear") ∷ (3, codes "Flat") ∷ (4, codes "PerVertex") ∷ []
names Samplings =
    (1, codes "Center") ∷ (2, codes "Centroid") ∷ (3, codes "Sample") ∷ (4, codes "First") ∷ (5, codes "Either") ∷ []
names EntryStages =
    (1, codes "Vertex") ∷ (2, codes "Task") ∷ (3, codes "Mesh") ∷ (4, codes "Fragment") ∷ (5, codes "Compute") ∷
    (6, codes "RayGeneration") ∷ (7, codes "Miss") ∷ (8, codes "AnyHit") ∷ (9, codes "ClosestHit") ∷ []
names Capabilities =
    (1, codes "IMMEDIATES") ∷ (2, codes "FLOAT64") ∷ (4, codes "PRIMITIVE_INDEX") ∷
    (8, codes "TEXTURE_AND_SAMPLER_BINDING_ARRAY") ∷ (16, codes "BUFFER_BINDING_ARRAY") ∷
    (32, codes "STORAGE_TEXTURE_BINDING_ARRAY") ∷ (64, codes "STORAGE_BUFFER_BINDING_ARRAY") ∷
    (128, codes "CLIP_DISTANCES") ∷ (256, codes "CULL_DISTANCE") ∷
    (512, codes "STORAGE_TEXTURE_16BIT_NORM_FORMATS") ∷ (1024, codes "MULTIVIEW") ∷
    (2048, codes "EARLY_DEPTH_TEST") ∷ (4096, codes "MULTISAMPLED_SHADING") ∷ (8192, codes "RAY_QUERY") ∷
    (16384, codes "DUAL_SOURCE_BLENDING") ∷ (32768, codes "CUBE_ARRAY_TEXTURES") ∷ (65536, codes "SHADER_INT64") ∷
    (131072, codes "SUBGROUP") ∷ (262144, codes "SUBGROUP_BARRIER") ∷ (524288, codes "SUBGROUP_VERTEX_STAGE") ∷
    (1048576, codes "SHADER_INT64_ATOMIC_MIN_MAX") ∷ (2097152, codes "SHADER_INT64_ATOMIC_ALL_OPS") ∷
    (4194304, codes "SHADER_FLOAT32_ATOMIC") ∷ (8388608, codes "TEXTURE_ATOMIC") ∷
    (16777216, codes "TEXTURE_INT64_ATOMIC") ∷ (33554432, codes "RAY_HIT_VERTEX_POSITION") ∷
    (67108864, codes "SHADER_FLOAT16") ∷ (134217728, codes "TEXTURE_EXTERNAL") ∷
    (268435456, codes "SHADER_FLOAT16_IN_FLOAT32") ∷ (536870912, codes "SHADER_BARYCENTRICS") ∷
    (1073741824, codes "MESH_SHADER") ∷ (2147483648, codes "MESH_SHADER_POINT_TOPOLOGY") ∷
    (4294967296, codes "TEXTURE_AND_SAMPLER_BINDING_ARRAY_NON_UNIFORM_INDEXING") ∷
    (8589934592, codes "BUFFER_BINDING_ARRAY_NON_UNIFORM_INDEXING") ∷
    (17179869184, codes "STORAGE_TEXTURE_BINDING_ARRAY_NON_UNIFORM_INDEXING") ∷
    (34359738368, codes "STORAGE_BUFFER_BINDING_ARRAY_NON_UNIFORM_INDEXING") ∷
    (68719476736, codes "COOPERATIVE_MATRIX") ∷ (137438953472, codes "PER_VERTEX") ∷
    (274877906944, codes "RAY_TRACING_PIPELINE") ∷ (549755813888, codes "DRAW_INDEX") ∷
    (1099511627776, codes "ACCELERATION_STRUCTURE_BINDING_ARRAY") ∷
    (2199023255552, codes "MEMORY_DECORATION_COHERENT") ∷ (4398046511104, codes "MEMORY_DECORATION_VOLATILE") ∷
    (8796093022208, codes "SHADER_INT16") ∷ []

-- the name of what a number of some kind stands for
abbrev pub named : Names → ℕ → List ℕ
named kind n = name_in (names kind) n
