-- The bit of each flag, under its name in the code, and the sets of flags that rules name.
use Rattle.std.specs.Prelude.{◌^◌, ◌-◌, ℕ, List, [], ◌∷◌, bit_or, fold}

-- the union of some flags
abbrev pub union_of : List ℕ → ℕ
union_of flags = fold bit_or 0 flags

-- the parts of a module that a validator may check
abbrev pub EXPRESSIONS : ℕ
EXPRESSIONS = 2 ^ 0

abbrev pub BLOCKS : ℕ
BLOCKS = 2 ^ 1

abbrev pub CONTROL_FLOW_UNIFORMITY : ℕ
CONTROL_FLOW_UNIFORMITY = 2 ^ 2

abbrev pub STRUCT_LAYOUTS : ℕ
STRUCT_LAYOUTS = 2 ^ 3

abbrev pub CONSTANTS : ℕ
CONSTANTS = 2 ^ 4

abbrev pub BINDINGS : ℕ
BINDINGS = 2 ^ 5

-- what shaders may use beyond the core of the language
abbrev pub IMMEDIATES : ℕ
IMMEDIATES = 2 ^ 0

abbrev pub FLOAT64 : ℕ
FLOAT64 = 2 ^ 1

abbrev pub PRIMITIVE_INDEX : ℕ
PRIMITIVE_INDEX = 2 ^ 2

abbrev pub TEXTURE_AND_SAMPLER_BINDING_ARRAY : ℕ
TEXTURE_AND_SAMPLER_BINDING_ARRAY = 2 ^ 3

abbrev pub BUFFER_BINDING_ARRAY : ℕ
BUFFER_BINDING_ARRAY = 2 ^ 4

abbrev pub STORAGE_TEXTURE_BINDING_ARRAY : ℕ
STORAGE_TEXTURE_BINDING_ARRAY = 2 ^ 5

abbrev pub STORAGE_BUFFER_BINDING_ARRAY : ℕ
STORAGE_BUFFER_BINDING_ARRAY = 2 ^ 6

abbrev pub CLIP_DISTANCES : ℕ
CLIP_DISTANCES = 2 ^ 7

abbrev pub CULL_DISTANCE : ℕ
CULL_DISTANCE = 2 ^ 8

abbrev pub STORAGE_TEXTURE_16BIT_NORM_FORMATS : ℕ
STORAGE_TEXTURE_16BIT_NORM_FORMATS = 2 ^ 9

abbrev pub MULTIVIEW : ℕ
MULTIVIEW = 2 ^ 10

abbrev pub EARLY_DEPTH_TEST : ℕ
EARLY_DEPTH_TEST = 2 ^ 11

abbrev pub MULTISAMPLED_SHADING : ℕ
MULTISAMPLED_SHADING = 2 ^ 12

abbrev pub RAY_QUERY : ℕ
RAY_QUERY = 2 ^ 13

abbrev pub DUAL_SOURCE_BLENDING : ℕ
DUAL_SOURCE_BLENDING = 2 ^ 14

abbrev pub CUBE_ARRAY_TEXTURES : ℕ
CUBE_ARRAY_TEXTURES = 2 ^ 15

abbrev pub SHADER_INT64 : ℕ
SHADER_INT64 = 2 ^ 16

abbrev pub SUBGROUP : ℕ
SUBGROUP = 2 ^ 17

abbrev pub SUBGROUP_BARRIER : ℕ
SUBGROUP_BARRIER = 2 ^ 18

abbrev pub SUBGROUP_VERTEX_STAGE : ℕ
SUBGROUP_VERTEX_STAGE = 2 ^ 19

abbrev pub SHADER_INT64_ATOMIC_MIN_MAX : ℕ
SHADER_INT64_ATOMIC_MIN_MAX = 2 ^ 20

abbrev pub SHADER_INT64_ATOMIC_ALL_OPS : ℕ
SHADER_INT64_ATOMIC_ALL_OPS = 2 ^ 21

abbrev pub SHADER_FLOAT32_ATOMIC : ℕ
SHADER_FLOAT32_ATOMIC = 2 ^ 22

abbrev pub TEXTURE_ATOMIC : ℕ
TEXTURE_ATOMIC = 2 ^ 23

abbrev pub TEXTURE_INT64_ATOMIC : ℕ
TEXTURE_INT64_ATOMIC = 2 ^ 24

abbrev pub RAY_HIT_VERTEX_POSITION : ℕ
RAY_HIT_VERTEX_POSITION = 2 ^ 25

abbrev pub SHADER_FLOAT16 : ℕ
SHADER_FLOAT16 = 2 ^ 26

abbrev pub TEXTURE_EXTERNAL : ℕ
TEXTURE_EXTERNAL = 2 ^ 27

abbrev pub SHADER_FLOAT16_IN_FLOAT32 : ℕ
SHADER_FLOAT16_IN_FLOAT32 = 2 ^ 28

abbrev pub SHADER_BARYCENTRICS : ℕ
SHADER_BARYCENTRICS = 2 ^ 29

abbrev pub MESH_SHADER : ℕ
MESH_SHADER = 2 ^ 30

abbrev pub MESH_SHADER_POINT_TOPOLOGY : ℕ
MESH_SHADER_POINT_TOPOLOGY = 2 ^ 31

abbrev pub TEXTURE_AND_SAMPLER_BINDING_ARRAY_NON_UNIFORM_INDEXING : ℕ
TEXTURE_AND_SAMPLER_BINDING_ARRAY_NON_UNIFORM_INDEXING = 2 ^ 32

abbrev pub BUFFER_BINDING_ARRAY_NON_UNIFORM_INDEXING : ℕ
BUFFER_BINDING_ARRAY_NON_UNIFORM_INDEXING = 2 ^ 33

abbrev pub STORAGE_TEXTURE_BINDING_ARRAY_NON_UNIFORM_INDEXING : ℕ
STORAGE_TEXTURE_BINDING_ARRAY_NON_UNIFORM_INDEXING = 2 ^ 34

abbrev pub STORAGE_BUFFER_BINDING_ARRAY_NON_UNIFORM_INDEXING : ℕ
STORAGE_BUFFER_BINDING_ARRAY_NON_UNIFORM_INDEXING = 2 ^ 35

abbrev pub COOPERATIVE_MATRIX : ℕ
COOPERATIVE_MATRIX = 2 ^ 36

abbrev pub PER_VERTEX : ℕ
PER_VERTEX = 2 ^ 37

abbrev pub RAY_TRACING_PIPELINE : ℕ
RAY_TRACING_PIPELINE = 2 ^ 38

abbrev pub DRAW_INDEX : ℕ
DRAW_INDEX = 2 ^ 39

abbrev pub ACCELERATION_STRUCTURE_BINDING_ARRAY : ℕ
ACCELERATION_STRUCTURE_BINDING_ARRAY = 2 ^ 40

abbrev pub MEMORY_DECORATION_COHERENT : ℕ
MEMORY_DECORATION_COHERENT = 2 ^ 41

abbrev pub MEMORY_DECORATION_VOLATILE : ℕ
MEMORY_DECORATION_VOLATILE = 2 ^ 42

abbrev pub SHADER_INT16 : ℕ
SHADER_INT16 = 2 ^ 43

-- what types may be used for
abbrev pub DATA : ℕ
DATA = 2 ^ 0

abbrev pub SIZED : ℕ
SIZED = 2 ^ 1

abbrev pub COPY : ℕ
COPY = 2 ^ 2

abbrev pub IO_SHAREABLE : ℕ
IO_SHAREABLE = 2 ^ 3

abbrev pub HOST_SHAREABLE : ℕ
HOST_SHAREABLE = 2 ^ 4

abbrev pub CREATION_RESOLVED : ℕ
CREATION_RESOLVED = 2 ^ 5

abbrev pub ARGUMENT : ℕ
ARGUMENT = 2 ^ 6

abbrev pub CONSTRUCTIBLE : ℕ
CONSTRUCTIBLE = 2 ^ 7

-- the stages of a pipeline
abbrev pub VERTEX : ℕ
VERTEX = 2 ^ 0

abbrev pub FRAGMENT : ℕ
FRAGMENT = 2 ^ 1

abbrev pub COMPUTE : ℕ
COMPUTE = 2 ^ 2

abbrev pub MESH : ℕ
MESH = 2 ^ 3

abbrev pub TASK : ℕ
TASK = 2 ^ 4

abbrev pub RAY_GENERATION : ℕ
RAY_GENERATION = 2 ^ 5

abbrev pub ANY_HIT : ℕ
ANY_HIT = 2 ^ 6

abbrev pub CLOSEST_HIT : ℕ
CLOSEST_HIT = 2 ^ 7

abbrev pub MISS : ℕ
MISS = 2 ^ 8

abbrev pub COMPUTE_LIKE : ℕ
COMPUTE_LIKE = union_of (COMPUTE ∷ MESH ∷ TASK ∷ [])

-- all stages of a pipeline
abbrev pub all_stages : ℕ
all_stages = union_of (VERTEX ∷ FRAGMENT ∷ COMPUTE ∷ MESH ∷ TASK ∷ RAY_GENERATION ∷ ANY_HIT ∷ CLOSEST_HIT ∷ MISS ∷ [])

-- the groups of operations among a subgroup
abbrev pub BASIC : ℕ
BASIC = 2 ^ 0

abbrev pub VOTE : ℕ
VOTE = 2 ^ 1

abbrev pub ARITHMETIC : ℕ
ARITHMETIC = 2 ^ 2

abbrev pub BALLOT : ℕ
BALLOT = 2 ^ 3

abbrev pub SHUFFLE : ℕ
SHUFFLE = 2 ^ 4

abbrev pub SHUFFLE_RELATIVE : ℕ
SHUFFLE_RELATIVE = 2 ^ 5

abbrev pub QUAD_FRAGMENT_COMPUTE : ℕ
QUAD_FRAGMENT_COMPUTE = 2 ^ 7

-- all parts of a module that a validator may check
abbrev pub all_validation_flags : ℕ
all_validation_flags = 2 ^ 6 - 1

-- all capabilities
abbrev pub all_capabilities : ℕ
all_capabilities = 2 ^ 44 - 1

-- the capabilities of a validator that is given none
abbrev pub default_capabilities : ℕ
default_capabilities = union_of (MULTISAMPLED_SHADING ∷ CUBE_ARRAY_TEXTURES ∷ [])

-- all that a type may be used for
abbrev pub all_type_flags : ℕ
all_type_flags = 2 ^ 8 - 1

-- all groups of operations among a subgroup: no flag has the bit before the last
abbrev pub all_subgroup_operations : ℕ
all_subgroup_operations =
    union_of (BASIC ∷ VOTE ∷ ARITHMETIC ∷ BALLOT ∷ SHUFFLE ∷ SHUFFLE_RELATIVE ∷ QUAD_FRAGMENT_COMPUTE ∷ [])
