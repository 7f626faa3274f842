-- Which extensions of WGSL capabilities stand for.
use Rattle.std.specs.Prelude.{◌==◌, ℕ, List, [], ◌∷◌, Option, Some, None, if◌then◌else◌}
use Rattle.naga_flags.specs.Bits.{DUAL_SOURCE_BLENDING, SHADER_FLOAT16, SHADER_INT16, CLIP_DISTANCES, MESH_SHADER, RAY_QUERY, RAY_HIT_VERTEX_POSITION, COOPERATIVE_MATRIX, RAY_TRACING_PIPELINE, PER_VERTEX, TEXTURE_AND_SAMPLER_BINDING_ARRAY, BUFFER_BINDING_ARRAY, STORAGE_TEXTURE_BINDING_ARRAY, STORAGE_BUFFER_BINDING_ARRAY, TEXTURE_AND_SAMPLER_BINDING_ARRAY_NON_UNIFORM_INDEXING, BUFFER_BINDING_ARRAY_NON_UNIFORM_INDEXING, STORAGE_TEXTURE_BINDING_ARRAY_NON_UNIFORM_INDEXING, STORAGE_BUFFER_BINDING_ARRAY_NON_UNIFORM_INDEXING}
use Rattle.naga_flags.specs.declared.extension.ImplementedEnableExtension.{ImplementedEnableExtension}
use Rattle.naga_flags.specs.declared.extension.ImplementedEnableExtension.TheVariants.{DualSourceBlending, F16, WgpuInt16, ClipDistances, WgpuMeshShader, WgpuRayQuery, WgpuRayQueryVertexReturn, WgpuCooperativeMatrix, WgpuRayTracingPipeline, WgpuPerVertex, WgpuBindingArray}

-- capabilities, each with the extension that it stands for
abbrev pub extensions : List (ℕ × ImplementedEnableExtension)
extensions =
    (DUAL_SOURCE_BLENDING, DualSourceBlending) ∷
    (SHADER_FLOAT16, F16) ∷
    (SHADER_INT16, WgpuInt16) ∷
    (CLIP_DISTANCES, ClipDistances) ∷
    (MESH_SHADER, WgpuMeshShader) ∷
    (RAY_QUERY, WgpuRayQuery) ∷
    (RAY_HIT_VERTEX_POSITION, WgpuRayQueryVertexReturn) ∷
    (COOPERATIVE_MATRIX, WgpuCooperativeMatrix) ∷
    (RAY_TRACING_PIPELINE, WgpuRayTracingPipeline) ∷
    (PER_VERTEX, WgpuPerVertex) ∷
    (TEXTURE_AND_SAMPLER_BINDING_ARRAY, WgpuBindingArray) ∷
    (BUFFER_BINDING_ARRAY, WgpuBindingArray) ∷
    (STORAGE_TEXTURE_BINDING_ARRAY, WgpuBindingArray) ∷
    (STORAGE_BUFFER_BINDING_ARRAY, WgpuBindingArray) ∷
    (TEXTURE_AND_SAMPLER_BINDING_ARRAY_NON_UNIFORM_INDEXING, WgpuBindingArray) ∷
    (BUFFER_BINDING_ARRAY_NON_UNIFORM_INDEXING, WgpuBindingArray) ∷
    (STORAGE_TEXTURE_BINDING_ARRAY_NON_UNIFORM_INDEXING, WgpuBindingArray) ∷
    (STORAGE_BUFFER_BINDING_ARRAY_NON_UNIFORM_INDEXING, WgpuBindingArray) ∷ []

-- what a set stands for in a list of such rows
abbrev pub extension_in : List (ℕ × ImplementedEnableExtension) → ℕ → Option ImplementedEnableExtension
extension_in [] set = None
extension_in (row ∷ rows) set = if set == row.0 then Some row.1 else extension_in rows set

-- what a set of capabilities stands for
abbrev pub extension_of : ℕ → Option ImplementedEnableExtension
extension_of set = extension_in extensions set
