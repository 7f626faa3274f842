-- The stages of a pipeline that may use an expression.
use Rattle.naga_flags.specs.Bits.{COMPUTE, COMPUTE_LIKE as compute_like, FRAGMENT as fragment, all_stages}
use Rattle.naga_flags.specs.declared.flags.ShaderStages.{ShaderStages}

-- all stages
abbrev pub every_stage : ShaderStages
every_stage = record { 0 = all_stages }

-- only fragments have derivatives
abbrev pub fragment_stage : ShaderStages
fragment_stage = record { 0 = fragment }

-- only compute shaders have cooperative matrices
abbrev pub compute_stage : ShaderStages
compute_stage = record { 0 = COMPUTE }

-- the stages with workgroups
abbrev pub workgroup_stages : ShaderStages
workgroup_stages = record { 0 = compute_like }
