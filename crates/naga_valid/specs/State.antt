-- What contracts see of a validator.
use Rattle.std.specs.Prelude.{ℕ, Bool, List, [], ◌∷◌, bit_or, if◌then◌else◌}
use Rattle.naga_flags.specs.Bits.{COMPUTE_LIKE, FRAGMENT, SUBGROUP, SUBGROUP_VERTEX_STAGE, VERTEX, all_subgroup_operations, union_of}
use Rattle.naga_flags.specs.Flags.{has}
use Rattle.naga_flags.specs.declared.flags.Capabilities.{Capabilities}
use Rattle.naga_flags.specs.declared.flags.ShaderStages.{ShaderStages}
use Rattle.naga_flags.specs.declared.flags.SubgroupOperationSet.{SubgroupOperationSet}
use Rattle.naga_flags.specs.declared.flags.ValidationFlags.{ValidationFlags}
use Rattle.naga_types.specs.declared.info.TypeInfo.{TypeInfo}
use Rattle.naga_typing.specs.declared.typifier.TypeResolution.{TypeResolution}

-- what is known of an accepted module: the info of each type, and the type of each global expression
pub record Facts : Type 0 where
  pub infos : List TypeInfo
  pub resolutions : List TypeResolution

-- what the validation of a module depends on: the parts that are validated, what may be used, and whether
-- overrides have to have their values
pub record Settings : Type 0 where
  pub flags : ValidationFlags
  pub capabilities : Capabilities
  pub resolved : Bool

-- the settings of a validator, its typing, and the infos of the types of the module last accepted
pub record State (T : Type 0) : Type 0 where
  pub flags : ValidationFlags
  pub capabilities : Capabilities
  pub subgroup_stages : ShaderStages
  pub subgroup_operations : SubgroupOperationSet
  pub typing : T
  pub infos : List TypeInfo

-- the settings of a validator, and whether overrides have to have their values
abbrev pub settings_of : {T : Type 0} → State T → Bool → Settings
settings_of state resolved = record { flags = state.flags; capabilities = state.capabilities; resolved = resolved }

-- the stages that may use subgroup operations: with `SUBGROUP_VERTEX_STAGE` vertex shaders, with `SUBGROUP` fragment
-- shaders and the stages that run in workgroups
abbrev pub stages_with : ℕ → ℕ
stages_with capabilities =
    bit_or
    (if has capabilities SUBGROUP_VERTEX_STAGE then VERTEX else 0)
    (if has capabilities SUBGROUP then union_of (FRAGMENT ∷ COMPUTE_LIKE ∷ []) else 0)

-- the subgroup operations that stages may use: all with the capability `SUBGROUP`, and else none
abbrev pub operations_with : ℕ → ℕ
operations_with capabilities = if has capabilities SUBGROUP then all_subgroup_operations else 0

-- a validator under these settings that has accepted no module
abbrev pub new_state : {T : Type 0} → ValidationFlags → Capabilities → T → State T
new_state flags capabilities typing = record {
  flags = flags;
  capabilities = capabilities;
  subgroup_stages = record { 0 = stages_with capabilities.0 };
  subgroup_operations = record { 0 = operations_with capabilities.0 };
  typing = typing;
  infos = [];
}
