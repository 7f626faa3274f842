-- Who may use subgroups by the capabilities, and what for.
use Rattle.std.proofs.Common.{◌≡◌, ◌+◌, refl}
use Rattle.naga_flags.specs.Bits.{SUBGROUP, SUBGROUP_VERTEX_STAGE, all_capabilities, default_capabilities}
use Rattle.naga_valid.specs.State.{operations_with, stages_with}

-- by the stages of a validator that is given none
pub stages-by-default : stages_with default_capabilities ≡ 0
stages-by-default = refl

pub operations-by-default : operations_with default_capabilities ≡ 0
operations-by-default = refl

-- by the one for subgroups
pub stages-with-subgroup : stages_with SUBGROUP ≡ 0x1e
stages-with-subgroup = refl

pub operations-with-subgroup : operations_with SUBGROUP ≡ 0xbf
operations-with-subgroup = refl

-- by the one for subgroups in vertex shaders
pub stages-with-vertex : stages_with SUBGROUP_VERTEX_STAGE ≡ 0x1
stages-with-vertex = refl

pub operations-with-vertex : operations_with SUBGROUP_VERTEX_STAGE ≡ 0
operations-with-vertex = refl

-- by both
pub stages-with-both : stages_with (SUBGROUP + SUBGROUP_VERTEX_STAGE) ≡ 0x1f
stages-with-both = refl

pub operations-with-both : operations_with (SUBGROUP + SUBGROUP_VERTEX_STAGE) ≡ 0xbf
operations-with-both = refl

-- by all capabilities
pub stages-with-all : stages_with all_capabilities ≡ 0x1f
stages-with-all = refl

pub operations-with-all : operations_with all_capabilities ≡ 0xbf
operations-with-all = refl
