use Rattle.std.proofs.Common.{ℕ, ap}
use Rattle.bitflags.specs.Sets.{known_from}
use Rattle.naga_flags.specs.declared.flags.ShaderStages.{ShaderStages}
use Rattle.naga_info.proofs.context.every_stage.Goals as goal

abbrev stages : ℕ → ShaderStages
stages n = record { 0 = n }

pub returns : goal.returns
unfolding known_from
returns c = ap stages (c.all.ensures tt)
