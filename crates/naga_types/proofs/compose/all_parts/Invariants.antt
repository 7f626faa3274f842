use Rattle.std.proofs.Common.{◌≡◌, take}
use Rattle.naga_types.specs.Composing.{all_parts}
use Rattle.naga_types.specs.Layouts.{saturated}
use Rattle.naga_types.specs.steps.Components.{resolutions_of}
use Rattle.naga_types.proofs.compose.all_parts.Given as goal

-- the total is the number of parts of the components so far
abbrev pub invariant-loop-index : goal.invariant-loop-index
invariant-loop-index l = l.total ≡ saturated (all_parts l.types (take l.index (resolutions_of l.components)))
