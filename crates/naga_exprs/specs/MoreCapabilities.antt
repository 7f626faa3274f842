-- When an expression of a function is validated with more capabilities.
use Rattle.std.specs.Prelude.{◌≡◌, ℕ, IsTrue, List, slice_get}
use Rattle.naga_exprs.specs.Values.{stages_in}
use Rattle.naga_flags.specs.Flags.{has}
use Rattle.naga_info.specs.Surroundings.{ExpressionSurroundings}
use Rattle.naga_info.specs.declared.module_info.FunctionInfo.{FunctionInfo}

-- by what `more` says of functions, each may be used by all stages that may use it by what `less` says
abbrev pub AreUsableByMore : List FunctionInfo → List FunctionInfo → Type 0
AreUsableByMore less more = (f : ℕ) → IsTrue (has (stages_in (slice_get more f)).0 (stages_in (slice_get less f)).0)

-- an expression is validated as by `less`, but with no fewer capabilities, and with no fewer stages that may use
-- subgroup operations and functions
pub record AllowsMore (less more : ExpressionSurroundings) : Type 0 where
  pub capabilities : IsTrue (has more.capabilities less.capabilities)
  pub subgroup_stages : IsTrue (has more.subgroup_stages.0 less.subgroup_stages.0)
  pub functions : AreUsableByMore less.infos.functions more.infos.functions
  pub others : more ≡ record less {
    capabilities = more.capabilities;
    subgroup_stages = more.subgroup_stages;
    infos = record less.infos { functions = more.infos.functions; entry_points = more.infos.entry_points };
  }
