-- What is known of a module.
use Rattle.std.specs.Prelude.{ℕ, List, []}
use Rattle.naga_flags.specs.declared.flags.TypeFlags.{TypeFlags}
use Rattle.naga_info.specs.declared.module_info.FunctionInfo.{FunctionInfo}
use Rattle.naga_typing.specs.declared.typifier.TypeResolution.{TypeResolution}

-- what each type may be used for, what is known of each function and of each entry point, and the
-- type of each global expression
pub record ModuleInfoLists : Type 0 where
  pub type_flags : List TypeFlags
  pub functions : List FunctionInfo
  pub entry_points : List FunctionInfo
  pub const_expression_types : List TypeResolution

-- nothing is known
abbrev pub no_lists : ModuleInfoLists
no_lists = record { type_flags = []; functions = []; entry_points = []; const_expression_types = [] }

-- what is known, and how many types and global expressions there is room for without more memory
pub record ModuleInfoWithRoom : Type 0 where
  pub lists : ModuleInfoLists
  pub type_room : ℕ
  pub expression_room : ℕ
