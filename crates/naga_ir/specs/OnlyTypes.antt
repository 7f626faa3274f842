-- Modules that have nothing but types.
use Rattle.std.specs.Prelude.{◌≡◌, [], None}
use Rattle.naga_ir.specs.declared.ir.Module.{Module}
use Rattle.naga_ir.specs.declared.ir.SpecialTypes.{SpecialTypes}
use Rattle.naga_ir.specs.declared.ir.DocComments.{DocComments}

-- no type is special
pub record HasNoSpecialTypes (s : SpecialTypes) : Type 0 where
  pub ray_desc : s.ray_desc ≡ None
  pub ray_intersection : s.ray_intersection ≡ None
  pub ray_vertex_return : s.ray_vertex_return ≡ None
  pub others : s.others ≡ []

-- nothing is commented
pub record HasNoComments (d : DocComments) : Type 0 where
  pub of_the_module : d.«module» ≡ []
  pub types : d.types ≡ []
  pub struct_members : d.struct_members ≡ []
  pub entry_points : d.entry_points ≡ []
  pub functions : d.functions ≡ []
  pub constants : d.constants ≡ []
  pub global_variables : d.global_variables ≡ []

-- all but the types is empty
pub record HasOnlyTypes (m : Module) : Type 0 where
  pub special_types : HasNoSpecialTypes m.special_types
  pub constants : m.constants ≡ []
  pub overrides : m.overrides ≡ []
  pub global_variables : m.global_variables ≡ []
  pub global_expressions : m.global_expressions ≡ []
  pub functions : m.functions ≡ []
  pub entry_points : m.entry_points ≡ []
  pub diagnostic_filters : m.diagnostic_filters ≡ []
  pub diagnostic_filter_leaf : m.diagnostic_filter_leaf ≡ None
  pub doc_comments : HasNoComments m.doc_comments
