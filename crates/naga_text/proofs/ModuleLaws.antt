-- An empty module is what no lines describe.
use Rattle.std.proofs.Common.{◌≡◌, []}
use Rattle.naga_ir.specs.OnlyTypes.{HasNoComments, HasNoSpecialTypes, HasOnlyTypes}
use Rattle.naga_ir.specs.declared.ir.DocComments.{DocComments}
use Rattle.naga_ir.specs.declared.ir.Module.{Module}
use Rattle.naga_ir.specs.declared.ir.SpecialTypes.{SpecialTypes}
use Rattle.naga_text.specs.Text.{module_of}

special_types_are : (s : SpecialTypes) → HasNoSpecialTypes s → s ≡ (module_of []).special_types
special_types_are s h = λ j. record {
  ray_desc = h.ray_desc j;
  ray_intersection = h.ray_intersection j;
  ray_vertex_return = h.ray_vertex_return j;
  others = h.others j;
}

comments_are : (d : DocComments) → HasNoComments d → d ≡ (module_of []).doc_comments
comments_are d h = λ j. record {
  «module» = h.of_the_module j;
  types = h.types j;
  struct_members = h.struct_members j;
  entry_points = h.entry_points j;
  functions = h.functions j;
  constants = h.constants j;
  global_variables = h.global_variables j;
}

pub module_is : (m : Module) → m.types ≡ [] → HasOnlyTypes m → m ≡ module_of []
module_is m none h = λ j. record {
  types = none j;
  special_types = special_types_are m.special_types h.special_types j;
  constants = h.constants j;
  overrides = h.overrides j;
  global_variables = h.global_variables j;
  global_expressions = h.global_expressions j;
  functions = h.functions j;
  entry_points = h.entry_points j;
  diagnostic_filters = h.diagnostic_filters j;
  diagnostic_filter_leaf = h.diagnostic_filter_leaf j;
  doc_comments = comments_are m.doc_comments h.doc_comments j;
}
