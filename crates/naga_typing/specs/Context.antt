-- The lists of a context.
use Rattle.std.specs.Prelude.{All}
use Rattle.naga_ir.specs.Handles.{ExistsGlobally}
use Rattle.naga_ir.specs.ItemReferences.{GlobalLists, type_references}
use Rattle.naga_ir.specs.declared.types.TypeInner.{TypeInner}
use Rattle.naga_typing.specs.declared.context.GlobalCtx.{GlobalCtx}

-- the four lists of a context
abbrev pub lists_of : GlobalCtx → GlobalLists
lists_of g = record {
  types = g.types.now;
  constants = g.constants.now;
  overrides = g.overrides.now;
  expressions = g.global_expressions.now;
}

-- everything that a type refers to exists
abbrev pub ReferencesExist : GlobalLists → TypeInner → Type 0
ReferencesExist g inner = All (ExistsGlobally g) (type_references inner)
