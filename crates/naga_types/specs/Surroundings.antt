-- What the rule of a type depends on.
use Rattle.std.specs.Prelude.{ℕ, Bool, List, Option, Some, None, Ok, slice_get}
use Rattle.std.specs.Option.{option_map_or}
use Rattle.naga_ir.specs.ItemReferences.{GlobalLists}
use Rattle.naga_ir.specs.declared.types.«Type».{«Type»}
use Rattle.naga_ir.specs.declared.types.TypeInner.{TypeInner}
use Rattle.naga_typing.specs.declared.layouter.TypeLayout.{TypeLayout}
use Rattle.naga_typing.specs.Context.{lists_of}
use Rattle.naga_typing.specs.declared.context.GlobalCtx.{GlobalCtx}
use Rattle.naga_types.specs.declared.info.TypeContext.{TypeContext}
use Rattle.naga_types.specs.declared.info.TypeInfo.{TypeInfo}

-- all that the rule of a type depends on, besides the type: the capabilities, whether overrides must have their values,
-- the lists that types refer to, the layouts of all types, and the infos of the types before it
pub record Surroundings : Type 0 where
  pub capabilities : ℕ
  pub resolved : Bool
  pub lists : GlobalLists
  pub layouts : List TypeLayout
  pub infos : List TypeInfo

-- the surroundings that the arguments of a call make up
abbrev pub surroundings : TypeContext → GlobalCtx → Surroundings
surroundings ctx g = record { capabilities = ctx.capabilities.0; resolved = ctx.overrides_resolved; lists = lists_of g; layouts = ctx.layouter.now; infos = ctx.infos.now.infos }

-- the info of a type with these flags, and one alignment in both address spaces
abbrev pub shared : ℕ → ℕ → TypeInfo
shared flags alignment = record { flags = record { 0 = flags }; uniform_layout = Ok alignment; storage_layout = Ok alignment; immediates_compatibility = Ok tt }

-- an info, or if there is none the info of a type of no use
abbrev pub info_in : Option TypeInfo → TypeInfo
info_in (Some info) = info
info_in None = shared 0 1

-- the info of the type at a place
abbrev pub info_at : Surroundings → ℕ → TypeInfo
info_at s t = info_in (slice_get s.infos t)

-- what the type at a place may be used for
abbrev pub flags_at : Surroundings → ℕ → ℕ
flags_at s t = (info_at s t).flags.0

-- the `TypeInner` of a type, if there is one
abbrev pub form_in : Option «Type» → Option TypeInner
form_in (Some t) = Some t.inner
form_in None = None

-- the `TypeInner` of the type at a place
abbrev pub form_at : Surroundings → ℕ → Option TypeInner
form_at s t = form_in (slice_get s.lists.types t)

-- the size of the type at a place, in bytes
abbrev pub size_at : Surroundings → ℕ → ℕ
size_at s t = option_map_or (λ (layout : TypeLayout). layout.size) (slice_get s.layouts t) 0
