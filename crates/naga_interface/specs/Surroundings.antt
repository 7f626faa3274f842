-- What the rules of variables, inputs and outputs depend on, besides the item.
use Rattle.std.specs.Prelude.{◌≤◌, ℕ, Bool as Boolean, List, Option, All, length, slice_get}
use Rattle.naga_interface.specs.declared.context.InterfaceContext.{InterfaceContext}
use Rattle.naga_interface.specs.declared.context.Initialisers.{Initialisers}
use Rattle.naga_ir.specs.declared.types.«Type».{«Type»}
use Rattle.naga_ir.specs.declared.types.TypeInner.{TypeInner}
use Rattle.naga_types.specs.Composing.{is_of, resolution_in}
use Rattle.naga_types.specs.Surroundings.{info_in}
use Rattle.naga_types.specs.declared.info.TypeInfo.{TypeInfo}
use Rattle.naga_typing.specs.Resolutions.{AllPartsExist, TypesExist, inner_in}
use Rattle.naga_typing.specs.declared.expression_kind.ExpressionKind.{ExpressionKind}
use Rattle.naga_typing.specs.declared.typifier.TypeResolution.{TypeResolution}
use Rattle.naga_typing.specs.declared.typifier.TypeResolution.TheVariants.{Handle}

-- what the rules depend on, besides the item: the parts of a module that are validated, what shaders may use, the types
-- of the module, and the infos of these
pub record InterfaceSurroundings : Type 0 where
  pub flags : ℕ
  pub capabilities : ℕ
  pub types : List «Type»
  pub infos : List TypeInfo

-- the surroundings that a context makes up
abbrev pub surroundings : InterfaceContext → InterfaceSurroundings
surroundings ctx = record {
  flags = ctx.flags.0;
  capabilities = ctx.capabilities.0;
  types = ctx.types.now;
  infos = ctx.infos.now.infos;
}

-- what is known of the expressions of a module or of a function, which may initialise variables: their types, and when
-- their values are known
pub record KnownExpressions : Type 0 where
  pub types : List TypeResolution
  pub kinds : List ExpressionKind

-- what is known of expressions
abbrev pub known : Initialisers → KnownExpressions
known init = record { types = init.types.now; kinds = init.kinds.now }

-- the `TypeInner` of the type of index `t`
abbrev pub form_of : InterfaceSurroundings → ℕ → Option TypeInner
form_of s t = inner_in s.types (Handle t)

-- the info of the type of index `t`
abbrev pub info_of : InterfaceSurroundings → ℕ → TypeInfo
info_of s t = info_in (slice_get s.infos t)

-- what the type of index `t` may be used for
abbrev pub flags_of : InterfaceSurroundings → ℕ → ℕ
flags_of s t = (info_of s t).flags.0

-- whether the expression of index `e` has the type of index `t`
abbrev pub has_type : InterfaceSurroundings → KnownExpressions → ℕ → ℕ → Boolean
has_type s known t e = is_of s.types t (resolution_in (slice_get known.types e))

-- the types that types refer to exist, and each type has an info
pub record AreTypesKnown (s : InterfaceSurroundings) : Type 0 where
  pub parts : AllPartsExist s.types
  pub infos : length s.types ≤ length s.infos

-- the types of expressions refer to types of the module
abbrev pub AreExpressionsTyped : InterfaceSurroundings → KnownExpressions → Type 0
AreExpressionsTyped s known = All (TypesExist s.types) known.types
