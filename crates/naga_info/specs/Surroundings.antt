-- What the validation of an expression of a function depends on, besides the expression.
use Rattle.std.specs.Prelude.{◌≡◌, ◌<◌, ◌≤◌, ℕ, Bool as Boolean, false, List, [], Option, Some, None, All, length, option_to_list, slice_get}
use Rattle.naga_flags.specs.declared.flags.ShaderStages.{ShaderStages}
use Rattle.naga_flags.specs.declared.flags.TypeFlags.{TypeFlags}
use Rattle.naga_info.specs.ModuleInfo.{ModuleInfoLists}
use Rattle.naga_ir.specs.Handles.{Exists, ExpressionReferencesOk, HandlesAccepted, function_counts}
use Rattle.naga_ir.specs.ItemReferences.{expression_references, global_lists}
use Rattle.naga_ir.specs.References.{operands}
use Rattle.naga_ir.specs.declared.expression.Expression.{Expression}
use Rattle.naga_ir.specs.declared.expression.Expression.TheVariants as form
use Rattle.naga_ir.specs.declared.ir.Function.{Function}
use Rattle.naga_ir.specs.declared.ir.Module.{Module}
use Rattle.naga_ir.specs.declared.types.TypeInner.{TypeInner}
use Rattle.naga_ir.specs.declared.types.TypeInner.TheVariants.{Sampler}
use Rattle.naga_info.specs.declared.context.FunctionContext.{FunctionContext}
use Rattle.naga_typing.specs.Resolutions.{ResolutionExists, operand}
use Rattle.naga_typing.specs.declared.expression_kind.ExpressionKind.{ExpressionKind}
use Rattle.naga_typing.specs.declared.typifier.TypeResolution.{TypeResolution}

-- what the validation of an expression of a function depends on: the capabilities, whether overrides must have their
-- values, the stages that may use subgroup operations, the module, the function, the types of its expressions, what is
-- known of the module, and the kinds of the function's expressions
pub record ExpressionSurroundings : Type 0 where
  pub capabilities : ℕ
  pub resolved : Boolean
  pub subgroup_stages : ShaderStages
  pub «module» : Module
  pub function : Function
  pub types : List TypeResolution
  pub infos : ModuleInfoLists
  pub kinds : List ExpressionKind

-- what the context `c` says of these surroundings of an expression
abbrev pub surroundings : FunctionContext → ExpressionSurroundings
surroundings c = record {
  capabilities = c.capabilities.0;
  resolved = c.overrides_resolved;
  subgroup_stages = c.subgroup_stages;
  «module» = c.«module».now;
  function = c.function.now;
  types = c.info.now.types;
  infos = c.mod_info.now.lists;
  kinds = c.kinds.now;
}

-- the type that is there; every operand of a validated expression has one, so that `Sampler` is never read
abbrev pub form_in : Option TypeInner → TypeInner
form_in (Some inner) = inner
form_in None = Sampler false

-- the type of an operand
abbrev pub form_at : ExpressionSurroundings → ℕ → TypeInner
form_at s e = form_in (operand s.«module».types s.types e)

-- the bits of some flags, and 0 if there are none
abbrev pub bits_in : Option TypeFlags → ℕ
bits_in (Some flags) = flags.0
bits_in None = 0

-- what the type at a place may be used for
abbrev pub flags_at : ExpressionSurroundings → ℕ → ℕ
flags_at s t = bits_in (slice_get s.infos.type_flags t)

-- the handles of the module are right, and so are the handles of the function's arguments and expressions and of their
-- types; and it is known what each type may be used for
pub record AreSound (s : ExpressionSurroundings) : Type 0 where
  pub handles : HandlesAccepted s.«module»
  pub in_function : ExpressionReferencesOk s.«module» s.function
  pub types_exist : All (ResolutionExists (global_lists s.«module»)) s.types
  pub flags : length s.«module».types ≤ length s.infos.type_flags

-- every argument that an expression before index `root` names exists
abbrev pub ArgumentsExist : ExpressionSurroundings → ℕ → Type 0
ArgumentsExist s root =
    (e i : ℕ) → e < root → slice_get s.function.expressions e ≡ Some (form.FunctionArgument i)
    → i < length s.function.arguments

-- if the expression `x` is the result of a call, the function that was called is known
abbrev pub ResultIsKnown : ExpressionSurroundings → Expression → Type 0
ResultIsKnown s x = (f : ℕ) → x ≡ form.CallResult f → f < length s.infos.functions

-- the operands of an expression whose kinds its rule needs: the offset of a sample
abbrev pub kind_operands : Expression → List ℕ
kind_operands (form.ImageSample image sampler gather coordinate array_index offset level depth_ref clamp_to_edge) =
    option_to_list offset
kind_operands x = []

-- expression `x` can be validated at place `root`: all that it refers to exists, its operands precede it, their types
-- are known, and so are the kinds that its rule needs
pub record IsReady (s : ExpressionSurroundings) (root : ℕ) (x : Expression) : Type 0 where
  pub sound : AreSound s
  pub references : All (Exists (function_counts s.«module» s.function)) (expression_references x)
  pub before : All (λ o. o < root) (operands x)
  pub typed : All (λ o. o < length s.types) (operands x)
  pub kinds : All (λ o. o < length s.kinds) (kind_operands x)
  pub arguments : ArgumentsExist s root
  pub called : ResultIsKnown s x

-- expression `x` can be validated at some place
abbrev pub IsReadySomewhere : ExpressionSurroundings → Expression → Type 0
IsReadySomewhere s x = (root : ℕ) × IsReady s root x
