-- How calls end that ask what an accepted module declares.
use Rattle.std.proofs.Common.{◌≡◌, Result, Ok, Err}
use Rattle.naga_exprs.specs.Math.{math_typing}
use Rattle.naga_info.specs.ModuleInfo.{ModuleInfoLists}
use Rattle.naga_typing.specs.FullTyping.{full_resolves}
use Rattle.naga_typing.specs.Math.{accepts, argument_count}
use Rattle.naga_typing.specs.declared.full_typing.FullTyping.{FullTyping}
use Rattle.naga_valid.specs.Functions.{function_surroundings}
use Rattle.naga_valid.specs.Interfaces.{IsDeclarationsResult}
use Rattle.naga_valid.specs.State.{State, stages_with}
use Rattle.naga_valid.specs.declared.interface.DeclarationsError.{DeclarationsError}
use Rattle.naga_valid.specs.declared.interface.DeclarationsError.TheVariants as declarations_error
use Rattle.naga_c.specs.Functions.{validation_of}
use Rattle.naga_c.specs.declared.subject.Subject.{Subject}
use Rattle.naga_c.proofs.CallLaws.{validates_as}

-- declarations are validated by the settings in force by a validator that has what the validation of functions depends
-- on from these
pub declares_as : (subject : Subject) (v : State FullTyping) (old new : ModuleInfoLists) (result : Result (Unit {0}) DeclarationsError)
    → v.capabilities ≡ subject.capabilities → v.subgroup_stages ≡ record { 0 = stages_with subject.capabilities.0 }
    → IsDeclarationsResult (function_surroundings full_resolves (math_typing accepts (λ fun types. argument_count fun)) v subject.resolved subject.«module») v subject.«module» old new result
    → IsDeclarationsResult (validation_of subject) v subject.«module» old new result
declares_as subject v old new (Ok _) capabilities stages h = (h.0, validates_as subject v old new (Ok tt) capabilities stages h.1, h.2)
declares_as subject v old new (Err (declarations_error.Variable error)) capabilities stages h = h
declares_as subject v old new (Err (declarations_error.Function error)) capabilities stages h = (h.0, validates_as subject v old new (Err error) capabilities stages h.1)
declares_as subject v old new (Err (declarations_error.Interface error)) capabilities stages h = (h.0, validates_as subject v old new (Ok tt) capabilities stages h.1, h.2)
