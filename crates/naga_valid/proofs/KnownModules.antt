-- What a validator knows of a module that it has accepted, before and after the validation of its functions.
use Rattle.std.proofs.Common.{◌≡◌, Bool, refl}
use Rattle.naga_info.specs.ModuleInfo.{ModuleInfoLists}
use Rattle.naga_ir.specs.declared.ir.Module.{Module}
use Rattle.naga_typing.specs.Typings.{Resolves}
use Rattle.naga_valid.specs.Accepted.{Accepts}
use Rattle.naga_valid.specs.Interfaces.{IsKnown}
use Rattle.naga_valid.specs.State.{State, settings_of}

module _ {T : Type 0} (resolves : Resolves) (state : State T) (m : Module) (resolved : Bool) (lists : ModuleInfoLists) (accepted : Accepts resolves m (settings_of state resolved) state.infos lists) where
  -- a module is known once it is accepted
  pub known_at_once : IsKnown resolves state m lists
  known_at_once = record { resolved = resolved; learned = lists; accepted = accepted; others = refl }

  -- and still is once infos of functions are added
  pub known_with_functions : (now : ModuleInfoLists) → now ≡ record lists { functions = now.functions; entry_points = now.entry_points } → IsKnown resolves state m now
  known_with_functions now others = record { resolved = resolved; learned = lists; accepted = accepted; others = others }
