use Rattle.std.proofs.Common.{◌≡◌, [], length}
use Rattle.naga_valid.specs.AllFunctions.{AreInfosInOrder}
use Rattle.naga_valid.specs.Functions.{function_surroundings}
use Rattle.naga_valid.proofs.driver.Validator.validate_each_function.Given as goal

-- each function so far has an info, and no entry point has one
abbrev pub invariant-loop-index : goal.invariant-loop-index
invariant-loop-index g l = record {
  count : length l.mod_info.lists.functions ≡ l.index;
  none : l.mod_info.lists.entry_points ≡ [];
  others : l.mod_info.lists ≡ record l.initial.mod_info.lists { functions = l.mod_info.lists.functions; entry_points = l.mod_info.lists.entry_points };
  in_order : AreInfosInOrder
      (function_surroundings (g.T.Typing.resolves l.self.typing) (record { accepts = g.T.Typing.accepts_types l.self.typing; least_arguments = g.T.Typing.least_arguments l.self.typing }) l.self l.overrides_resolved l.module)
      l.module l.mod_info.lists;
}
