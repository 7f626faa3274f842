use Rattle.std.proofs.Common.{◌≡◌, length}
use Rattle.naga_valid.specs.AllFunctions.{AreInfosInOrder}
use Rattle.naga_valid.specs.Functions.{function_surroundings}
use Rattle.naga_valid.proofs.driver.Validator.validate_each_entry_point.Given as goal

-- each function and each entry point so far has an info
abbrev pub invariant-loop-index : goal.invariant-loop-index
invariant-loop-index g l = record {
  functions : length l.mod_info.lists.functions ≡ length l.module.functions;
  count : length l.mod_info.lists.entry_points ≡ l.index;
  others : l.mod_info.lists ≡ record l.initial.mod_info.lists { functions = l.mod_info.lists.functions; entry_points = l.mod_info.lists.entry_points };
  in_order : AreInfosInOrder
      (function_surroundings (g.T.Typing.resolves l.self.typing) (record { accepts = g.T.Typing.accepts_types l.self.typing; least_arguments = g.T.Typing.least_arguments l.self.typing }) l.self l.overrides_resolved l.module)
      l.module l.mod_info.lists;
}
