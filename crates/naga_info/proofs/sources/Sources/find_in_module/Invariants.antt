use Rattle.std.proofs.Common.{◌≡◌, length}
use Rattle.naga_info.specs.Integers.{scope_in}
use Rattle.naga_info.specs.Sources.{AreSources}
use Rattle.naga_info.proofs.sources.Sources.find_in_module.Given as goal

-- the sources of the expressions so far are kept
abbrev pub invariant-loop-index : goal.invariant-loop-index
invariant-loop-index l = record {
  right : AreSources (scope_in l.«module» l.function) l.self;
  count : length l.self.in_module ≡ l.index;
  others : l.self.in_function ≡ l.initial.self.in_function;
}
