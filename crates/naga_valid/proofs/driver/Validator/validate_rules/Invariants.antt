use Rattle.naga_info.specs.Integers.{scope_in}
use Rattle.naga_info.specs.Sources.{AreSources}
use Rattle.naga_valid.proofs.FunctionRules.{Asked}
use Rattle.naga_valid.proofs.driver.Validator.validate_rules.Given as goal
use Rattle.naga_valid.specs.Functions.{function_surroundings}
use Rattle.naga_valid.specs.steps.Functions.{AreFoundKinds}

-- the expressions so far keep their rules, and the kinds are found or not yet, as are the last sources
abbrev pub invariant-loop-handle : goal.invariant-loop-handle
invariant-loop-handle g l = record {
  asked :
      Asked
      (function_surroundings (g.T.Typing.resolves l.self.typing) (record { accepts = g.T.Typing.accepts_types l.self.typing; least_arguments = g.T.Typing.least_arguments l.self.typing }) l.self l.overrides_resolved l.module l.function l.mod_info.lists)
      l.info.types l.stages l.handle-iterator;
  found : AreFoundKinds l.function.expressions l.kinds;
  right : AreSources (scope_in l.module l.function) l.searched.sources;
}
