-- The answers to the proof goals of `Validator::validate_next`.
use Rattle.std.proofs.Common.{inl, refl}
use Rattle.naga_valid.proofs.AllFunctions.{next_can}
use Rattle.naga_valid.proofs.driver.Validator.validate_next.Goals as goal

pub validate_function_expressions-requires-clause-in_function :
    goal.validate_function_expressions-requires-clause-in_function
validate_function_expressions-requires-clause-in_function g c =
    (next_can c.args.module.now c.args.mod_info.now.lists c.args.at c.function-function.result.now c.requires.handles c.requires.next c.function-function.ensures).references

pub validate_function_expressions-requires-clause-calls :
    goal.validate_function_expressions-requires-clause-calls
validate_function_expressions-requires-clause-calls g c =
    (next_can c.args.module.now c.args.mod_info.now.lists c.args.at c.function-function.result.now c.requires.handles c.requires.next c.function-function.ensures).calls

pub returns-in-Err-add_info-clause-refused : goal.returns-in-Err-add_info-clause-refused
returns-in-Err-add_info-clause-refused g c = record {
  next = c.requires.next;
  function = c.function-function.result.now;
  there = c.function-function.ensures;
  refused = inl refl;
}
