-- The answers to the proof goals of `Validator::validate_each_entry_point`.
use Rattle.std.proofs.Common.{◌≡◌, ◌∙◌, [], ◌∷◌, ◌++◌, length, ap, arith, length-append}
use Rattle.naga_info.specs.ModuleInfo.{ModuleInfoLists}
use Rattle.naga_valid.proofs.AllFunctions.{added_in_order}
use Rattle.naga_valid.specs.AllFunctions.{IsNext}
use Rattle.naga_valid.specs.Functions.{function_surroundings}
use Rattle.naga_valid.specs.declared.function.Callable.TheVariants as callable
use Rattle.naga_valid.proofs.driver.Validator.validate_each_entry_point.Goals as goal

pub loop-index-preserved : goal.loop-index-preserved
loop-index-preserved g c =
    let m = c.args.module.now in
    let state = c.args.self.now in
    let by = function_surroundings (g.T.Typing.resolves state.typing) (record { accepts = g.T.Typing.accepts_types state.typing; least_arguments = g.T.Typing.least_arguments state.typing }) state c.args.overrides_resolved m in
    let old = c.loop-index.mod_info.lists in
    let new = c.validate_next.new.mod_info.lists in
    let so_far = c.loop-index.invariant in
    let one = c.in_ok-validate_next.ensures.added in
    let is : new ≡ record old { entry_points = old.entry_points ++ one.info ∷ [] } = one.added in
    let next : IsNext m old (callable.EntryPoint c.loop-index.index) = (omega (arith, c.loop-index-test.true, ap length c.as_slice-index-end.ensures), so_far.functions, so_far.count) in
    let others_of : ModuleInfoLists → ModuleInfoLists = λ (l : ModuleInfoLists). record l { functions = new.functions; entry_points = new.entry_points } in
    record {
      functions = ap (λ (l : ModuleInfoLists). length l.functions) is ∙ so_far.functions;
      count = omega (arith, ap (λ (l : ModuleInfoLists). length l.entry_points) is, length-append old.entry_points (one.info ∷ []), so_far.count);
      others = ap others_of is ∙ ap others_of so_far.others;
      in_order = added_in_order by m (callable.EntryPoint c.loop-index.index) old new next so_far.in_order one;
    }
