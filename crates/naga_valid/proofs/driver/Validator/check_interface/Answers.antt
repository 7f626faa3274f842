use Rattle.std.proofs.Common.{◌≡◌, ◌∙◌, ◌+◌, ◌<◌, ◌++◌, ◌∷◌, [], ℕ, true, not, List, Some, ap, arith, get_or, length, slice_get, subst, sym, take}
use Rattle.std.specs.List.{list_any}
use Rattle.std.specs.Option.{option_map}
use Rattle.std.proofs.lemmas.Option.{same_Some, slice_get-get_or}
use Rattle.naga_arena.proofs.InOrder.{found_at}
use Rattle.naga_info.specs.FunctionTypes.{AreFunctionTypes}
use Rattle.naga_interface.specs.EntryPoints.{IsEntryPointResult}
use Rattle.naga_interface.specs.Functions.{CanValidate}
use Rattle.naga_interface.specs.Surroundings.{InterfaceSurroundings}
use Rattle.naga_ir.specs.declared.ir.EntryPoint.{EntryPoint}
use Rattle.naga_ir.specs.declared.ir.Function.{Function}
use Rattle.naga_valid.proofs.DeclarationAnswers.{answered_stage, conflict_answer, interface_answer, on_ok, one_more_covered, taken_one_more}
use Rattle.naga_valid.proofs.DeclaredItems.{declarations_known, entry_point_among}
use Rattle.naga_valid.specs.Interfaces.{is_conflict}
use Rattle.naga_valid.specs.steps.Interfaces.{AreNamesOf, AreNoted}
use Rattle.naga_valid.proofs.driver.Validator.check_interface.Goals as goal
use Rattle.naga_valid.proofs.driver.Validator.check_interface.Goals.{else-entry_points-gt1-via-then-entry_points-gt1+in_ok-insert+else-not-branch, else-entry_points-gt1-via-else-entry_points-gt1}

-- an entry point that an index gives stands there
standing : (entry_points all : List EntryPoint) (i : ℕ) (e : EntryPoint) → all ≡ entry_points → i < length entry_points → e ≡ get_or all i e → slice_get entry_points i ≡ Some e
standing entry_points all i e same within is = slice_get-get_or entry_points i e within ∙ ap Some (sym (is ∙ ap (λ (l : List EntryPoint). get_or l i e) same))

-- a lone entry point is in conflict with none
alone : (entry_points : List EntryPoint) (i : ℕ) (e : EntryPoint) → i ≡ 0 → not (list_any (is_conflict e) (take i entry_points)) ≡ true
alone entry_points i e first = ap (λ (n : ℕ). not (list_any (is_conflict e) (take n entry_points))) first

pub returns-then-not-branch-clause-answer : goal.returns-then-not-branch-clause-answer
returns-then-not-branch-clause-answer g c =
    let m = c.args.module.now in
    let lists = c.args.mod_info.now.lists in
    let i = c.args.index in
    let e : EntryPoint = c.index-entry_points-index.result in
    let at = standing m.entry_points c.as_slice-entry_points.result.now i e c.as_slice-entry_points.ensures c.requires.there c.index-entry_points-index.is in
    let info = found_at lists.entry_points i (omega (arith, c.requires.there, c.requires.functions.have.entry_points)) in
    let new = c.in_ok-insert.ensures.is_new (take i m.entry_points) (c.requires.noted.noted (omega (arith, c.if-entry_points-gt1.true, ap length c.as_slice-entry_points.ensures))) c.requires.noted.covered in
    conflict_answer c.args.self.now m lists i e info.0 at info.1 (sym new ∙ c.if-not-branch.true)

pub validate_entry_point-requires : goal.validate_entry_point-requires
validate_entry_point-requires g c =
    let m = c.args.module.now in
    let state = c.args.self.now in
    let lists = c.args.mod_info.now.lists in
    let resolves = g.T.Typing.resolves state.typing in
    let i = c.args.index in
    let e : EntryPoint = c.index-entry_points-index.result in
    let info = c.get_entry_point-info.result.now in
    let at = standing m.entry_points c.as_slice-entry_points.result.now i e c.as_slice-entry_points.ensures c.requires.there c.index-entry_points-index.is in
    let accepted = c.requires.functions.in_order.entry_points i info c.get_entry_point-info.ensures in
    let same : accepted.0 ≡ e.function = same_Some accepted.0 e.function (sym accepted.1 ∙ ap (option_map (λ (e : EntryPoint). e.function)) at) in
    let types : AreFunctionTypes resolves m e.function info.types = subst (λ (f : Function). AreFunctionTypes resolves m f info.types) same accepted.2.types in
    subst (λ (s : InterfaceSurroundings). CanValidate s info.types e.function) (sym c.interface_context.ensures)
    (declarations_known resolves (g.met.T.Typing.lawful state.typing) state m lists c.requires.accepted e.function (entry_point_among m i e at) info.types types)

pub returns-clause-answer : goal.returns-clause-answer
returns-clause-answer g c =
    let m = c.args.module.now in
    let lists = c.args.mod_info.now.lists in
    let i = c.args.index in
    let e : EntryPoint = c.index-entry_points-index.result in
    let info = c.get_entry_point-info.result.now in
    let at = standing m.entry_points c.as_slice-entry_points.result.now i e c.as_slice-entry_points.ensures c.requires.there c.index-entry_points-index.is in
    let answer = subst (λ (s : InterfaceSurroundings). IsEntryPointResult s info e c.validate_entry_point.result) c.interface_context.ensures c.validate_entry_point.ensures in
    let new : not (list_any (is_conflict e) (take i m.entry_points)) ≡ true = elim c.else-entry_points-gt1.branch [
      | else-entry_points-gt1-via-then-entry_points-gt1+in_ok-insert+else-not-branch w ↦
          sym (w.in_ok-insert.ensures.is_new (take i m.entry_points) (c.requires.noted.noted (omega (arith, w.if-entry_points-gt1.true, ap length c.as_slice-entry_points.ensures))) c.requires.noted.covered)
          ∙ w.if-not-branch.false
      | else-entry_points-gt1-via-else-entry_points-gt1 w ↦ alone m.entry_points i e (omega (arith, c.requires.there, w.if-entry_points-gt1.false, ap length c.as_slice-entry_points.ensures))
    ] in
    interface_answer c.args.self.now m lists i e info c.validate_entry_point.result at c.get_entry_point-info.ensures new answer

pub returns-clause-noted : goal.returns-clause-noted
returns-clause-noted g c =
    let m = c.args.module.now in
    let state = c.args.self.now in
    let i = c.args.index in
    let e : EntryPoint = c.index-entry_points-index.result in
    let info = c.get_entry_point-info.result.now in
    let at = standing m.entry_points c.as_slice-entry_points.result.now i e c.as_slice-entry_points.ensures c.requires.there c.index-entry_points-index.is in
    let answer = subst (λ (s : InterfaceSurroundings). IsEntryPointResult s info e c.validate_entry_point.result) c.interface_context.ensures c.validate_entry_point.ensures in
    on_ok c.validate_entry_point.result (AreNoted m (i + 1) c.else-entry_points-gt1.names) (λ ok. record {
      covered = one_more_covered state m c.args.mod_info.now.lists i e at (answered_stage state m c.args.mod_info.now.lists info e c.validate_entry_point.result answer ok) c.requires.noted.covered;
      noted = λ several. subst (λ (before : List EntryPoint). AreNamesOf before c.else-entry_points-gt1.names) (sym (taken_one_more m.entry_points i e at))
          (elim c.else-entry_points-gt1.branch [
            | else-entry_points-gt1-via-then-entry_points-gt1+in_ok-insert+else-not-branch w ↦
                subst (λ names. AreNamesOf (take i m.entry_points ++ e ∷ []) names) (sym w.names-is) (w.in_ok-insert.ensures.added (take i m.entry_points) (c.requires.noted.noted several))
            | else-entry_points-gt1-via-else-entry_points-gt1 w ↦ absurd (omega (arith, several, w.if-entry_points-gt1.false, ap length c.as_slice-entry_points.ensures))
          ]);
    })
