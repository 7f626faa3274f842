use Rattle.std.proofs.Common.{rules, ◌≡◌, ◌∙◌, ◌+◌, ◌<◌, ℕ, All, IsOk, List, Err, ap, length, subst, sym}
use Rattle.std.specs.Option.{IfSome}
use Rattle.naga_arena.specs.Results.{IsFirstError}
use Rattle.naga_interface.specs.GlobalVariables.{global_variable_rule}
use Rattle.naga_interface.specs.Surroundings.{AreTypesKnown, InterfaceSurroundings}
use Rattle.naga_ir.proofs.Handles.{global_references_ok}
use Rattle.naga_ir.proofs.ModuleItems.{variable_type_exists}
use Rattle.naga_ir.proofs.ReferencesOfItems.{operands_go_back}
use Rattle.naga_ir.specs.ItemReferences.{global_lists}
use Rattle.naga_typing.proofs.ExpressionKinds.{kinds_exist}
use Rattle.naga_typing.proofs.Iteration.{all_accepted, begin, first_refused, next_item, one_more}
use Rattle.naga_typing.specs.Resolutions.{TypesExist}
use Rattle.naga_typing.specs.declared.typifier.TypeResolution.{TypeResolution}
use Rattle.naga_valid.proofs.DeclaredItems.{as_many_types, expressions_typed, initialiser_exists, known_handles, types_known}
use Rattle.naga_valid.proofs.NeededKinds.{has_kind, same_results}
use Rattle.naga_valid.specs.Interfaces.{surroundings_of}
use Rattle.naga_valid.proofs.driver.Validator.validate_variables.Goals as goal

pub find_kinds-requires : goal.find_kinds-requires
find_kinds-requires g c =
    let m = c.args.module.now in
    operands_go_back (global_lists m) (global_references_ok m (known_handles (g.T.Typing.resolves c.args.self.now.typing) c.args.self.now m c.args.mod_info.now.lists c.requires))

pub loop-handle-init : goal.loop-handle-init
loop-handle-init g c =
    let m = c.args.module.now in
    let rule = global_variable_rule (surroundings_of c.args.self.now m) (record { types = c.args.mod_info.now.lists.const_expression_types; kinds = c.in_ok-kinds.kinds }) in
    (0, begin rule m.global_variables _ (c.into_iter-handle-iterator.ensures.into_iter_gives ∙ c.iter-handle-items.ensures))

pub validate_global_variable-requires-clause-known : goal.validate_global_variable-requires-clause-known
validate_global_variable-requires-clause-known g c =
    subst AreTypesKnown (sym c.interface_context-ctx.ensures) (types_known (g.T.Typing.resolves c.args.self.now.typing) c.args.self.now c.args.module.now c.args.mod_info.now.lists c.requires)

pub validate_global_variable-requires-clause-typed : goal.validate_global_variable-requires-clause-typed
validate_global_variable-requires-clause-typed g c =
    let m = c.args.module.now in
    let state = c.args.self.now in
    let lists = c.args.mod_info.now.lists in
    subst (λ (s : InterfaceSurroundings). All (TypesExist s.types) c.const_expression_types.result.now) (sym c.interface_context-ctx.ensures)
    (subst (All (TypesExist m.types)) (sym c.const_expression_types.ensures) (expressions_typed (g.T.Typing.resolves state.typing) state m lists c.requires (g.met.T.Typing.lawful state.typing)))

pub validate_global_variable-requires-clause-exists : goal.validate_global_variable-requires-clause-exists
validate_global_variable-requires-clause-exists g c =
    let m = c.args.module.now in
    let state = c.args.self.now in
    let v = c.in-Some.variable.now in
    let rule = global_variable_rule (surroundings_of state m) (record { types = c.args.mod_info.now.lists.const_expression_types; kinds = c.in_ok-kinds.kinds }) in
    let at = next_item rule m.global_variables _ _ _ v _ c.loop-handle.invariant.1 c.in-Some.ensures.steps in
    subst (λ (s : InterfaceSurroundings). v.ty < length s.types) (sym c.interface_context-ctx.ensures)
    (variable_type_exists m (known_handles (g.T.Typing.resolves state.typing) state m c.args.mod_info.now.lists c.requires) c.in-Some.handle v at)

pub validate_global_variable-requires-clause-has_type : goal.validate_global_variable-requires-clause-has_type
validate_global_variable-requires-clause-has_type g c =
    let m = c.args.module.now in
    let state = c.args.self.now in
    let lists = c.args.mod_info.now.lists in
    let resolves = g.T.Typing.resolves state.typing in
    let v = c.in-Some.variable.now in
    let rule = global_variable_rule (surroundings_of state m) (record { types = lists.const_expression_types; kinds = c.in_ok-kinds.kinds }) in
    let at = next_item rule m.global_variables _ _ _ v _ c.loop-handle.invariant.1 c.in-Some.ensures.steps in
    subst (λ (n : ℕ). IfSome v.init (λ e. e < n)) (sym (ap length c.const_expression_types.ensures ∙ as_many_types resolves state m lists c.requires))
    (initialiser_exists m (known_handles resolves state m lists c.requires) c.in-Some.handle v at)

pub validate_global_variable-requires-clause-has_kind : goal.validate_global_variable-requires-clause-has_kind
validate_global_variable-requires-clause-has_kind g c =
    let m = c.args.module.now in
    let state = c.args.self.now in
    let lists = c.args.mod_info.now.lists in
    let v = c.in-Some.variable.now in
    let rule = global_variable_rule (surroundings_of state m) (record { types = lists.const_expression_types; kinds = c.in_ok-kinds.kinds }) in
    let at = next_item rule m.global_variables _ _ _ v _ c.loop-handle.invariant.1 c.in-Some.ensures.steps in
    has_kind m c.in_ok-kinds.kinds c.in-Some.handle v c.in_ok-kinds.ensures.found at
    (initialiser_exists m (known_handles (g.T.Typing.resolves state.typing) state m lists c.requires) c.in-Some.handle v at)

pub loop-handle-preserved : goal.loop-handle-preserved
loop-handle-preserved g c =
    let m = c.args.module.now in
    let state = c.args.self.now in
    let lists = c.args.mod_info.now.lists in
    let kinds = c.in_ok-kinds.kinds in
    let v = c.in-Some.variable.now in
    let rule = global_variable_rule (surroundings_of state m) (record { types = lists.const_expression_types; kinds = kinds }) in
    let by_init : c.validate_global_variable.result ≡ global_variable_rule (surroundings_of state m) (record { types = c.const_expression_types.result.now; kinds = kinds }) v =
    c.validate_global_variable.ensures ∙ ap (λ (s : InterfaceSurroundings). global_variable_rule s (record { types = c.const_expression_types.result.now; kinds = kinds }) v) c.interface_context-ctx.ensures in
    let by_rule : c.validate_global_variable.result ≡ rule v = by_init ∙ ap (λ (types : List TypeResolution). global_variable_rule (surroundings_of state m) (record { types = types; kinds = kinds }) v) c.const_expression_types.ensures in
    (c.loop-handle.invariant.0 + 1, one_more rule m.global_variables _ _ _ v _ c.loop-handle.invariant.1 c.in-Some.ensures.steps (sym by_rule ∙ search rules))

pub returns-in-Err : goal.returns-in-Err
returns-in-Err g c =
    let m = c.args.module.now in
    let state = c.args.self.now in
    let lists = c.args.mod_info.now.lists in
    let kinds = c.in_ok-kinds.kinds in
    let v = c.in-Some.variable.now in
    let rule = global_variable_rule (surroundings_of state m) (record { types = lists.const_expression_types; kinds = kinds }) in
    let exact = kinds_exist m.global_expressions in
    let is : rule v ≡ Err c.in-Err.source =
    sym (ap (λ (types : List TypeResolution). global_variable_rule (surroundings_of state m) (record { types = types; kinds = kinds }) v) c.const_expression_types.ensures)
    ∙ sym (ap (λ (s : InterfaceSurroundings). global_variable_rule s (record { types = c.const_expression_types.result.now; kinds = kinds }) v) c.interface_context-ctx.ensures)
    ∙ sym c.in-Err.ensures in (
      exact.0,
      exact.1,
      subst (λ rs. IsFirstError rs c.in-Some.handle c.in-Err.source) (same_results (surroundings_of state m) lists.const_expression_types kinds exact.0 m exact.1 c.in_ok-kinds.ensures.found)
          (first_refused rule m.global_variables _ _ c.in-Some.handle v _ c.loop-handle.invariant.1 c.in-Some.ensures.steps c.in-Err.source is),
    )

pub returns : goal.returns
returns g c =
    let m = c.args.module.now in
    let state = c.args.self.now in
    let lists = c.args.mod_info.now.lists in
    let kinds = c.in_ok-kinds.kinds in
    let rule = global_variable_rule (surroundings_of state m) (record { types = lists.const_expression_types; kinds = kinds }) in
    let exact = kinds_exist m.global_expressions in (
      exact.0,
      exact.1,
      subst (All IsOk) (same_results (surroundings_of state m) lists.const_expression_types kinds exact.0 m exact.1 c.in_ok-kinds.ensures.found)
          (all_accepted rule m.global_variables _ _ c.loop-handle.invariant.1 c.in-None.ensures.steps.0),
    )
