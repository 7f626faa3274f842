use Rattle.std.proofs.Common.{rules, ◌≡◌, ◌||◌, Bool, true, ℕ, IsTrue, List, ◌∷◌, Option, None, Some, ap, inl, subst, sym}
use Rattle.std.specs.List.{list_any}
use Rattle.std.specs.Prelude.{Err}
use Rattle.naga_arena.specs.Results.{IsResultOf}
use Rattle.naga_interface.specs.EntryPoints as rule
use Rattle.naga_interface.specs.Functions.{has_initialisers}
use Rattle.naga_interface.specs.Stages.{is_covered}
use Rattle.naga_interface.specs.Surroundings.{InterfaceSurroundings, KnownExpressions, surroundings}
use Rattle.naga_interface.specs.Varyings.{is_far}
use Rattle.naga_interface.specs.declared.error.EntryPointError.{EntryPointError}
use Rattle.naga_interface.specs.declared.error.EntryPointError.TheVariants.{ForbiddenStageOperations, OutOfMemory, StageNotCovered}
use Rattle.naga_ir.specs.declared.ir.EntryPoint.{EntryPoint}
use Rattle.naga_ir.specs.declared.ir.ShaderStage.{ShaderStage}
use Rattle.naga_types.specs.Checks.{first, require}
use Rattle.naga_typing.proofs.ExpressionKinds.{kinds_exist}
use Rattle.naga_interface.proofs.Conditions.{Outcome, broken_here, broken_here_or, by_first, kept, kept_or, kept_then, kept_then_or, more_cases, unless}
use Rattle.naga_interface.proofs.entry_point.validate_entry_point.Goals as goal

-- what is returned of an entry point of a stage that is covered is what its conditions say
covered_rule : (s : InterfaceSurroundings) (known : KnownExpressions) (stages : ℕ) (e : EntryPoint) (stage : ShaderStage) (r : Outcome EntryPointError) → e.stage ≡ Some stage → is_covered stage ≡ true
    → IsResultOf (λ _. IsTrue (rule.takes_memory s e)) OutOfMemory (by_first (rule.covered_checks s known stages e stage)) r
    → IsResultOf (λ _. IsTrue (rule.takes_memory s e)) OutOfMemory (rule.entry_point_rule s known stages e) r
covered_rule s known stages e stage r is known_stage h =
    subst (λ (o : Option ShaderStage). IsResultOf (λ _. IsTrue (rule.takes_memory s e)) OutOfMemory (by_first (rule.entry_point_checks s known stages e o)) r) (sym is)
    (kept_then_or (IsTrue (rule.takes_memory s e)) OutOfMemory (require (is_covered stage) StageNotCovered) (rule.covered_checks s known stages e stage) r (ap (λ (b : Bool). require b StageNotCovered) known_stage) h)

pub returns-in-Some-2 : goal.returns-in-Some-2
returns-in-Some-2 c =
    let kinds = kinds_exist c.args.entry_point.now.function.expressions in
    (kinds.0, kinds.1, inl (search rules))

pub returns-in_err-check_early_depth_test : goal.returns-in_err-check_early_depth_test
returns-in_err-check_early_depth_test c =
    let s = surroundings c.args.ctx in
    let e = c.args.entry_point.now in
    let kinds = kinds_exist e.function.expressions in
    let k : KnownExpressions = record { types = c.args.info.now.types; kinds = kinds.0 } in
    let stages = c.args.info.now.available_stages.0 in
    let stage = c.in-Some.stage in
    let takes = IsTrue (rule.takes_memory s e) in
    let is_known : is_covered stage ≡ true = search rules in
    let depth = first (rule.early_depth_checks s.capabilities stage e.early_depth_test) in
    let size = rule.workgroup_error stage e.workgroup_size in
    let function = rule.function_error s k e in
    let forbidden : Option EntryPointError = require (rule.is_among stages stage) ForbiddenStageOperations in
    let after_function : List (Option EntryPointError) = forbidden ∷ rule.varying_checks s e stage in
    let after_size : List (Option EntryPointError) = function ∷ after_function in
    let after_depth : List (Option EntryPointError) = size ∷ after_size in
    let error = c.in_err-check_early_depth_test.field-0.0 in
    let is : c.from_residual.result ≡ Err error = search rules in (
      kinds.0,
      kinds.1,
      covered_rule s k stages e stage c.from_residual.result c.in-Some.is is_known
          (subst (IsResultOf (λ _. takes) OutOfMemory (by_first (rule.covered_checks s k stages e stage))) (sym is)
          (inl (broken_here depth after_depth error c.in_err-check_early_depth_test.ensures))),
    )

pub returns-in_err-check_workgroup_size : goal.returns-in_err-check_workgroup_size
returns-in_err-check_workgroup_size c =
    let s = surroundings c.args.ctx in
    let e = c.args.entry_point.now in
    let kinds = kinds_exist e.function.expressions in
    let k : KnownExpressions = record { types = c.args.info.now.types; kinds = kinds.0 } in
    let stages = c.args.info.now.available_stages.0 in
    let stage = c.in-Some.stage in
    let takes = IsTrue (rule.takes_memory s e) in
    let is_known : is_covered stage ≡ true = search rules in
    let depth = first (rule.early_depth_checks s.capabilities stage e.early_depth_test) in
    let size = rule.workgroup_error stage e.workgroup_size in
    let function = rule.function_error s k e in
    let forbidden : Option EntryPointError = require (rule.is_among stages stage) ForbiddenStageOperations in
    let after_function : List (Option EntryPointError) = forbidden ∷ rule.varying_checks s e stage in
    let after_size : List (Option EntryPointError) = function ∷ after_function in
    let after_depth : List (Option EntryPointError) = size ∷ after_size in
    let error = c.in_err-check_workgroup_size.field-0.0 in
    let is : c.from_residual-in_err-check_workgroup_size.result ≡ Err error = search rules in (
      kinds.0,
      kinds.1,
      covered_rule s k stages e stage c.from_residual-in_err-check_workgroup_size.result c.in-Some.is is_known
          (subst (IsResultOf (λ _. takes) OutOfMemory (by_first (rule.covered_checks s k stages e stage))) (sym is)
          (inl (kept_then depth after_depth (Err error) (kept depth c.in_ok-check_early_depth_test.ensures) (broken_here size after_size error c.in_err-check_workgroup_size.ensures)))),
    )

pub returns-in_err-check_function : goal.returns-in_err-check_function
returns-in_err-check_function c =
    let s = surroundings c.args.ctx in
    let e = c.args.entry_point.now in
    let kinds = kinds_exist e.function.expressions in
    let k : KnownExpressions = record { types = c.args.info.now.types; kinds = kinds.0 } in
    let stages = c.args.info.now.available_stages.0 in
    let stage = c.in-Some.stage in
    let takes = IsTrue (rule.takes_memory s e) in
    let is_known : is_covered stage ≡ true = search rules in
    let depth = first (rule.early_depth_checks s.capabilities stage e.early_depth_test) in
    let size = rule.workgroup_error stage e.workgroup_size in
    let function = rule.function_error s k e in
    let forbidden : Option EntryPointError = require (rule.is_among stages stage) ForbiddenStageOperations in
    let after_function : List (Option EntryPointError) = forbidden ∷ rule.varying_checks s e stage in
    let after_size : List (Option EntryPointError) = function ∷ after_function in
    let after_depth : List (Option EntryPointError) = size ∷ after_size in
    let error = c.in_err-check_function.field-0.0 in
    let is : c.from_residual-in_err-check_function.result ≡ Err error = search rules in (
      kinds.0,
      kinds.1,
      covered_rule s k stages e stage c.from_residual-in_err-check_function.result c.in-Some.is is_known
          (subst (IsResultOf (λ _. takes) OutOfMemory (by_first (rule.covered_checks s k stages e stage))) (sym is)
          (kept_then_or takes OutOfMemory depth after_depth (Err error) (kept depth c.in_ok-check_early_depth_test.ensures) (kept_then_or takes OutOfMemory size after_size (Err error) (kept size c.in_ok-check_workgroup_size.ensures)
          (broken_here_or takes OutOfMemory function after_function error (more_cases (IsTrue (has_initialisers e.function)) takes OutOfMemory (unless function) (Err error) (λ (h : IsTrue (has_initialisers e.function)). ap (λ (b : Bool). b || list_any is_far (rule.argument_bindings s e.function.arguments) || list_any is_far (rule.result_bindings s e.function.result)) h) (c.in_err-check_function.ensures kinds.0 kinds.1)))))),
    )

pub returns-then-not-contains : goal.returns-then-not-contains
returns-then-not-contains c =
    let s = surroundings c.args.ctx in
    let e = c.args.entry_point.now in
    let kinds = kinds_exist e.function.expressions in
    let k : KnownExpressions = record { types = c.args.info.now.types; kinds = kinds.0 } in
    let stages = c.args.info.now.available_stages.0 in
    let stage = c.in-Some.stage in
    let takes = IsTrue (rule.takes_memory s e) in
    let is_known : is_covered stage ≡ true = search rules in
    let depth = first (rule.early_depth_checks s.capabilities stage e.early_depth_test) in
    let size = rule.workgroup_error stage e.workgroup_size in
    let function = rule.function_error s k e in
    let forbidden : Option EntryPointError = require (rule.is_among stages stage) ForbiddenStageOperations in
    let after_function : List (Option EntryPointError) = forbidden ∷ rule.varying_checks s e stage in
    let after_size : List (Option EntryPointError) = function ∷ after_function in
    let after_depth : List (Option EntryPointError) = size ∷ after_size in
    let error : EntryPointError = ForbiddenStageOperations in
    let lacks : Err error ≡ unless forbidden = search rules in (
      kinds.0,
      kinds.1,
      covered_rule s k stages e stage (Err error) c.in-Some.is is_known
          (inl (kept_then depth after_depth (Err error) (kept depth c.in_ok-check_early_depth_test.ensures) (kept_then size after_size (Err error) (kept size c.in_ok-check_workgroup_size.ensures)
          (kept_then function after_function (Err error) (kept_or (IsTrue (has_initialisers e.function)) OutOfMemory function (c.in_ok-check_function.ensures kinds.0 kinds.1))
          (broken_here forbidden (rule.varying_checks s e stage) error lacks))))),
    )

pub returns : goal.returns
returns c =
    let s = surroundings c.args.ctx in
    let e = c.args.entry_point.now in
    let kinds = kinds_exist e.function.expressions in
    let k : KnownExpressions = record { types = c.args.info.now.types; kinds = kinds.0 } in
    let stages = c.args.info.now.available_stages.0 in
    let stage = c.in-Some.stage in
    let takes = IsTrue (rule.takes_memory s e) in
    let is_known : is_covered stage ≡ true = search rules in
    let depth = first (rule.early_depth_checks s.capabilities stage e.early_depth_test) in
    let size = rule.workgroup_error stage e.workgroup_size in
    let function = rule.function_error s k e in
    let forbidden : Option EntryPointError = require (rule.is_among stages stage) ForbiddenStageOperations in
    let after_function : List (Option EntryPointError) = forbidden ∷ rule.varying_checks s e stage in
    let after_size : List (Option EntryPointError) = function ∷ after_function in
    let after_depth : List (Option EntryPointError) = size ∷ after_size in
    let r = c.check_varyings.result in
    let allowed : forbidden ≡ None = search rules in (
      kinds.0,
      kinds.1,
      covered_rule s k stages e stage r c.in-Some.is is_known
          (kept_then_or takes OutOfMemory depth after_depth r (kept depth c.in_ok-check_early_depth_test.ensures) (kept_then_or takes OutOfMemory size after_size r (kept size c.in_ok-check_workgroup_size.ensures)
          (kept_then_or takes OutOfMemory function after_function r (kept_or (IsTrue (has_initialisers e.function)) OutOfMemory function (c.in_ok-check_function.ensures kinds.0 kinds.1))
          (kept_then_or takes OutOfMemory forbidden (rule.varying_checks s e stage) r allowed c.check_varyings.ensures)))),
    )
