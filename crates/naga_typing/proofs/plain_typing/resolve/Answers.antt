use Rattle.std.proofs.Common.{◌≡◌, ◌<◌, ℕ, List, Option, length}
use Rattle.naga_ir.specs.declared.expression.Expression.{Expression}
use Rattle.naga_ir.specs.declared.expression.Expression.TheVariants as form
use Rattle.naga_ir.specs.declared.expression.MathFunction.{MathFunction}
use Rattle.naga_ir.specs.declared.ir.Module.{Module}
use Rattle.naga_typing.proofs.FormOperands.{accepted_of_select, left_of_binary, of_access, of_access_index, of_as, of_derivative, of_relational, of_splat, of_swizzle, of_unary, right_of_binary}
use Rattle.naga_typing.proofs.CanResolve.{all_earlier, constant_exists, operands_earlier, override_exists}
use Rattle.naga_typing.proofs.MathOperands.{OfArguments, of_arguments}
use Rattle.naga_typing.proofs.plain_typing.resolve.Goals as goal
use Rattle.naga_typing.specs.Typings.{CanResolve}
use Rattle.naga_typing.specs.declared.typifier.TypeResolution.{TypeResolution}

-- the arguments of a mathematical function have types
arguments_earlier : (m : Module) (x : Expression) (earlier : List TypeResolution) (fun : MathFunction) (arg : ℕ) (arg1 arg2 arg3 : Option ℕ)
    → CanResolve m x earlier → x ≡ form.Math fun arg arg1 arg2 arg3 → OfArguments (λ (e : ℕ). e < length earlier) arg arg1 arg2 arg3
arguments_earlier m x earlier fun arg arg1 arg2 arg3 can is = of_arguments (λ (e : ℕ). e < length earlier) x fun arg arg1 arg2 arg3 (all_earlier m x earlier can) is

pub index-requires : goal.index-requires
index-requires c = constant_exists _ _ _ c.requires _ c.in-Constant.is

pub index-requires-in-Override : goal.index-requires-in-Override
index-requires-in-Override c = override_exists _ _ _ c.requires _ c.in-Override.is

pub operand-requires-clause-earlier : goal.operand-requires-clause-earlier
operand-requires-clause-earlier c = operands_earlier _ _ _ c.requires _ (of_access _ _ _ c.in-Access.is)

pub operand-requires-in-AccessIndex-clause-earlier : goal.operand-requires-in-AccessIndex-clause-earlier
operand-requires-in-AccessIndex-clause-earlier c = operands_earlier _ _ _ c.requires _ (of_access_index _ _ _ c.in-AccessIndex.is)

pub operand-requires-in-Splat-clause-earlier : goal.operand-requires-in-Splat-clause-earlier
operand-requires-in-Splat-clause-earlier c = operands_earlier _ _ _ c.requires _ (of_splat _ _ _ c.in-Splat.is)

pub operand-requires-in-Swizzle-clause-earlier : goal.operand-requires-in-Swizzle-clause-earlier
operand-requires-in-Swizzle-clause-earlier c = operands_earlier _ _ _ c.requires _ (of_swizzle _ _ _ _ c.in-Swizzle.is)

pub binary_of-requires-clause-left_earlier : goal.binary_of-requires-clause-left_earlier
binary_of-requires-clause-left_earlier c = operands_earlier _ _ _ c.requires _ (left_of_binary _ _ _ _ c.in-Binary.is)

pub binary_of-requires-clause-right_earlier : goal.binary_of-requires-clause-right_earlier
binary_of-requires-clause-right_earlier c = operands_earlier _ _ _ c.requires _ (right_of_binary _ _ _ _ c.in-Binary.is)

pub operand-requires-in-Relational-clause-earlier : goal.operand-requires-in-Relational-clause-earlier
operand-requires-in-Relational-clause-earlier c = operands_earlier _ _ _ c.requires _ (of_relational _ _ _ c.in-Relational.is)

pub operand-requires-in-As-clause-earlier : goal.operand-requires-in-As-clause-earlier
operand-requires-in-As-clause-earlier c = operands_earlier _ _ _ c.requires _ (of_as _ _ _ _ c.in-As.is)

pub same_type-requires-clause-earlier : goal.same_type-requires-clause-earlier
same_type-requires-clause-earlier c = operands_earlier _ _ _ c.requires _ (of_unary _ _ _ c.in-Unary.is)

pub same_type-requires-in-Derivative-clause-earlier : goal.same_type-requires-in-Derivative-clause-earlier
same_type-requires-in-Derivative-clause-earlier c = operands_earlier _ _ _ c.requires _ (of_derivative _ _ c.in-Derivative.is)

pub same_type-requires-in-Select-clause-earlier : goal.same_type-requires-in-Select-clause-earlier
same_type-requires-in-Select-clause-earlier c = operands_earlier _ _ _ c.requires _ (accepted_of_select _ _ _ _ c.in-Select.is)

pub operand-first-requires-clause-earlier : goal.operand-first-requires-clause-earlier
operand-first-requires-clause-earlier c = (arguments_earlier _ _ _ _ _ _ _ _ c.requires c.in-Math.is).first

pub optional_operand-second-requires-clause-earlier : goal.optional_operand-second-requires-clause-earlier
optional_operand-second-requires-clause-earlier c = (arguments_earlier _ _ _ _ _ _ _ _ c.requires c.in-Math.is).second

pub optional_operand-third-requires-clause-earlier : goal.optional_operand-third-requires-clause-earlier
optional_operand-third-requires-clause-earlier c = (arguments_earlier _ _ _ _ _ _ _ _ c.requires c.in-Math.is).third

pub optional_operand-fourth-requires-clause-earlier : goal.optional_operand-fourth-requires-clause-earlier
optional_operand-fourth-requires-clause-earlier c = (arguments_earlier _ _ _ _ _ _ _ _ c.requires c.in-Math.is).fourth
