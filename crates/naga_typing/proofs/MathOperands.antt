-- What holds of all operands of a mathematical function.
use Rattle.std.proofs.Common.{◌≡◌, ◌++◌, ℕ, [], ◌∷◌, Option, Some, None, All, IfSome, option_to_list, subst, arith}
use Rattle.naga_arena.proofs.Elements.{all-left, all-right}
use Rattle.naga_ir.specs.References.{operands}
use Rattle.naga_ir.specs.declared.expression.Expression.{Expression}
use Rattle.naga_ir.specs.declared.expression.Expression.TheVariants as form
use Rattle.naga_ir.specs.declared.expression.MathFunction.{MathFunction}

-- `P` holds of the first argument, and of each further one that is given
pub record OfArguments (P : ℕ → Type 0) (arg : ℕ) (arg1 arg2 arg3 : Option ℕ) : Type 0 where
  pub first : P arg
  pub second : IfSome arg1 P
  pub third : IfSome arg2 P
  pub fourth : IfSome arg3 P

if_given : (P : ℕ → Type 0) (o : Option ℕ) → All P (option_to_list o) → IfSome o P
if_given P None all = tt
if_given P (Some e) all = all 0 e (omega arith)

-- `P` holds of the arguments if it holds of all operands
pub of_arguments : (P : ℕ → Type 0) (x : Expression) (fun : MathFunction) (arg : ℕ) (arg1 arg2 arg3 : Option ℕ) → All P (operands x) → x ≡ form.Math fun arg arg1 arg2 arg3 → OfArguments P arg arg1 arg2 arg3
unfolding operands
of_arguments P x fun arg arg1 arg2 arg3 all e =
    let both = option_to_list arg2 ++ option_to_list arg3 in
    let every : All P (arg ∷ option_to_list arg1 ++ both) = subst (λ (x : Expression). All P (operands x)) e all in
    let rest = all-right P (arg ∷ []) (option_to_list arg1 ++ both) every in
    let last = all-right P (option_to_list arg1) both rest in record {
      first = every 0 arg (omega arith);
      second = if_given P arg1 (all-left P (option_to_list arg1) both rest);
      third = if_given P arg2 (all-left P (option_to_list arg2) (option_to_list arg3) last);
      fourth = if_given P arg3 (all-right P (option_to_list arg2) (option_to_list arg3) last);
    }
