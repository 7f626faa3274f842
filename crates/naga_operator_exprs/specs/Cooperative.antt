-- The rule of `a * b + c` of cooperative matrices.
use Rattle.std.specs.Prelude.{ℕ, Bool as Boolean, false, [], ◌∷◌, Option, Result}
use Rattle.naga_flags.specs.declared.flags.ShaderStages.{ShaderStages}
use Rattle.naga_ir.specs.contracts.types.CooperativeRolePartialEq.TheImpl as of_role
use Rattle.naga_ir.specs.declared.types.CooperativeRole.{CooperativeRole}
use Rattle.naga_ir.specs.declared.types.CooperativeRole.TheVariants.{A, B, C}
use Rattle.naga_ir.specs.declared.types.TypeInner.{TypeInner}
use Rattle.naga_ir.specs.declared.types.TypeInner.TheVariants.{CooperativeMatrix}
use Rattle.naga_info.specs.Stages.{compute_stage}
use Rattle.naga_info.specs.Surroundings.{ExpressionSurroundings, form_at}
use Rattle.naga_info.specs.declared.expression_error.ExpressionError.{ExpressionError}
use Rattle.naga_info.specs.declared.expression_error.ExpressionError.TheVariants.{InvalidCooperativeOperand}
use Rattle.naga_types.specs.Checks.{first_error_or, require}

-- `inner` is a cooperative matrix of role `wanted`
abbrev pub has_role : CooperativeRole → TypeInner → Boolean
has_role wanted (CooperativeMatrix columns rows scalar role) = of_role.ghosts.eq role wanted
has_role _ _ = false

-- the error of an operand of `a * b + c`, unless it has its role
abbrev pub role_error : ExpressionSurroundings → CooperativeRole → ℕ → Option ExpressionError
role_error s role operand = require (has_role role (form_at s operand)) (InvalidCooperativeOperand operand)

-- the rule of `a * b + c` of cooperative matrices, which only compute shaders may use
abbrev pub cooperative_multiply_add_rule : ExpressionSurroundings → ℕ → ℕ → ℕ → Result ShaderStages ExpressionError
cooperative_multiply_add_rule s a b c =
    first_error_or (role_error s A a ∷ role_error s B b ∷ role_error s C c ∷ []) compute_stage
