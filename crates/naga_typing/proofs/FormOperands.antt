-- The operands of the variants whose types follow from them.
use Rattle.std.proofs.Common.{◌≡◌, Bool, ℕ, List, Option, Contains, refl, subst, sym, arith}
use Rattle.naga_ir.specs.References.{operands}
use Rattle.naga_ir.specs.declared.expression.BinaryOperator.{BinaryOperator}
use Rattle.naga_ir.specs.declared.expression.CooperativeShape.{CooperativeShape}
use Rattle.naga_ir.specs.declared.expression.Expression.{Expression}
use Rattle.naga_ir.specs.declared.expression.Expression.TheVariants as form
use Rattle.naga_ir.specs.declared.expression.ImageQuery.{ImageQuery}
use Rattle.naga_ir.specs.declared.expression.MathFunction.{MathFunction}
use Rattle.naga_ir.specs.declared.expression.RelationalFunction.{RelationalFunction}
use Rattle.naga_ir.specs.declared.expression.SampleLevel.{SampleLevel}
use Rattle.naga_ir.specs.declared.expression.SwizzleComponent.{SwizzleComponent}
use Rattle.naga_ir.specs.declared.expression.UnaryOperator.{UnaryOperator}
use Rattle.naga_ir.specs.declared.types.ScalarKind.{ScalarKind}
use Rattle.naga_ir.specs.declared.types.VectorSize.{VectorSize}

module _ (x : Expression) where
  abbrev Has : ℕ → Type 0
  Has o = Contains (operands x) o

  pub of_access : (base index : ℕ) → x ≡ form.Access base index → Has base
  unfolding operands
  of_access base index e = subst (λ x. Contains (operands x) base) (sym e) (0, omega arith, refl)

  pub of_access_index : (base index : ℕ) → x ≡ form.AccessIndex base index → Has base
  unfolding operands
  of_access_index base index e = subst (λ x. Contains (operands x) base) (sym e) (0, omega arith, refl)

  pub of_load : (pointer : ℕ) → x ≡ form.Load pointer → Has pointer
  unfolding operands
  of_load pointer e = subst (λ x. Contains (operands x) pointer) (sym e) (0, omega arith, refl)

  pub of_splat : (size : VectorSize) (value : ℕ) → x ≡ form.Splat size value → Has value
  unfolding operands
  of_splat size value e = subst (λ x. Contains (operands x) value) (sym e) (0, omega arith, refl)

  pub of_swizzle : (size : VectorSize) (vector : ℕ) (pattern : List SwizzleComponent) → x ≡ form.Swizzle size vector pattern → Has vector
  unfolding operands
  of_swizzle size vector pattern e = subst (λ x. Contains (operands x) vector) (sym e) (0, omega arith, refl)

  pub of_unary : (op : UnaryOperator) (expr : ℕ) → x ≡ form.Unary op expr → Has expr
  unfolding operands
  of_unary op expr e = subst (λ x. Contains (operands x) expr) (sym e) (0, omega arith, refl)

  pub of_derivative : (expr : ℕ) → x ≡ form.Derivative expr → Has expr
  unfolding operands
  of_derivative expr e = subst (λ x. Contains (operands x) expr) (sym e) (0, omega arith, refl)

  pub accepted_of_select : (condition accept reject : ℕ) → x ≡ form.Select condition accept reject → Has accept
  unfolding operands
  accepted_of_select condition accept reject e = subst (λ x. Contains (operands x) accept) (sym e) (1, omega arith, refl)

  pub left_of_binary : (op : BinaryOperator) (left right : ℕ) → x ≡ form.Binary op left right → Has left
  unfolding operands
  left_of_binary op left right e = subst (λ x. Contains (operands x) left) (sym e) (0, omega arith, refl)

  pub right_of_binary : (op : BinaryOperator) (left right : ℕ) → x ≡ form.Binary op left right → Has right
  unfolding operands
  right_of_binary op left right e = subst (λ x. Contains (operands x) right) (sym e) (1, omega arith, refl)

  pub of_relational : (fun : RelationalFunction) (argument : ℕ) → x ≡ form.Relational fun argument → Has argument
  unfolding operands
  of_relational fun argument e = subst (λ x. Contains (operands x) argument) (sym e) (0, omega arith, refl)

  pub of_as : (expr : ℕ) (kind : ScalarKind) (convert : Option ℕ) → x ≡ form.As expr kind convert → Has expr
  unfolding operands
  of_as expr kind convert e = subst (λ x. Contains (operands x) expr) (sym e) (0, omega arith, refl)

  pub image_of_sample : (image sampler : ℕ) (gather : Option SwizzleComponent) (coordinate : ℕ) (array_index offset : Option ℕ) (level : SampleLevel) (depth_ref : Option ℕ) (clamp_to_edge : Bool)
      → x ≡ form.ImageSample image sampler gather coordinate array_index offset level depth_ref clamp_to_edge → Has image
  unfolding operands
  image_of_sample image sampler gather coordinate array_index offset level depth_ref clamp_to_edge e = subst (λ x. Contains (operands x) image) (sym e) (0, omega arith, refl)

  pub image_of_load : (image coordinate : ℕ) (array_index sample level : Option ℕ) → x ≡ form.ImageLoad image coordinate array_index sample level → Has image
  unfolding operands
  image_of_load image coordinate array_index sample level e = subst (λ x. Contains (operands x) image) (sym e) (0, omega arith, refl)

  pub image_of_query : (image : ℕ) (query : ImageQuery) → x ≡ form.ImageQuery image query → Has image
  unfolding operands
  image_of_query image query e = subst (λ x. Contains (operands x) image) (sym e) (0, omega arith, refl)

  pub summand_of_product : (a b c : ℕ) → x ≡ form.CooperativeMultiplyAdd a b c → Has c
  unfolding operands
  summand_of_product a b c e = subst (λ x. Contains (operands x) c) (sym e) (2, omega arith, refl)

  pub of_cooperative_load : (shape : Option CooperativeShape) (pointer stride : ℕ) → x ≡ form.CooperativeLoad shape pointer stride → Has pointer
  unfolding operands
  of_cooperative_load shape pointer stride e = subst (λ x. Contains (operands x) pointer) (sym e) (0, omega arith, refl)

  pub first_of_math : (fun : MathFunction) (arg : ℕ) (arg1 arg2 arg3 : Option ℕ) → x ≡ form.Math fun arg arg1 arg2 arg3 → Has arg
  unfolding operands
  first_of_math fun arg arg1 arg2 arg3 e = subst (λ x. Contains (operands x) arg) (sym e) (0, omega arith, refl)
