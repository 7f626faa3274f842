-- What an expression refers to, by its variant.
use Rattle.std.specs.Prelude.{ℕ, List, [], ◌∷◌, ◌++◌, Option, Some, None, option_to_list}
use Rattle.naga_ir.specs.declared.expression.SampleLevel.{SampleLevel}
use Rattle.naga_ir.specs.declared.expression.SampleLevel.TheVariants.{Auto, Zero, Exact, Bias, Gradient}
use Rattle.naga_ir.specs.declared.expression.ImageQuery.{ImageQuery as Query}
use Rattle.naga_ir.specs.declared.expression.ImageQuery.TheVariants.{Size}
use Rattle.naga_ir.specs.declared.expression.Expression.{Expression}
use Rattle.naga_ir.specs.declared.expression.Expression.TheVariants.{Constant, Override, ZeroValue, Compose, Access, AccessIndex, Splat, Swizzle, GlobalVariable, LocalVariable, Load, ImageSample, ImageLoad, ImageQuery, Unary, Binary, Select, Derivative, Relational, Math, As, CallResult, AtomicResult, WorkGroupUniformLoadResult, ArrayLength, RayQueryGetIntersection, RayQueryVertexPositions, SubgroupOperationResult, CooperativeLoad, CooperativeMultiplyAdd}
use Rattle.naga_ir.specs.declared.reference.Reference.{Reference}
use Rattle.naga_ir.specs.declared.reference.Reference.TheVariants as to

-- the operands of a mipmap level
abbrev pub level_operands : SampleLevel → List ℕ
level_operands Auto = []
level_operands Zero = []
level_operands (Exact e) = e ∷ []
level_operands (Bias e) = e ∷ []
level_operands (Gradient x y) = x ∷ y ∷ []

-- the operands of a query of an image
abbrev pub query_operands : Query → List ℕ
query_operands (Size level) = option_to_list level
query_operands _ = []

-- the components of a composition; other expressions have none
abbrev pub components_of : Expression → List ℕ
components_of (Compose ty components) = components
components_of _ = []

-- the expressions that an expression is computed from, in the order of its fields
unfoldable pub operands : Expression → List ℕ
operands (Compose ty components) = components
operands (Access base index) = base ∷ index ∷ []
operands (AccessIndex base index) = base ∷ []
operands (Splat size value) = value ∷ []
operands (Swizzle size vector pattern) = vector ∷ []
operands (Load pointer) = pointer ∷ []
operands (ImageSample image sampler gather coordinate array_index offset level depth_ref clamp_to_edge) =
    image ∷ sampler ∷ coordinate
    ∷ option_to_list array_index ++ (option_to_list offset ++ (level_operands level ++ option_to_list depth_ref))
operands (ImageLoad image coordinate array_index sample level) =
    image ∷ coordinate ∷ option_to_list array_index ++ (option_to_list sample ++ option_to_list level)
operands (ImageQuery image query) = image ∷ query_operands query
operands (Unary op expr) = expr ∷ []
operands (Binary op left right) = left ∷ right ∷ []
operands (Select condition accept reject) = condition ∷ accept ∷ reject ∷ []
operands (Derivative expr) = expr ∷ []
operands (Relational fun argument) = argument ∷ []
operands (Math fun arg arg1 arg2 arg3) = arg ∷ option_to_list arg1 ++ (option_to_list arg2 ++ option_to_list arg3)
operands (As expr kind convert) = expr ∷ []
operands (ArrayLength expr) = expr ∷ []
operands (RayQueryGetIntersection query committed) = query ∷ []
operands (RayQueryVertexPositions query committed) = query ∷ []
operands (CooperativeLoad shape pointer stride) = pointer ∷ stride ∷ []
operands (CooperativeMultiplyAdd a b c) = a ∷ b ∷ c ∷ []
operands _ = []

-- the type that an expression names
unfoldable pub named_type : Expression → Option ℕ
named_type (ZeroValue ty) = Some ty
named_type (Compose ty components) = Some ty
named_type (AtomicResult ty comparison) = Some ty
named_type (WorkGroupUniformLoadResult ty) = Some ty
named_type (SubgroupOperationResult ty) = Some ty
named_type _ = None

-- the constant, override, variable or function that an expression names
unfoldable pub named_item : Expression → Option Reference
named_item (Constant c) = Some (to.Constant c)
named_item (Override o) = Some (to.Override o)
named_item (GlobalVariable v) = Some (to.GlobalVariable v)
named_item (LocalVariable v) = Some (to.LocalVariable v)
named_item (CallResult f) = Some (to.Function f)
named_item _ = None
