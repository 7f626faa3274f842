-- What has to be known of the operands of an expression that can be validated.
use Rattle.std.proofs.Common.{◌≡◌, ◌<◌, ℕ, All, Bool, Contains, IfSome, List, [], ◌∷◌, Option, Some, length, map, refl, sym, ap, subst, arith, ◌∙◌}
use Rattle.std.proofs.lemmas.List.Elements.{All-contains, All-weaker, Contains-append_left}
use Rattle.naga_arena.proofs.Elements.{contains-map}
use Rattle.naga_ir.proofs.ReferencesOfItems.{type_in}
use Rattle.naga_ir.specs.Handles.{Exists, function_counts}
use Rattle.naga_ir.specs.ItemReferences.{expression_references, global_lists, named_references}
use Rattle.naga_ir.specs.References.{named_type, operands}
use Rattle.naga_ir.specs.declared.expression.CooperativeShape.{CooperativeShape}
use Rattle.naga_ir.specs.declared.expression.Expression.{Expression}
use Rattle.naga_ir.specs.declared.expression.Expression.TheVariants as form
use Rattle.naga_ir.specs.declared.expression.MathFunction.{MathFunction}
use Rattle.naga_ir.specs.declared.reference.Reference.TheVariants as to
use Rattle.naga_ir.specs.declared.types.«Type».{«Type»}
use Rattle.naga_info.specs.Surroundings.{AreSound, ExpressionSurroundings, IsReady, IsReadySomewhere}
use Rattle.naga_typing.proofs.MathOperands.{OfArguments, of_arguments}
use Rattle.naga_typing.specs.PlainLaws.{types_exist}
use Rattle.naga_typing.specs.Resolutions.{ResolutionExists, TypesExist}
use Rattle.naga_typing.specs.declared.typifier.TypeResolution.{TypeResolution}

operands_of_access : (base index : ℕ) → operands (form.Access base index) ≡ base ∷ index ∷ []
unfolding operands
operands_of_access base index = refl

operands_of_load : (pointer : ℕ) → operands (form.Load pointer) ≡ pointer ∷ []
unfolding operands
operands_of_load pointer = refl

operands_of_select : (condition accept reject : ℕ) → operands (form.Select condition accept reject) ≡ condition ∷ accept ∷ reject ∷ []
unfolding operands
operands_of_select condition accept reject = refl

operands_of_array_length : (array : ℕ) → operands (form.ArrayLength array) ≡ array ∷ []
unfolding operands
operands_of_array_length array = refl

operands_of_intersection : (query : ℕ) (committed : Bool) → operands (form.RayQueryGetIntersection query committed) ≡ query ∷ []
unfolding operands
operands_of_intersection query committed = refl

operands_of_vertices : (query : ℕ) (committed : Bool) → operands (form.RayQueryVertexPositions query committed) ≡ query ∷ []
unfolding operands
operands_of_vertices query committed = refl

operands_of_cooperative_load : (shape : Option CooperativeShape) (pointer stride : ℕ) → operands (form.CooperativeLoad shape pointer stride) ≡ pointer ∷ stride ∷ []
unfolding operands
operands_of_cooperative_load shape pointer stride = refl

operands_of_multiply_add : (a b c : ℕ) → operands (form.CooperativeMultiplyAdd a b c) ≡ a ∷ b ∷ c ∷ []
unfolding operands
operands_of_multiply_add a b c = refl

operands_of_composition : (ty : ℕ) (components : List ℕ) → operands (form.Compose ty components) ≡ components
unfolding operands
operands_of_composition ty components = refl

named_by_zero : (ty : ℕ) → named_type (form.ZeroValue ty) ≡ Some ty
unfolding named_type
named_by_zero ty = refl

named_by_composition : (ty : ℕ) (components : List ℕ) → named_type (form.Compose ty components) ≡ Some ty
unfolding named_type
named_by_composition ty components = refl

named_by_workgroup_load : (ty : ℕ) → named_type (form.WorkGroupUniformLoadResult ty) ≡ Some ty
unfolding named_type
named_by_workgroup_load ty = refl

among : (x : Expression) (os : List ℕ) (o : ℕ) → operands x ≡ os → Contains os o → Contains (operands x) o
among x os o is within = subst (λ (os : List ℕ). Contains os o) (sym is) within

-- the second operand of an access
pub index_of_access : (x : Expression) (base index : ℕ) → x ≡ form.Access base index → Contains (operands x) index
index_of_access x base index is = among x (base ∷ index ∷ []) index (ap operands is ∙ operands_of_access base index) (1, omega arith, refl)

-- the operand of a load
pub of_load : (x : Expression) (pointer : ℕ) → x ≡ form.Load pointer → Contains (operands x) pointer
of_load x pointer is = among x (pointer ∷ []) pointer (ap operands is ∙ operands_of_load pointer) (0, omega arith, refl)

-- the first and the last operand of a selection
pub condition_of_select : (x : Expression) (condition accept reject : ℕ) → x ≡ form.Select condition accept reject → Contains (operands x) condition
condition_of_select x condition accept reject is = among x (condition ∷ accept ∷ reject ∷ []) condition (ap operands is ∙ operands_of_select condition accept reject) (0, omega arith, refl)

pub reject_of_select : (x : Expression) (condition accept reject : ℕ) → x ≡ form.Select condition accept reject → Contains (operands x) reject
reject_of_select x condition accept reject is = among x (condition ∷ accept ∷ reject ∷ []) reject (ap operands is ∙ operands_of_select condition accept reject) (2, omega arith, refl)

-- the operand of the length of an array
pub of_array_length : (x : Expression) (array : ℕ) → x ≡ form.ArrayLength array → Contains (operands x) array
of_array_length x array is = among x (array ∷ []) array (ap operands is ∙ operands_of_array_length array) (0, omega arith, refl)

-- the ray query of an intersection, and of vertices
pub of_intersection : (x : Expression) (query : ℕ) (committed : Bool) → x ≡ form.RayQueryGetIntersection query committed → Contains (operands x) query
of_intersection x query committed is = among x (query ∷ []) query (ap operands is ∙ operands_of_intersection query committed) (0, omega arith, refl)

pub of_vertices : (x : Expression) (query : ℕ) (committed : Bool) → x ≡ form.RayQueryVertexPositions query committed → Contains (operands x) query
of_vertices x query committed is = among x (query ∷ []) query (ap operands is ∙ operands_of_vertices query committed) (0, omega arith, refl)

-- the pointer of a load of a cooperative matrix
pub of_cooperative_load : (x : Expression) (shape : Option CooperativeShape) (pointer stride : ℕ) → x ≡ form.CooperativeLoad shape pointer stride → Contains (operands x) pointer
of_cooperative_load x shape pointer stride is = among x (pointer ∷ stride ∷ []) pointer (ap operands is ∙ operands_of_cooperative_load shape pointer stride) (0, omega arith, refl)

-- the operands of `a * b + c`
pub left_of_multiply_add : (x : Expression) (a b c : ℕ) → x ≡ form.CooperativeMultiplyAdd a b c → Contains (operands x) a
left_of_multiply_add x a b c is = among x (a ∷ b ∷ c ∷ []) a (ap operands is ∙ operands_of_multiply_add a b c) (0, omega arith, refl)

pub right_of_multiply_add : (x : Expression) (a b c : ℕ) → x ≡ form.CooperativeMultiplyAdd a b c → Contains (operands x) b
right_of_multiply_add x a b c is = among x (a ∷ b ∷ c ∷ []) b (ap operands is ∙ operands_of_multiply_add a b c) (1, omega arith, refl)

pub summand_of_multiply_add : (x : Expression) (a b c : ℕ) → x ≡ form.CooperativeMultiplyAdd a b c → Contains (operands x) c
summand_of_multiply_add x a b c is = among x (a ∷ b ∷ c ∷ []) c (ap operands is ∙ operands_of_multiply_add a b c) (2, omega arith, refl)

module _ (s : ExpressionSurroundings) (root : ℕ) (x : Expression) (can : IsReady s root x) where
  -- the type of an operand is known
  pub typed : (o : ℕ) → Contains (operands x) o → o < length s.types
  typed o within = All-contains (λ o. o < length s.types) (operands x) o can.typed within

  -- an operand is an expression of the function
  pub there : (o : ℕ) → Contains (operands x) o → o < length s.function.expressions
  there o within =
      All-contains (Exists (function_counts s.«module» s.function)) (expression_references x) (to.Expression o) can.references
      (Contains-append_left (map to.Expression (operands x)) (named_references x) (to.Expression o) (contains-map to.Expression (operands x) o within))

  -- the type that is named exists
  type_there : (ty : ℕ) → named_type x ≡ Some ty → ty < length s.«module».types
  type_there ty is = All-contains (Exists (function_counts s.«module» s.function)) (expression_references x) (to.Type_ ty) can.references (type_in x ty is)

  pub zero_type : (ty : ℕ) → x ≡ form.ZeroValue ty → ty < length s.«module».types
  zero_type ty is = type_there ty (ap named_type is ∙ named_by_zero ty)

  pub composed_type : (ty : ℕ) (components : List ℕ) → x ≡ form.Compose ty components → ty < length s.«module».types
  composed_type ty components is = type_there ty (ap named_type is ∙ named_by_composition ty components)

  pub workgroup_load_type : (ty : ℕ) → x ≡ form.WorkGroupUniformLoadResult ty → ty < length s.«module».types
  workgroup_load_type ty is = type_there ty (ap named_type is ∙ named_by_workgroup_load ty)

  -- the types of components are known
  pub components_typed : (ty : ℕ) (components : List ℕ) → x ≡ form.Compose ty components → All (λ o. o < length s.types) components
  components_typed ty components is = subst (λ (os : List ℕ). All (λ o. o < length s.types) os) (ap operands is ∙ operands_of_composition ty components) can.typed

-- the types that the known types of expressions name exist
pub known_types_exist : (s : ExpressionSurroundings) → AreSound s → (types : List «Type») (known : List TypeResolution) → types ≡ s.«module».types → known ≡ s.types → All (TypesExist types) known
known_types_exist s sound types known these those =
    let g = global_lists s.«module» in
    let exist : All (TypesExist g.types) s.types = All-weaker (ResolutionExists g) (TypesExist g.types) (types_exist g) s.types sound.types_exist in
    subst (λ (types : List «Type»). All (TypesExist types) known) (sym these)
    (subst (λ (rs : List TypeResolution). All (TypesExist g.types) rs) (sym those) exist)

-- the types of the arguments of a mathematical function are known
pub arguments_typed : (s : ExpressionSurroundings) (fun : MathFunction) (arg : ℕ) (arg1 arg2 arg3 : Option ℕ) → IsReadySomewhere s (form.Math fun arg arg1 arg2 arg3) → OfArguments (λ (e : ℕ). e < length s.types) arg arg1 arg2 arg3
arguments_typed s fun arg arg1 arg2 arg3 can = of_arguments (λ (e : ℕ). e < length s.types) (form.Math fun arg arg1 arg2 arg3) fun arg arg1 arg2 arg3 can.1.typed refl

-- the type of an argument that is given is known
pub argument_typed : (n : ℕ) (given : Option ℕ) (e : ℕ) → IfSome given (λ (e : ℕ). e < n) → given ≡ Some e → e < n
argument_typed n given e all is = subst (λ (o : Option ℕ). IfSome o (λ (e : ℕ). e < n)) is all

-- an expression that is ready is ready when written as its variant
pub ready_as : (s : ExpressionSurroundings) (x y : Expression) → x ≡ y → IsReadySomewhere s x → IsReadySomewhere s y
ready_as s x y is ready = subst (IsReadySomewhere s) is ready
