-- What is known of the operands of an expression of images that can be validated.
use Rattle.std.proofs.Common.{◌≡◌, ◌<◌, ◌++◌, ℕ, [], ◌∷◌, Option, Some, None, All, Contains, IfSome, map, option_to_list, refl, subst, arith}
use Rattle.std.proofs.lemmas.List.Elements.{All-contains, Contains-append_left}
use Rattle.naga_arena.proofs.Elements.{all-left, all-right, contains-map}
use Rattle.naga_image_exprs.specs.Samples.{expression_of}
use Rattle.naga_image_exprs.specs.declared.sample.Sample.{Sample}
use Rattle.naga_image_exprs.specs.steps.KnownResources.{CanLookUp}
use Rattle.naga_ir.specs.Handles.{Exists, function_counts}
use Rattle.naga_ir.specs.ItemReferences.{expression_references, named_references}
use Rattle.naga_ir.specs.References.{level_operands, operands, query_operands}
use Rattle.naga_ir.specs.declared.expression.Expression.{Expression}
use Rattle.naga_ir.specs.declared.expression.Expression.TheVariants as form
use Rattle.naga_ir.specs.declared.expression.ImageQuery.{ImageQuery}
use Rattle.naga_ir.specs.declared.reference.Reference.TheVariants as to
use Rattle.naga_info.specs.Surroundings.{IsReady, ExpressionSurroundings}

operands_of_sample : (s : Sample) → operands (expression_of s) ≡ s.image ∷ s.sampler ∷ s.coordinate ∷ option_to_list s.array_index ++ (option_to_list s.offset ++ (level_operands s.level ++ option_to_list s.depth_ref))
unfolding operands
operands_of_sample s = refl

operands_of_load : (image coordinate : ℕ) (array_index sample level : Option ℕ)
    → operands (form.ImageLoad image coordinate array_index sample level) ≡ image ∷ coordinate ∷ option_to_list array_index ++ (option_to_list sample ++ option_to_list level)
unfolding operands
operands_of_load image coordinate array_index sample level = refl

operands_of_query : (image : ℕ) (query : ImageQuery) → operands (form.ImageQuery image query) ≡ image ∷ query_operands query
unfolding operands
operands_of_query image query = refl

module _ (P : ℕ → Type 0) where
  -- what holds of the operands that an option is holds of its value
  pub if_there : (o : Option ℕ) → All P (option_to_list o) → IfSome o P
  if_there None all = tt
  if_there (Some e) all = all 0 e (omega arith)

  -- something holds of each operand of a sample
  pub record OfSample (s : Sample) : Type 0 where
    pub image : P s.image
    pub sampler : P s.sampler
    pub coordinate : P s.coordinate
    pub array_index : IfSome s.array_index P
    pub offset : IfSome s.offset P
    pub level : All P (level_operands s.level)
    pub depth_ref : IfSome s.depth_ref P

  -- if it holds of all operands
  pub known_of_sample : (s : Sample) → All P (operands (expression_of s)) → OfSample s
  known_of_sample s all =
      let given = subst (λ os. All P os) (operands_of_sample s) all in
      let after_three = all-right P (s.image ∷ s.sampler ∷ s.coordinate ∷ []) _ given in
      let after_layer = all-right P (option_to_list s.array_index) _ after_three in
      let after_offset = all-right P (option_to_list s.offset) _ after_layer in
      record {
        image = given 0 s.image (omega arith);
        sampler = given 1 s.image (omega arith);
        coordinate = given 2 s.image (omega arith);
        array_index = if_there s.array_index (all-left P (option_to_list s.array_index) _ after_three);
        offset = if_there s.offset (all-left P (option_to_list s.offset) _ after_layer);
        level = all-left P (level_operands s.level) _ after_offset;
        depth_ref = if_there s.depth_ref (all-right P (level_operands s.level) _ after_offset);
      }

  -- something holds of each operand of a load
  pub record OfLoad (image coordinate : ℕ) (array_index sample level : Option ℕ) : Type 0 where
    pub of_image : P image
    pub of_coordinate : P coordinate
    pub of_layer : IfSome array_index P
    pub of_sample : IfSome sample P
    pub of_level : IfSome level P

  pub known_of_load : (image coordinate : ℕ) (array_index sample level : Option ℕ) → All P (operands (form.ImageLoad image coordinate array_index sample level)) → OfLoad image coordinate array_index sample level
  known_of_load image coordinate array_index sample level all =
      let given = subst (λ os. All P os) (operands_of_load image coordinate array_index sample level) all in
      let after_two = all-right P (image ∷ coordinate ∷ []) _ given in
      let after_layer = all-right P (option_to_list array_index) _ after_two in
      record {
        of_image = given 0 image (omega arith);
        of_coordinate = given 1 image (omega arith);
        of_layer = if_there array_index (all-left P (option_to_list array_index) _ after_two);
        of_sample = if_there sample (all-left P (option_to_list sample) _ after_layer);
        of_level = if_there level (all-right P (option_to_list sample) _ after_layer);
      }

  -- something holds of each operand of a query
  pub known_of_query : (image : ℕ) (query : ImageQuery) → All P (operands (form.ImageQuery image query)) → P image × All P (query_operands query)
  known_of_query image query all =
      let given = subst (λ os. All P os) (operands_of_query image query) all in
      (given 0 image (omega arith), all-right P (image ∷ []) (query_operands query) given)

-- an operand can be looked up
pub looked_up : (s : ExpressionSurroundings) (root : ℕ) (x : Expression) (o : ℕ) → IsReady s root x → Contains (operands x) o → CanLookUp s o
looked_up s root x o can within = record {
  there =
      All-contains (Exists (function_counts s.«module» s.function)) (expression_references x) (to.Expression o) can.references
      (Contains-append_left (map to.Expression (operands x)) (named_references x) (to.Expression o) (contains-map to.Expression (operands x) o within));
  argument = λ i at. can.arguments o i (All-contains (λ o. o < root) (operands x) o can.before within) at;
}
