-- The reader of an expression's words returns the one expression with these words.
use Rattle.std.proofs.Common.{◌≡◌, ℕ, List, [], ◌∷◌, Some, refl, subst, codes}
use Rattle.std.proofs.lemmas.Option.{option_and_then_some, same_Some}
use Rattle.std.specs.List.{AllByRecursion}
use Rattle.naga_ir.specs.declared.expression.Expression.{Expression}
use Rattle.naga_ir.specs.declared.expression.Expression.TheVariants as expr
use Rattle.naga_text.specs.Forms.{Matches, expression_form, handle, never}
use Rattle.naga_text.specs.Tables.{binary_operators, chosen, unary_operators}
use Rattle.naga_text.specs.Words.{handle_of}
use Rattle.naga_text.specs.ExpressionReaders.{binary_of, compose_of, constant_expression_of, expression_of, expression_readers, literal_expression_of, literal_of, override_expression_of, splat_of, unary_of, zero_value_of}
use Rattle.naga_text.specs.WordForms.{Reader, read_each, size_of}
use Rattle.naga_text.proofs.EachLaws.{each_again, each_found}
use Rattle.naga_text.proofs.LiteralLaws.{literal_again, literal_found}
use Rattle.naga_text.proofs.PartLaws.{by_parts}
use Rattle.naga_text.proofs.TableLaws.{chosen_holds}
use Rattle.naga_text.proofs.WordLaws.{size_again, size_found}

-- what a reader reads of the words after a keyword has its expression's form
abbrev HasForm : List ℕ → Reader Expression → Type 0
HasForm keyword reader = (ws : List (List ℕ)) (x : Expression) → reader ws ≡ Some x → Matches (expression_form x) (keyword ∷ ws)

literal_expression_found : HasForm (codes "lit") literal_expression_of
literal_expression_found (t ∷ v ∷ []) x h =
    option_and_then_some _ (literal_of t v) x h λ literal e h.
    subst (λ x. Matches (expression_form x) (codes "lit" ∷ t ∷ v ∷ [])) (same_Some (expr.Literal literal) x h) (refl, literal_found t v literal e)
literal_expression_found _ x h = cc

constant_expression_found : HasForm (codes "const") constant_expression_of
constant_expression_found (c ∷ []) x h =
    option_and_then_some _ (handle_of c) x h λ constant e h.
    subst (λ x. Matches (expression_form x) (codes "const" ∷ c ∷ [])) (same_Some (expr.Constant constant) x h) (refl, (e, tt))
constant_expression_found _ x h = cc

override_expression_found : HasForm (codes "override") override_expression_of
override_expression_found (o ∷ []) x h =
    option_and_then_some _ (handle_of o) x h λ id e h.
    subst (λ x. Matches (expression_form x) (codes "override" ∷ o ∷ [])) (same_Some (expr.Override id) x h) (refl, (e, tt))
override_expression_found _ x h = cc

zero_value_found : HasForm (codes "zero") zero_value_of
zero_value_found (t ∷ []) x h =
    option_and_then_some _ (handle_of t) x h λ ty e h.
    subst (λ x. Matches (expression_form x) (codes "zero" ∷ t ∷ [])) (same_Some (expr.ZeroValue ty) x h) (refl, (e, tt))
zero_value_found _ x h = cc

compose_found : HasForm (codes "compose") compose_of
compose_found [] x h = cc
compose_found (t ∷ ws) x h =
    option_and_then_some _ (handle_of t) x h λ ty e h.
    option_and_then_some _ (read_each handle_of ws) x h λ components f h.
    subst (λ x. Matches (expression_form x) (codes "compose" ∷ t ∷ ws)) (same_Some (expr.Compose ty components) x h) (refl, (e, each_found handle_of handle (λ w index g. g) ws components f))

splat_found : HasForm (codes "splat") splat_of
splat_found (n ∷ v ∷ []) x h =
    option_and_then_some _ (size_of n) x h λ size e h.
    option_and_then_some _ (handle_of v) x h λ value f h.
    subst (λ x. Matches (expression_form x) (codes "splat" ∷ n ∷ v ∷ [])) (same_Some (expr.Splat size value) x h) (refl, (size_found n size e, (f, tt)))
splat_found _ x h = cc

unary_found : HasForm (codes "unary") unary_of
unary_found (o ∷ v ∷ []) x h =
    option_and_then_some _ (chosen unary_operators o) x h λ op e h.
    option_and_then_some _ (handle_of v) x h λ value f h.
    subst (λ x. Matches (expression_form x) (codes "unary" ∷ o ∷ v ∷ [])) (same_Some (expr.Unary op value) x h) (refl, (e, (f, tt)))
unary_found _ x h = cc

binary_found : HasForm (codes "binary") binary_of
binary_found (o ∷ l ∷ r ∷ []) x h =
    option_and_then_some _ (chosen binary_operators o) x h λ op e h.
    option_and_then_some _ (handle_of l) x h λ left f h.
    option_and_then_some _ (handle_of r) x h λ right g h.
    subst (λ x. Matches (expression_form x) (codes "binary" ∷ o ∷ l ∷ r ∷ [])) (same_Some (expr.Binary op left right) x h) (refl, (e, (f, (g, tt))))
binary_found _ x h = cc

-- what is read of the words after `expr` has its expression's form
pub expression_found : (ws : List (List ℕ)) (x : Expression) → expression_of ws ≡ Some x → Matches (expression_form x) ws
expression_found [] x h = cc
expression_found (form ∷ ws) x h =
    option_and_then_some _ (chosen expression_readers form) x h λ reader e h.
    let each_row : AllByRecursion (λ row. HasForm row.0 row.1) expression_readers = (
      compose_found,
      (literal_expression_found, (constant_expression_found, (override_expression_found, (zero_value_found, (splat_found, (unary_found, (binary_found, tt))))))),
    ) in
    chosen_holds HasForm expression_readers form reader each_row e ws x h

-- no words fill the parts of an expression that can't be written
none_fill : (ws : List (List ℕ)) → ¬ (Matches (never ∷ []) ws)
none_fill [] h = h
none_fill (w ∷ ws) h = h.0

-- words of an expression's form are read as that expression
pub expression_again : (ws : List (List ℕ)) (x : Expression) → Matches (expression_form x) ws → expression_of ws ≡ Some x
expression_again [] (expr.Literal value) h = absurd h
expression_again (a ∷ ws) (expr.Literal value) h = rw (h.0, literal_again ws value h.1) refl
expression_again ws (expr.Constant constant) h = by_parts (expression_form (expr.Constant constant)) ws (λ ws. expression_of ws ≡ Some (expr.Constant constant)) h
    (λ a e c f. rw (e, f) refl)
expression_again ws (expr.Override id) h = by_parts (expression_form (expr.Override id)) ws (λ ws. expression_of ws ≡ Some (expr.Override id)) h
    (λ a e o f. rw (e, f) refl)
expression_again ws (expr.ZeroValue ty) h = by_parts (expression_form (expr.ZeroValue ty)) ws (λ ws. expression_of ws ≡ Some (expr.ZeroValue ty)) h
    (λ a e t f. rw (e, f) refl)
expression_again [] (expr.Compose ty components) h = absurd h
expression_again (a ∷ []) (expr.Compose ty components) h = absurd h.1
expression_again (a ∷ t ∷ ws) (expr.Compose ty components) h = rw (h.0, h.1.0, each_again handle_of handle (λ w index e. e) ws components h.1.1) refl
expression_again ws (expr.Splat size value) h = by_parts (expression_form (expr.Splat size value)) ws (λ ws. expression_of ws ≡ Some (expr.Splat size value)) h
    (λ a e n f v g. rw (e, size_again n size f, g) refl)
expression_again ws (expr.Unary op value) h = by_parts (expression_form (expr.Unary op value)) ws (λ ws. expression_of ws ≡ Some (expr.Unary op value)) h
    (λ a e o f v g. rw (e, f, g) refl)
expression_again ws (expr.Binary op left right) h = by_parts (expression_form (expr.Binary op left right)) ws (λ ws. expression_of ws ≡ Some (expr.Binary op left right)) h
    (λ a e o f l g r i. rw (e, f, g, i) refl)
expression_again ws (expr.Access base index) h = absurd (none_fill ws h)
expression_again ws (expr.AccessIndex base index) h = absurd (none_fill ws h)
expression_again ws (expr.Swizzle size vector pattern) h = absurd (none_fill ws h)
expression_again ws (expr.FunctionArgument index) h = absurd (none_fill ws h)
expression_again ws (expr.GlobalVariable variable) h = absurd (none_fill ws h)
expression_again ws (expr.LocalVariable variable) h = absurd (none_fill ws h)
expression_again ws (expr.Load pointer) h = absurd (none_fill ws h)
expression_again ws (expr.ImageSample image sampler gather coordinate array_index offset level depth_ref clamp_to_edge) h = absurd (none_fill ws h)
expression_again ws (expr.ImageLoad image coordinate array_index sample level) h = absurd (none_fill ws h)
expression_again ws (expr.ImageQuery image query) h = absurd (none_fill ws h)
expression_again ws (expr.Select condition accept reject) h = absurd (none_fill ws h)
expression_again ws (expr.Derivative value) h = absurd (none_fill ws h)
expression_again ws (expr.Relational fun argument) h = absurd (none_fill ws h)
expression_again ws (expr.Math fun arg arg1 arg2 arg3) h = absurd (none_fill ws h)
expression_again ws (expr.As value kind convert) h = absurd (none_fill ws h)
expression_again ws (expr.CallResult function) h = absurd (none_fill ws h)
expression_again ws (expr.AtomicResult ty comparison) h = absurd (none_fill ws h)
expression_again ws (expr.WorkGroupUniformLoadResult ty) h = absurd (none_fill ws h)
expression_again ws (expr.ArrayLength pointer) h = absurd (none_fill ws h)
expression_again ws expr.RayQueryProceedResult h = absurd (none_fill ws h)
expression_again ws (expr.RayQueryGetIntersection query committed) h = absurd (none_fill ws h)
expression_again ws (expr.RayQueryVertexPositions query committed) h = absurd (none_fill ws h)
expression_again ws expr.SubgroupBallotResult h = absurd (none_fill ws h)
expression_again ws (expr.SubgroupOperationResult ty) h = absurd (none_fill ws h)
expression_again ws (expr.CooperativeLoad shape pointer stride) h = absurd (none_fill ws h)
expression_again ws (expr.CooperativeMultiplyAdd a b c) h = absurd (none_fill ws h)
