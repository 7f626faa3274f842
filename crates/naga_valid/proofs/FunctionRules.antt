-- Asking the rules of a function's expressions in order, and what follows from what they say.
use Rattle.std.proofs.Common.{◌≡◌, ◌⊎◌, ◌<◌, ◌≤◌, ◌∙◌, ⊎_elim, ℕ, All, Contains, List, [], ◌∷◌, ◌++◌, Option, Some, None, Result, Ok, Err, inl, inr, length, slice_get, take, refl, sym, ap, subst, arith, length-append}
use Rattle.std.specs.List.{enumerate_from}
use Rattle.std.specs.Prelude.{bit_and, fold, map, option_map}
use Rattle.std.proofs.Math.Nat.{eq-or-lt_of_le}
use Rattle.std.proofs.lemmas.List.{length-take-le, map-append}
use Rattle.std.proofs.lemmas.List.Elements.{All-contains, All-nil}
use Rattle.std.proofs.lemmas.List.Sums.{fold-append}
use Rattle.std.proofs.lemmas.Option.{same_Some, slice_get_within}
use Rattle.naga_arena.proofs.Elements.{all-of}
use Rattle.naga_arena.proofs.InOrder.{accepted_once, found_at, get_before, get_stays, refused_not_accepted}
use Rattle.naga_arena.proofs.Progress.{slice_get-seam}
use Rattle.naga_arena.specs.InOrder.{FollowInOrder, IsFirstErrorInOrder, given_at}
use Rattle.naga_exprs.specs.ExpressionRule.{IsExpressionResult, IsRule}
use Rattle.naga_flags.specs.Bits.{all_stages}
use Rattle.naga_flags.specs.declared.flags.ShaderStages.{ShaderStages}
use Rattle.naga_info.specs.FunctionTypes.{AreFunctionTypes, AreTypesBefore, IsUntyped, function_resolves, type_in_order, type_of_argument}
use Rattle.naga_info.specs.declared.module_info.FunctionInfo.{FunctionInfo}
use Rattle.naga_ir.proofs.ReferencesOfItems.{within_all}
use Rattle.naga_ir.specs.Handles.{Exists, function_counts, own_operand}
use Rattle.naga_ir.specs.ItemReferences.{expression_references}
use Rattle.naga_ir.specs.References.{operands}
use Rattle.naga_ir.specs.declared.expression.Expression.{Expression}
use Rattle.naga_ir.specs.declared.expression.Expression.TheVariants as form
use Rattle.naga_ir.specs.declared.ir.Function.{Function}
use Rattle.naga_ir.specs.declared.ir.FunctionArgument.{FunctionArgument}
use Rattle.naga_ir.specs.declared.ir.Module.{Module}
use Rattle.naga_info.specs.Results.{IsRuleResult}
use Rattle.naga_info.specs.Surroundings.{IsReady, kind_operands}
use Rattle.naga_info.proofs.KindOperands.{of_kind_operands}
use Rattle.naga_exprs.proofs.KindLaws.{any_kinds}
use Rattle.naga_typing.proofs.ExpressionKinds.{kinds_exist}
use Rattle.naga_info.specs.declared.expression_error.ExpressionError.{ExpressionError}
use Rattle.naga_info.specs.declared.expression_error.ExpressionError.TheVariants as refusal
use Rattle.naga_typing.proofs.Iteration.{Iterating, accepts_all, all_counted, begin, next_index, next_item, one_more}
use Rattle.naga_typing.specs.Kinds.{AreKinds, kind_in_order}
use Rattle.naga_typing.specs.Typings.{Resolves}
use Rattle.naga_typing.specs.declared.expression_kind.ExpressionKind.{ExpressionKind}
use Rattle.naga_typing.specs.declared.typifier.ResolveError.{ResolveError}
use Rattle.naga_typing.specs.declared.typifier.TypeResolution.{TypeResolution}
use Rattle.naga_valid.proofs.Meanings.{allows, not_both, refuses}
use Rattle.naga_valid.specs.Functions.{AreTypesReached, FunctionSurroundings, IsFirstUntyped, IsFunctionAccepted, IsRuleAt, KeepRules, RefusesFunction, breaks_rule, common_stages, has_no_type, expression_surroundings}
use Rattle.naga_valid.specs.declared.function.FunctionError.{FunctionError}
use Rattle.naga_valid.specs.declared.function.FunctionError.TheVariants.{Expression as Expression_, OutOfMemory}
use Rattle.naga_valid.specs.steps.Functions.{AllowInCommon, CanCheckRules, IsFirstBreach, IsFirstBreachAs, SufficeFor}

-- an argument that has a type exists
argument_there : (arguments : List FunctionArgument) (i : ℕ) (found : Option FunctionArgument) (ty : TypeResolution) → slice_get arguments i ≡ found → type_of_argument found ≡ Ok ty → i < length arguments
argument_there arguments i None ty at is = absurd (cc is)
argument_there arguments i (Some a) ty at is = slice_get_within arguments i a at

module _ (resolves : Resolves) (m : Module) (f : Function) where
  resolved_argument : (i : ℕ) (earlier : List TypeResolution) → function_resolves resolves m f (form.FunctionArgument i) earlier ≡ type_of_argument (slice_get f.arguments i)
  unfolding function_resolves
  resolved_argument i earlier = refl

  same_given : (a b : Result TypeResolution ResolveError) → Some a ≡ Some b → a ≡ b
  same_given a b e = same_Some a b e

  -- the arguments that typed expressions name exist
  pub typed_arguments_exist : (types : List TypeResolution) → FollowInOrder (type_in_order resolves m f) f.expressions types
      → (e i : ℕ) → e < length types → slice_get f.expressions e ≡ Some (form.FunctionArgument i) → i < length f.arguments
  typed_arguments_exist types follow e i within there =
      let ty = found_at types e within in
      let given : given_at (type_in_order resolves m f) f.expressions (take e types) e ≡ Some (function_resolves resolves m f (form.FunctionArgument i) (take e types)) =
      ap (option_map (type_in_order resolves m f (take e types) e)) there in
      let is = same_given _ _ (sym given ∙ follow e ty.0 ty.1) in
      argument_there f.arguments i (slice_get f.arguments i) ty.0 refl (sym (resolved_argument i (take e types)) ∙ is)

module _ (s : FunctionSurroundings) where
  abbrev m : Module
  m = s.«module»

  abbrev f : Function
  f = s.function

  -- the types that are reached follow from one another
  follows : (types : List TypeResolution) → AreTypesReached s types → FollowInOrder (type_in_order s.resolves m f) f.expressions types
  follows types (inl all) = all.follow
  follows types (inr part) = part.1.0.follow

  -- an expression up to the first without a type can be validated
  pub ready_next : (types : List TypeResolution) (kinds : List ExpressionKind) (place : ℕ) (x : Expression)
      → CanCheckRules s types → SufficeFor f.expressions x kinds → slice_get f.expressions place ≡ Some x → place ≤ length types → IsReady (expression_surroundings s types kinds) place x
  ready_next types kinds place x can suffice at typed =
      let earlier : (o : ℕ) → Contains (operands x) o → o < place = λ o names. can.in_function.back _ _ (own_operand place o x at names) in
      let within = slice_get_within f.expressions place x at in
      record {
        sound = record { handles = can.handles; in_function = can.in_function; types_exist = can.exist; flags = can.flags };
        references = all-of (Exists (function_counts m f)) (expression_references x) (λ r names. All-contains (Exists (function_counts m f)) _ r can.in_function.expressions (within_all expression_references f.expressions place x r at names));
        before = all-of (λ o. o < place) (operands x) earlier;
        typed = all-of (λ o. o < length types) (operands x) (λ o names. omega (arith, earlier o names, typed));
        kinds =
            ⊎_elim
            (λ (none : kind_operands x ≡ []). subst (All (λ o. o < length kinds)) (sym none) (All-nil (λ o. o < length kinds)))
            (λ (are : AreKinds f.expressions kinds). of_kind_operands (λ o. o < length kinds) x (all-of (λ o. o < length kinds) (operands x) (λ o names. omega (arith, earlier o names, within, are.as_many))))
            suffice;
        arguments = λ e i before there. typed_arguments_exist s.resolves m f types (follows types can.reached) e i (omega (arith, before, typed)) there;
        called = λ called is. can.calls place called (at ∙ ap Some is);
      }

  -- the expressions so far keep their rules and have these stages in common, and these are left
  pub record Asked (types : List TypeResolution) (common : ShaderStages) (left : List (ℕ × Expression)) : Type 0 where
    stages : List ShaderStages
    iterating : Iterating accepts_all f.expressions (length stages) left
    rules : KeepRules s types stages
    are_common : common ≡ common_stages stages

  none_kept : (types : List TypeResolution) → KeepRules s types []
  none_kept types place allowed at = absurd (omega (arith, slice_get_within [] place allowed at))

  pub none_asked : (types : List TypeResolution) (common : ShaderStages) (left : List (ℕ × Expression)) → common ≡ record { 0 = all_stages } → left ≡ enumerate_from 0 f.expressions → Asked types common left
  none_asked types common left all whole = record { stages = []; iterating = begin accepts_all f.expressions left whole; rules = none_kept types; are_common = all }

  -- one more keeps its rule
  one_more_kept : (types : List TypeResolution) (stages : List ShaderStages) (allowed : ShaderStages) → KeepRules s types stages → IsRuleAt s types (length stages) (Ok allowed) → KeepRules s types (stages ++ allowed ∷ [])
  one_more_kept types stages allowed rules one k found at =
      let reached : k ≤ length stages = omega (arith, slice_get_within (stages ++ allowed ∷ []) k found at, length-append stages (allowed ∷ [])) in
      ⊎_elim
      (λ (e : k ≡ length stages).
      let same : allowed ≡ found = same_Some allowed found (sym (slice_get-seam stages [] allowed) ∙ ap (slice_get (stages ++ allowed ∷ [])) (sym e) ∙ at) in
      subst (λ (st : ShaderStages). IsRuleAt s types k (Ok st)) same (subst (λ n. IsRuleAt s types n (Ok allowed)) (sym e) one))
      (λ (before : k < length stages). rules k found (sym (get_stays stages (allowed ∷ []) k before) ∙ at))
      (eq-or-lt_of_le reached)

  bits : ShaderStages → ℕ
  bits stages = stages.0

  one_more_common : (stages : List ShaderStages) (allowed : ShaderStages) → common_stages (stages ++ allowed ∷ []) ≡ record { 0 = bit_and (common_stages stages).0 allowed.0 }
  one_more_common stages allowed =
      let of : ShaderStages → ℕ = λ st. st.0 in
      let as_stages : ℕ → ShaderStages = λ n. record { 0 = n } in
      ap as_stages (ap (fold bit_and all_stages) (map-append of stages (allowed ∷ [])) ∙ fold-append bit_and all_stages (map of stages) (allowed.0 ∷ []))

  module _ (types : List TypeResolution) (common : ShaderStages) (left : List (ℕ × Expression)) (n : ℕ) (x : Expression) (more : List (ℕ × Expression)) (w : Asked types common left) (e : left ≡ (n, x) ∷ more) where
    -- the next expression is the one of the index that it comes with
    pub next_there : slice_get f.expressions n ≡ Some x
    next_there = next_item accepts_all f.expressions (length w.stages) left n x more w.iterating e

    next_place : n ≡ length w.stages
    next_place = next_index accepts_all f.expressions (length w.stages) left n x more w.iterating e

    -- the next expression keeps its rule
    pub one_allowed : (allowed now : ShaderStages) → IsRuleAt s types n (Ok allowed) → now.0 ≡ bit_and common.0 allowed.0 → Asked types now more
    one_allowed allowed now meant is =
        let as_stages : ℕ → ShaderStages = λ n. record { 0 = n } in
        let of : ShaderStages → ℕ = λ st. st.0 in
        record {
          stages = w.stages ++ allowed ∷ [];
          iterating = subst (λ k. Iterating accepts_all f.expressions k more) (sym (length-append w.stages (allowed ∷ []))) (one_more accepts_all f.expressions (length w.stages) left n x more w.iterating e refl);
          rules = one_more_kept types w.stages allowed w.rules (subst (λ k. IsRuleAt s types k (Ok allowed)) next_place meant);
          are_common = ap as_stages (is ∙ ap (λ k. bit_and k allowed.0) (ap of w.are_common)) ∙ sym (one_more_common w.stages allowed);
        }

    -- the next expression is the first that breaks its rule
    pub one_breach : (source : ExpressionError) → n ≤ length types → IsRuleAt s types n (Err source) → IsFirstBreach s types n source
    one_breach source typed meant = record { typed = typed; before = w.stages; as_many = sym next_place; rules = w.rules; broken = meant }

    -- all expressions up to it have been validated, and one of them has no type
    pub enough_asked : length types < n → AllowInCommon s types common
    enough_asked beyond = record { stages = w.stages; enough = inr (subst (λ k. length types < k) next_place beyond); rules = w.rules; are_common = w.are_common }

  -- no expression is left
  pub all_asked : (types : List TypeResolution) (common : ShaderStages) (left : List (ℕ × Expression)) → Asked types common left → left ≡ [] → AllowInCommon s types common
  all_asked types common left w none = record { stages = w.stages; enough = inl (all_counted accepts_all f.expressions (length w.stages) left w.iterating none); rules = w.rules; are_common = w.are_common }

  -- what a call returns that isn't out of memory is what is meant
  meant_allowed : (meant : Result ShaderStages ExpressionError) (allowed : ShaderStages) → IsRuleResult meant (allows allowed) → meant ≡ allows allowed
  meant_allowed meant allowed (inl is) = sym is
  meant_allowed meant allowed (inr lacks) = absurd (cc lacks.0)

  meant_refused : (meant : Result ShaderStages ExpressionError) (source : ExpressionError) → (source ≡ refusal.OutOfMemory → ⊥) → IsRuleResult meant (refuses source) → meant ≡ refuses source
  meant_refused meant source other (inl is) = sym is
  meant_refused meant source other (inr lacks) = absurd (other (same_error source refusal.OutOfMemory lacks.0))
    where
      same_error : (a b : ExpressionError) → refuses a ≡ refuses b → a ≡ b
      same_error a b e = cc e

  module _ (types : List TypeResolution) (kinds : List ExpressionKind) (place : ℕ) (x : Expression) (suffice : SufficeFor f.expressions x kinds) (at : slice_get f.expressions place ≡ Some x) where
    pub at_place : (meant : Result ShaderStages ExpressionError) → IsRule s.math (expression_surroundings s types kinds) x meant → IsRuleAt s types place meant
    at_place meant is =
        ⊎_elim
        (λ (none : kind_operands x ≡ []).
        let all = kinds_exist f.expressions in
        (x, all.0, at, all.1, any_kinds (expression_surroundings s types kinds) all.0 s.math x meant none is))
        (λ (are : AreKinds f.expressions kinds). (x, kinds, at, are, is))
        suffice

    -- a call says what the rule of the expression at a place says
    pub allowed_at : (allowed : ShaderStages) → IsExpressionResult s.math (expression_surroundings s types kinds) x (allows allowed) → IsRuleAt s types place (allows allowed)
    allowed_at allowed h = subst (IsRuleAt s types place) (meant_allowed h.0 allowed h.2) (at_place h.0 h.1)

    pub refused_at : (source : ExpressionError) → (source ≡ refusal.OutOfMemory → ⊥) → IsExpressionResult s.math (expression_surroundings s types kinds) x (refuses source) → IsRuleAt s types place (refuses source)
    refused_at source other h = subst (IsRuleAt s types place) (meant_refused h.0 source other h.2) (at_place h.0 h.1)

  -- a place has one meaning at most: the rule there doesn't both allow and refuse
  not_both_at : (types : List TypeResolution) (place : ℕ) (allowed : ShaderStages) (source : ExpressionError) → IsRuleAt s types place (allows allowed) → IsRuleAt s types place (refuses source) → ⊥
  not_both_at types place allowed source a b =
      let kinds = accepted_once kind_in_order f.expressions a.1 b.1 a.3 b.3 in
      let same : a.0 ≡ b.0 = same_Some a.0 b.0 (sym a.2 ∙ b.2) in
      not_both allowed source (expression_surroundings s types b.1) s.math b.0
      (subst (λ (x : Expression). IsRule s.math (expression_surroundings s types b.1) x (allows allowed)) same (subst (λ (k : List ExpressionKind). IsRule s.math (expression_surroundings s types k) a.0 (allows allowed)) kinds a.4))
      b.4

  -- if an expression has no type, the function isn't accepted
  untyped_not_accepted : (types : List TypeResolution) (error : ResolveError) → IsFirstUntyped s types error → (info : FunctionInfo) → IsFunctionAccepted s info → ⊥
  untyped_not_accepted types error untyped info accepted =
      let before = untyped.0 in
      let refusal : IsFirstErrorInOrder (type_in_order s.resolves m f) f.expressions (length types) error = record { before = types; as_many = refl; follow = before.follow; refused = untyped.1 } in
      refused_not_accepted (type_in_order s.resolves m f) f.expressions info.types (length types) error refusal accepted.types

  -- if an expression breaks its rule, the function isn't accepted
  breach_not_accepted : (types : List TypeResolution) (place : ℕ) (source : ExpressionError) → AreFunctionTypes s.resolves m f types → IsRuleAt s types place (refuses source) → (info : FunctionInfo) → IsFunctionAccepted s info → ⊥
  breach_not_accepted types place source all broken info accepted =
      let same = accepted_once (type_in_order s.resolves m f) f.expressions info.types types accepted.types all in
      let there = found_at accepted.stages place (omega (arith, accepted.as_many, slice_get_within f.expressions place broken.0 broken.2)) in
      not_both_at types place there.0 source (subst (λ (t : List TypeResolution). IsRuleAt s t place (allows there.0)) same (accepted.rules place there.0 there.1)) broken

  reached_breach : (types : List TypeResolution) (place : ℕ) (source : ExpressionError) → AreTypesReached s types → IsRuleAt s types place (refuses source) → (info : FunctionInfo) → IsFunctionAccepted s info → ⊥
  reached_breach types place source (inl all) broken = breach_not_accepted types place source all broken
  reached_breach types place source (inr part) broken = untyped_not_accepted types part.0 part.1

  -- the first expression that breaks its rule refuses the function
  pub breach_refuses : (types : List TypeResolution) (place : ℕ) (source : ExpressionError) → AreTypesReached s types → IsFirstBreach s types place source → RefusesFunction s (Expression_ place source)
  breach_refuses types place source reached first = (
    record {
      types = types;
      reached = reached;
      typed = first.typed;
      before = first.before;
      as_many = first.as_many;
      rules = first.rules;
      refused = breaks_rule source first.broken;
    },
    reached_breach types place source reached first.broken,
  )

  -- all expressions have types and keep their rules, so the function is accepted
  pub all_accepted : (info : FunctionInfo) → AreFunctionTypes s.resolves m f info.types → AllowInCommon s info.types info.available_stages → IsFunctionAccepted s info
  all_accepted info types allow = record { types = types; stages = allow.stages; as_many = counted allow.enough; rules = allow.rules; common = allow.are_common }
    where
      counted : (length allow.stages ≡ length f.expressions) ⊎ (length info.types < length allow.stages) → length allow.stages ≡ length f.expressions
      counted (inl same) = same
      counted (inr beyond) =
          let last = found_at allow.stages (length info.types) beyond in
          let meant = allow.rules (length info.types) last.0 last.1 in
          absurd (omega (arith, slice_get_within f.expressions (length info.types) meant.0 meant.2, types.as_many))

  -- the error of the first expression that breaks its rule refuses the function
  pub breach_as_refuses : (types : List TypeResolution) (e : FunctionError) → AreTypesReached s types → IsFirstBreachAs s types e → RefusesFunction s e
  breach_as_refuses types (Expression_ place source) reached first = breach_refuses types place source reached first
  breach_as_refuses types OutOfMemory reached first = absurd first

  pub first_untyped : (types : List TypeResolution) (place : ℕ) (error : ResolveError) → AreTypesBefore s.resolves m f place types → IsUntyped s.resolves m f place types error → IsFirstUntyped s types error
  first_untyped types place error before untyped = subst (λ n. AreTypesBefore s.resolves m f n types × IsUntyped s.resolves m f n types error) (sym before.as_many) (before, untyped)

  -- the first expressions of some that keep their rules
  fewer_kept : (types : List TypeResolution) (stages : List ShaderStages) (n : ℕ) → n ≤ length stages → KeepRules s types stages → KeepRules s types (take n stages)
  fewer_kept types stages n within rules place allowed at =
      let before : place < n = omega (arith, slice_get_within (take n stages) place allowed at, length-take-le n stages within) in
      rules place allowed (sym (get_before stages n place before) ∙ at)

  -- the first expression without a type refuses the function, if it and all before it keep their rules
  pub untyped_refuses : (types : List TypeResolution) (place : ℕ) (error : ResolveError) (common : ShaderStages)
      → length types ≡ place → IsFirstUntyped s types error → AllowInCommon s types common → RefusesFunction s (Expression_ place (refusal.Type_ error))
  untyped_refuses types place error common same untyped allow = (
    record {
      types = types;
      reached = inr (error, untyped);
      typed = omega (arith, same);
      before = take (length types) allow.stages;
      as_many = length-take-le (length types) allow.stages (omega (arith, within)) ∙ same;
      rules = fewer_kept types allow.stages (length types) (omega (arith, within)) allow.rules;
      refused = has_no_type last.0 error (subst (λ n. IsRuleAt s types n (allows last.0)) same (allow.rules (length types) last.0 last.1)) same untyped;
    },
    untyped_not_accepted types error untyped,
  )
    where
      asked : (length allow.stages ≡ length f.expressions) ⊎ (length types < length allow.stages) → length types < length allow.stages
      asked (inl all) = omega (arith, all, untyped.0.within)
      asked (inr beyond) = beyond

      within : length types < length allow.stages
      within = asked allow.enough

      last : (st : ShaderStages) × (slice_get allow.stages (length types) ≡ Some st)
      last = found_at allow.stages (length types) within
