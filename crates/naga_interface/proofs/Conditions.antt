-- Conditions, one after another.
use Rattle.std.proofs.Common.{◌≡◌, List, [], ◌∷◌, Option, Some, None, inl, inr, refl, sym, ap}
use Rattle.std.specs.Prelude.{Ok, Err, Result}
use Rattle.naga_arena.specs.Results.{IsResultOf}
use Rattle.naga_types.specs.Checks.{first_error_or, ok_unless}

-- a result with nothing but an error
abbrev pub Outcome : Type 0 → Type 0
Outcome E = Result (Unit {0}) E

-- nothing is refused
abbrev pub accepted : {E : Type 0} → Outcome E
accepted = Ok tt

-- nothing is refused, unless there is an error
abbrev pub unless : {E : Type 0} → Option E → Outcome E
unless o = ok_unless o tt

-- nothing is refused, unless one of the conditions is broken
abbrev pub by_first : {E : Type 0} → List (Option E) → Outcome E
by_first conditions = first_error_or conditions tt

-- what is accepted breaks no condition
pub kept : {E : Type 0} (o : Option E) → accepted ≡ unless o → o ≡ None
kept None h = refl
kept (Some e) h = cc h

-- a refusal is the condition that is broken
pub broken : {E : Type 0} (o : Option E) (e : E) → Err e ≡ unless o → o ≡ Some e
broken None e h = cc h
broken (Some x) e h = cc h

-- after a condition that is kept the others decide
pub kept_then : {E : Type 0} (o : Option E) (rest : List (Option E)) (r : Outcome E) → o ≡ None → r ≡ by_first rest → r ≡ by_first (o ∷ rest)
kept_then None rest r none h = h
kept_then (Some x) rest r none h = cc none

-- a condition that is broken decides
pub broken_here : {E : Type 0} (o : Option E) (rest : List (Option E)) (e : E) → Err e ≡ unless o → Err e ≡ by_first (o ∷ rest)
broken_here None rest e h = cc h
broken_here (Some x) rest e h = h

-- the last condition decides
pub at_last : {E : Type 0} (o : Option E) (r : Outcome E) → r ≡ unless o → r ≡ by_first (o ∷ [])
at_last None r h = h
at_last (Some x) r h = h

-- a call returns what the conditions say, or that memory was refused, which happens only if `P`
module _ {E : Type 0} (P : Type 0) (refused : E) where
  abbrev pub IsAnswer : Outcome E → Outcome E → Type 0
  IsAnswer rule r = IsResultOf (λ _. P) refused rule r

  -- what is accepted breaks no condition
  pub kept_or : (o : Option E) → IsAnswer (unless o) accepted → o ≡ None
  kept_or o (inl h) = kept o h
  kept_or o (inr h) = cc (h.0)

  -- after a condition that is kept the others decide
  pub kept_then_or : (o : Option E) (rest : List (Option E)) (r : Outcome E) → o ≡ None → IsAnswer (by_first rest) r → IsAnswer (by_first (o ∷ rest)) r
  kept_then_or o rest r none (inl h) = inl (kept_then o rest r none h)
  kept_then_or o rest r none (inr h) = inr h

  -- a condition that is broken decides
  pub broken_here_or : (o : Option E) (rest : List (Option E)) (e : E) → IsAnswer (unless o) (Err e) → IsAnswer (by_first (o ∷ rest)) (Err e)
  broken_here_or o rest e (inl h) = inl (broken_here o rest e h)
  broken_here_or o rest e (inr h) = inr h

-- if memory may be refused in more cases, what was returned still may be
pub more_cases : {E : Type 0} (P Q : Type 0) (refused : E) (rule r : Outcome E) → (P → Q) → IsResultOf (λ _. P) refused rule r → IsResultOf (λ _. Q) refused rule r
more_cases P Q refused rule r f (inl h) = inl h
more_cases P Q refused rule r f (inr h) = inr (h.0, f h.1)

-- what is returned for one item, whose error is the first of all, is returned for all
pub answer_of_first : {E : Type 0} (P Q : Type 0) (refused e : E) (o total : Option E) → ((x : E) → o ≡ Some x → total ≡ Some x) → (P → Q) → IsResultOf (λ _. P) refused (unless o) (Err e) → IsResultOf (λ _. Q) refused (unless total) (Err e)
answer_of_first {E = E} P Q refused e o total first_is more (inl h) = inl (sym (ap (λ (x : Option E). unless x) (first_is e (broken o e h))))
answer_of_first P Q refused e o total first_is more (inr h) = inr (h.0, more h.1)
