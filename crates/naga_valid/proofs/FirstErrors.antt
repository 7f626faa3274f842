-- The first error of two lists of results is the first error of one of them.
use Rattle.std.proofs.Common.{◌≡◌, ◌+◌, ℕ, suc, List, [], ◌∷◌, ◌++◌, Result, All, IsOk, length, slice_get, take, sym, ap, subst, ◌∙◌, arith}
use Rattle.std.proofs.Math.Seq.{take-append-add}
use Rattle.std.proofs.lemmas.List.{take-append-le}
use Rattle.std.proofs.lemmas.List.Elements.{All-append}
use Rattle.std.proofs.lemmas.Option.{slice_get_within}
use Rattle.naga_arena.proofs.InOrder.{get_stays}
use Rattle.naga_valid.specs.declared.error.ValidationError.{ValidationError}
use Rattle.naga_valid.specs.steps.KnownValues.{IsFirstValueError}

-- an item of the second list follows all of the first
in-second : {A : Type 0} (xs ys : List A) (n : ℕ) → slice_get (xs ++ ys) (length xs + n) ≡ slice_get ys n
in-second [] ys n = let here : 0 + n ≡ n = omega arith in ap (slice_get ys) here
in-second (x ∷ xs) ys n = let here : suc (length xs) + n ≡ suc (length xs + n) = omega arith in ap (slice_get (x ∷ xs ++ ys)) here ∙ in-second xs ys n

module _ (first second : List (Result (Unit {0}) ValidationError)) (e : ValidationError) where
  -- an error of the first list
  pub error-in-first : IsFirstValueError first e → IsFirstValueError (first ++ second) e
  error-in-first (place, r) =
      let within = slice_get_within first place _ r.refused in
      (place, record { refused = get_stays first second place within ∙ r.refused; accepted_before = subst (All IsOk) (sym (take-append-le place first second (omega (arith, within)))) r.accepted_before })

  -- an error of the second, if the first has none
  pub error-in-second : All IsOk first → IsFirstValueError second e → IsFirstValueError (first ++ second) e
  error-in-second ok (place, r) = (
    length first + place,
    record {
      refused = in-second first second place ∙ r.refused;
      accepted_before = subst (All IsOk) (sym (take-append-add first second place)) (All-append IsOk first (take place second) ok r.accepted_before);
    },
  )
