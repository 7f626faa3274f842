-- What a caller learns of items that were checked one after another.
use Rattle.std.proofs.Common.{arith, List, ◌∷◌, refl, subst, sym}
use Rattle.std.specs.Prelude.{Result, Ok, Err, All, Contains, IfErr, OnOk}
use Rattle.std.proofs.lemmas.List.Elements.{All-weaker, Contains-append_right}
use Rattle.naga_ir.specs.FirstError.{ChecksEach}

-- what follows of an item that is accepted holds of all
pub all-from-checks : {A E : Type 0} {check : A → Result (Unit {0}) E → Type 0} {items : List A} {r : Result (Unit {0}) E} (P : A → Type 0)
    → ChecksEach check items r → ((x : A) → check x (Ok tt) → P x) → OnOk r (All P items)
all-from-checks {check = check} {items = items} {r = Ok _} P h f = All-weaker (λ x. check x (Ok tt)) P f items h.accepted
all-from-checks {r = Err _} P h f = tt

-- what follows of an error that refuses an item holds of the error
pub error-from-checks : {A E : Type 0} {check : A → Result (Unit {0}) E → Type 0} {items : List A} {r : Result (Unit {0}) E} (Q : E → Type 0)
    → ChecksEach check items r → ((x : A) (e : E) → Contains items x → check x (Err e) → Q e) → IfErr r Q
error-from-checks {r = Ok _} Q h f = tt
error-from-checks {r = Err e} Q h f =
    let first = h.refused in
    f first.item e (subst (λ xs. Contains xs first.item) (sym first.at) (Contains-append_right first.before (first.item ∷ first.after) first.item (0, omega arith, refl))) first.refused
