-- One more write.
use Rattle.std.proofs.Common.{◌≡◌, ℕ, ◌+◌, ◌-◌, List, ◌++◌, Option, length, take, drop, subst, sym, ap, ◌∙◌, length-drop}
use Rattle.std.proofs.Math.Seq.{take-add, take-length}
use Rattle.std.proofs.KnownBytes.{Appends-trans}
use Rattle.std.specs.Io.KnownBytes.{Appends}

-- what was written, and the front of what is left, is the longer front
pub Appends-more : (a b c : Option (List ℕ)) (text : List ℕ) (at n : ℕ) → Appends a b (take at text) → Appends b c (take n (take (length text - at) (drop at text))) → Appends a c (take (at + n) text)
Appends-more a b c text at n before now =
    let whole : take (length text - at) (drop at text) ≡ drop at text = ap (λ m. take m (drop at text)) (sym (length-drop at text)) ∙ take-length (drop at text) in
    subst (Appends a c) (ap (λ l. take at text ++ take n l) whole ∙ sym (take-add at n text)) (Appends-trans a b c _ _ before now)
