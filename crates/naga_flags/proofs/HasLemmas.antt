-- Which flags intersections, unions and greater sets have.
use Rattle.std.proofs.Common.{◌≡◌, ◌&&◌, ℕ, Bool, true, false, List, [], ◌∷◌, min, max, refl, sym, ap, ◌∙◌, arith}
use Rattle.std.specs.Prelude.{bit_and, bit_or, fold}
use Rattle.std.specs.Bool.{Decides}
use Rattle.std.specs.Int.{bit_at}
use Rattle.std.specs.Int.Bits.{and_self}
use Rattle.std.specs.List.{list_all}
use Rattle.std.proofs.Math.Bool.{and_assoc as both_assoc}
use Rattle.std.proofs.lemmas.Bool.Decides.{Decides-and, Decides-eqb, Decides-like, same_from_decides}
use Rattle.std.proofs.lemmas.Nat.{and_assoc, and_comm, and_le_r, and_or_self, or_comm}
use Rattle.std.proofs.lemmas.Nat.Bits.{bit_at_and, bit_at_or, same_from_bits}
use Rattle.naga_flags.specs.Bits.{union_of}
use Rattle.naga_flags.specs.Flags.{has}

-- a set has all flags of another
abbrev Has : ℕ → ℕ → Type 0
Has set flags = bit_and set flags ≡ flags

decides : (set flags : ℕ) → Decides (has set flags) (Has set flags)
decides set flags = Decides-eqb (bit_and set flags) flags

trans : (set part flags : ℕ) → Has set part → Has part flags → Has set flags
trans set part flags whole h = ap (bit_and set) (sym h) ∙ sym (and_assoc flags set part) ∙ ap (λ p. bit_and p flags) whole ∙ h

-- a set has itself
pub has-itself : (set : ℕ) → has set set ≡ true
has-itself set = (decides set set).1 (and_self set)

-- a set has what a set within it has
pub has-trans : (set part flags : ℕ) → has set part ≡ true → has part flags ≡ true → has set flags ≡ true
has-trans set part flags whole h = (decides set flags).1 (trans set part flags ((decides set part).0 whole) ((decides part flags).0 h))

first_of_both : (a b : ℕ) → Has a (bit_and a b)
first_of_both a b = sym (and_assoc b a a) ∙ ap (λ x. bit_and x b) (and_self a)

second_of_both : (a b : ℕ) → Has b (bit_and a b)
second_of_both a b = ap (bit_and b) (and_comm a b) ∙ first_of_both b a ∙ and_comm b a

of_both : (a b flags : ℕ) → Has a flags → Has b flags → Has (bit_and a b) flags
of_both a b flags p q = and_assoc flags a b ∙ ap (bit_and a) q ∙ p

-- an intersection has the flags that both sets have
pub has-bit_and : (a b flags : ℕ) → has (bit_and a b) flags ≡ (has a flags && has b flags)
has-bit_and a b flags =
    same_from_decides (has (bit_and a b) flags) (has a flags && has b flags) (decides (bit_and a b) flags)
    (Decides-like (has a flags && has b flags) (λ (h : Has a flags × Has b flags). of_both a b flags h.0 h.1)
    (λ (h : Has (bit_and a b) flags). (trans a (bit_and a b) flags (first_of_both a b) h, trans b (bit_and a b) flags (second_of_both a b) h))
    (Decides-and (has a flags) (has b flags) (decides a flags) (decides b flags)))

has_second : (a b : ℕ) → Has (bit_or a b) b
has_second a b = and_or_self b a

has_first : (a b : ℕ) → Has (bit_or a b) a
has_first a b = ap (λ x. bit_and x a) (or_comm a b) ∙ and_or_self a b

has_union : (set a b : ℕ) → Has set a → Has set b → Has set (bit_or a b)
has_union set a b p q = same_from_bits (bit_and set (bit_or a b)) (bit_or a b) each
  where
    each : (i : ℕ) → bit_at (bit_and set (bit_or a b)) i ≡ bit_at (bit_or a b) i
    each i =
        let left : min (bit_at set i) (bit_at a i) ≡ bit_at a i = sym (bit_at_and set a i) ∙ ap (λ n. bit_at n i) p in
        let right : min (bit_at set i) (bit_at b i) ≡ bit_at b i = sym (bit_at_and set b i) ∙ ap (λ n. bit_at n i) q in
        let both : min (bit_at set i) (max (bit_at a i) (bit_at b i)) ≡ max (bit_at a i) (bit_at b i) = omega (arith, left, right) in
        bit_at_and set (bit_or a b) i ∙ ap (min (bit_at set i)) (bit_at_or a b i) ∙ both ∙ sym (bit_at_or a b i)

-- a set has a union if it has both parts
pub has-bit_or : (set a b : ℕ) → has set (bit_or a b) ≡ (has set a && has set b)
has-bit_or set a b =
    same_from_decides (has set (bit_or a b)) (has set a && has set b) (decides set (bit_or a b))
    (Decides-like (has set a && has set b) (λ (h : Has set a × Has set b). has_union set a b h.0 h.1)
    (λ (h : Has set (bit_or a b)). (trans set (bit_or a b) a h (has_first a b), trans set (bit_or a b) b h (has_second a b)))
    (Decides-and (has set a) (has set b) (decides set a) (decides set b)))

-- every set has the empty one
pub has-zero : (set : ℕ) → has set 0 ≡ true
has-zero set = (decides set 0).1 (omega (arith, and_le_r set 0))

and_true : (b : Bool) → (b && true) ≡ b
and_true true = refl
and_true false = refl

has-fold : (set acc : ℕ) (flags : List ℕ) → has set (fold bit_or acc flags) ≡ (has set acc && list_all (has set) flags)
has-fold set acc [] = sym (and_true (has set acc))
has-fold set acc (flag ∷ rest) =
    has-fold set (bit_or acc flag) rest ∙ ap (λ b. b && list_all (has set) rest) (has-bit_or set acc flag)
    ∙ both_assoc (has set acc) (has set flag) (list_all (has set) rest)

-- a set has the union of some flags if it has each
pub has-union_of : (set : ℕ) (flags : List ℕ) → has set (union_of flags) ≡ list_all (has set) flags
has-union_of set flags = has-fold set 0 flags ∙ ap (λ b. b && list_all (has set) flags) (has-zero set)

-- the intersection of some sets has what each of them has
pub has-intersection : (top : ℕ) (sets : List ℕ) (flags : ℕ) → has (fold bit_and top sets) flags ≡ (has top flags && list_all (λ set. has set flags) sets)
has-intersection top [] flags = sym (and_true (has top flags))
has-intersection top (set ∷ rest) flags =
    has-intersection (bit_and top set) rest flags ∙ ap (λ b. b && list_all (λ set. has set flags) rest) (has-bit_and top set flags)
    ∙ both_assoc (has top flags) (has set flags) (list_all (λ set. has set flags) rest)
