-- Readers of several words.
use Rattle.std.specs.Prelude.{◌==◌, ℕ, zero, suc, List, [], ◌∷◌, length, Option, None, Some, if◌then◌else◌}
use Rattle.naga_words.specs.Operands.{◌>>=◌, handle_of}

-- what the reader of the opcode `o` reads of `ws`, among `readers`
abbrev pub read_by : {A : Type 0} → List (ℕ × (List ℕ → Option A)) → ℕ → List ℕ → Option A
read_by [] o ws = None
read_by (r ∷ readers) o ws = if o == r.0 then r.1 ws else read_by readers o ws

-- what is made of no operands
abbrev pub reads_none : {R : Type 0} → R → List ℕ → Option R
reads_none made [] = Some made
reads_none made _ = None

-- what is made of one operand, read by `f`
abbrev pub reads_one : {A R : Type 0} → (ℕ → Option A) → (A → R) → List ℕ → Option R
reads_one f make (a ∷ []) = f a >>= (λ p. Some (make p))
reads_one f make _ = None

-- what is made of two operands, read by `f` and `g`
abbrev pub reads_two : {A B R : Type 0} → (ℕ → Option A) → (ℕ → Option B) → (A → B → R) → List ℕ → Option R
reads_two f g make (a ∷ b ∷ []) = f a >>= (λ p. g b >>= (λ q. Some (make p q)))
reads_two f g make _ = None

-- what is made of three operands, read by `f`, `g` and `h`
abbrev pub reads_three : {A B C R : Type 0} → (ℕ → Option A) → (ℕ → Option B) → (ℕ → Option C) → (A → B → C → R)
    → List ℕ → Option R
reads_three f g h make (a ∷ b ∷ c ∷ []) = f a >>= (λ p. g b >>= (λ q. h c >>= (λ r. Some (make p q r))))
reads_three f g h make _ = None

-- what is made of four operands, read by `f`, `g`, `h` and `i`
abbrev pub reads_four : {A B C D R : Type 0} → (ℕ → Option A) → (ℕ → Option B) → (ℕ → Option C) → (ℕ → Option D)
    → (A → B → C → D → R) → List ℕ → Option R
reads_four f g h i make (a ∷ b ∷ c ∷ d ∷ []) =
    f a >>= (λ p. g b >>= (λ q. h c >>= (λ r. i d >>= (λ s. Some (make p q r s)))))
reads_four f g h i make _ = None

-- what is made of an operand read by `f`, one read by `g`, and three that are indices or none
abbrev pub reads_five : {A B R : Type 0} → (ℕ → Option A) → (ℕ → Option B)
    → (A → B → Option ℕ → Option ℕ → Option ℕ → R) → List ℕ → Option R
reads_five f g make (a ∷ b ∷ c ∷ d ∷ e ∷ []) =
    f a >>= (λ p. g b >>= (λ q. Some (make p q (handle_of c) (handle_of d) (handle_of e))))
reads_five f g make _ = None

-- what is made of a value that `f` reads of two words
abbrev pub reads_pair : {A R : Type 0} → (ℕ → ℕ → Option A) → (A → R) → List ℕ → Option R
reads_pair f make (a ∷ b ∷ []) = f a b >>= (λ p. Some (make p))
reads_pair f make _ = None

-- what is made of a value that `f` reads of three words
abbrev pub reads_triple : {A R : Type 0} → (ℕ → ℕ → ℕ → Option A) → (A → R) → List ℕ → Option R
reads_triple f make (a ∷ b ∷ c ∷ []) = f a b c >>= (λ p. Some (make p))
reads_triple f make _ = None

-- the values of all words, if each has one
abbrev pub read_each : {A : Type 0} → (ℕ → Option A) → List ℕ → Option (List A)
read_each reader [] = Some []
read_each reader (w ∷ ws) = do
  value ← reader w
  values ← read_each reader ws
  Some (value ∷ values)

-- what `first` reads of words, and then of the words that are left, until none are: `most` times at most
abbrev pub read_within : {A : Type 0} → (List ℕ → Option (A × List ℕ)) → ℕ → List ℕ → Option (List A)
read_within first most [] = Some []
read_within first zero (w ∷ ws) = None
read_within first (suc most) (w ∷ ws) = do
  read ← first (w ∷ ws)
  values ← read_within first most read.1
  Some (read.0 ∷ values)

-- what `first` reads of words, and then of the words that are left, until none are, if it reads a word at least
abbrev pub read_all : {A : Type 0} → (List ℕ → Option (A × List ℕ)) → List ℕ → Option (List A)
read_all first ws = read_within first (length ws) ws
