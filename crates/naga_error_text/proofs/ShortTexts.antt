-- The texts of errors are short.
use Rattle.std.proofs.Common.{arith, refl, ◌≡◌, ℕ, List, [], ◌∷◌, ◌==◌, ◌*◌, ◌++◌, ◌^◌, ◌<◌, ◌≤◌, Bool, true, false, bit_and, codes, decimal, if◌then◌else◌, length, map, nat_le}
use Rattle.std.proofs.lemmas.Bool.{and_parts, leb-true}
use Rattle.std.proofs.lemmas.Fmt.{length-decimal-le}
use Rattle.std.proofs.lemmas.List.{places}
use Rattle.std.specs.List.{concat, list_all}
use Rattle.naga_error_text.specs.declared.names.Names.{Names}
use Rattle.naga_error_text.specs.declared.names.Names.TheVariants as names
use Rattle.naga_error_text.specs.declared.pieces.ImageClass.{ImageClass}
use Rattle.naga_error_text.specs.declared.pieces.ImageClass.TheVariants.{Sampled, Depth, Storage, External, Unknown}
use Rattle.naga_error_text.specs.declared.pieces.Piece.{Piece}
use Rattle.naga_error_text.specs.declared.pieces.Piece.TheVariants as piece
use Rattle.naga_error_text.specs.declared.pieces.Place.{Place}
use Rattle.naga_error_text.specs.declared.pieces.Place.TheVariants as place
use Rattle.naga_error_text.specs.declared.pieces.Values.{Values}
use Rattle.naga_error_text.specs.Names.{name_in, named, names}
use Rattle.naga_error_text.specs.Classes.{image_class_of, image_class_parts, two_values}
use Rattle.naga_error_text.specs.Flags.{flag_text, flags_text, separator, type_flags}
use Rattle.naga_error_text.specs.Spaces.{is_storage, space_parts}
use Rattle.naga_error_text.specs.steps.Pieces.{are_short, is_short, piece_text, place_value}

-- the values are numbers of 64 bits
abbrev pub Fit : Values → Type 0
Fit v = (v.first < 2 ^ 64) × (v.second < 2 ^ 64) × (v.third < 2 ^ 64) × (v.fourth < 2 ^ 64) × (v.fifth < 2 ^ 64) × (v.index < 2 ^ 64) × (v.expression < 2 ^ 64) × (v.kind < 2 ^ 64)

-- a value is a number of 64 bits
place_fits : (v : Values) (p : Place) → Fit v → place_value v p < 2 ^ 64
place_fits v place.First fits = fits.0
place_fits v place.Second fits = fits.1
place_fits v place.Third fits = fits.2
place_fits v place.Fourth fits = fits.3
place_fits v place.Fifth fits = fits.4
place_fits v place.Index fits = fits.5
place_fits v place.Expression fits = fits.6
place_fits v place.Kind fits = fits.7

-- the digits of a number of 64 bits
decimal_short : (n : ℕ) → n < 2 ^ 64 → length (decimal n) ≤ 20
decimal_short n fits = length-decimal-le 20 n (omega arith) (grind (arith, fits)) fits

-- a choice of two short texts is one
choice_short : (b : Bool) (left right : List ℕ) (most : ℕ) → length left ≤ most → length right ≤ most → length (if b then left else right) ≤ most
choice_short true left right most l r = l
choice_short false left right most l r = r

-- the name in a table of short names is short
name_in_short : (table : List (ℕ × List ℕ)) (n : ℕ) → list_all (λ row. nat_le (length row.1) 128) table ≡ true → length (name_in table n) ≤ 128
name_in_short [] n short = omega arith
name_in_short (row ∷ table) n short =
    let both = and_parts (nat_le (length row.1) 128) (list_all (λ row. nat_le (length row.1) 128) table) short in
    choice_short (row.0 == n) row.1 (name_in table n) 128 (leb-true (length row.1) 128 both.0) (name_in_short table n both.1)

-- a name is short
named_short : (k : Names) (n : ℕ) → length (named k n) ≤ 128
named_short names.ItemKinds n = name_in_short (names names.ItemKinds) n refl
named_short names.Bools n = name_in_short (names names.Bools) n refl
named_short names.ScalarKinds n = name_in_short (names names.ScalarKinds) n refl
named_short names.ScalarLetters n = name_in_short (names names.ScalarLetters) n refl
named_short names.ScalarBits n = name_in_short (names names.ScalarBits) n refl
named_short names.VectorSizes n = name_in_short (names names.VectorSizes) n refl
named_short names.Components n = name_in_short (names names.Components) n refl
named_short names.Dimensions n = name_in_short (names names.Dimensions) n refl
named_short names.ImageNames n = name_in_short (names names.ImageNames) n refl
named_short names.Accesses n = name_in_short (names names.Accesses) n refl
named_short names.Spaces n = name_in_short (names names.Spaces) n refl
named_short names.UnaryOperators n = name_in_short (names names.UnaryOperators) n refl
named_short names.BinaryOperators n = name_in_short (names names.BinaryOperators) n refl
named_short names.MathFunctions n = name_in_short (names names.MathFunctions) n refl
named_short names.StorageFormats n = name_in_short (names names.StorageFormats) n refl
named_short names.BuiltIns n = name_in_short (names names.BuiltIns) n refl
named_short names.Interpolations n = name_in_short (names names.Interpolations) n refl
named_short names.Samplings n = name_in_short (names names.Samplings) n refl
named_short names.EntryStages n = name_in_short (names names.EntryStages) n refl
named_short names.Capabilities n = name_in_short (names names.Capabilities) n refl

-- the text of a class of images is short
class_parts_short : (class : ImageClass) (a b : ℕ) → a < 2 ^ 64 → length (concat (image_class_parts class (two_values a b))) ≤ 1024
class_parts_short Sampled a b fits = grind (arith, places, named_short names.ScalarKinds a, named_short names.Bools b)
class_parts_short Depth a b fits = grind (arith, places, named_short names.Bools a)
class_parts_short Storage a b fits = grind (arith, places, named_short names.StorageFormats a, named_short names.Accesses b)
class_parts_short External a b fits = grind (arith, places)
class_parts_short Unknown a b fits = grind (arith, places)

-- the text of an address space is short
space_parts_short : (is_storage : Bool) (n a : ℕ) → length (concat (space_parts is_storage (two_values n a))) ≤ 1024
space_parts_short true n a = grind (arith, places, named_short names.Accesses a)
space_parts_short false n a = grind (arith, places, named_short names.Spaces n)

-- what stands before a flag is short
separator_short : (earlier : ℕ) → length (separator earlier) ≤ 3
separator_short earlier = choice_short (earlier == 0) [] (codes " | ") 3 (omega arith) (omega arith)

-- what the text of a set says of a flag with a short name is short
flag_short : (n : ℕ) (row : ℕ × ℕ × List ℕ) → length row.2 ≤ 64 → length (flag_text n row) ≤ 128
flag_short n row short = choice_short (bit_and n row.0 == 0) [] (separator (bit_and n row.1) ++ row.2) 128 (omega arith) (grind (arith, places, short, separator_short (bit_and n row.1)))

-- what it says of some flags is as short as their number says
each_flag_short : (n : ℕ) (rows : List (ℕ × ℕ × List ℕ)) → list_all (λ row. nat_le (length row.2) 64) rows ≡ true → length (concat (map (flag_text n) rows)) ≤ 128 * length rows
each_flag_short n [] short = omega arith
each_flag_short n (row ∷ rows) short =
    let both = and_parts (nat_le (length row.2) 64) (list_all (λ row. nat_le (length row.2) 64) rows) short in
    grind (arith, places, flag_short n row (leb-true (length row.2) 64 both.0), each_flag_short n rows both.1)

-- the text of a set of flags is short
flags_short : (n : ℕ) → length (flags_text n) ≤ 1024
flags_short n = choice_short (n == 0) (codes "0x0") (concat (map (flag_text n) type_flags)) 1024 (omega arith) (each_flag_short n type_flags refl)

-- the text of a piece with short words is short
piece_short : (v : Values) (p : Piece) → Fit v → is_short p ≡ true → length (piece_text v p) ≤ 1024
piece_short v (piece.Words words) fits short = grind (arith, leb-true (length words.now) 128 short)
piece_short v (piece.Number at) fits short = grind (arith, decimal_short (place_value v at) (place_fits v at fits))
piece_short v (piece.Name kind at) fits short = grind (arith, named_short kind (place_value v at))
piece_short v (piece.Class number a b) fits short = class_parts_short (image_class_of (place_value v number)) (place_value v a) (place_value v b) (place_fits v a fits)
piece_short v (piece.Space number access) fits short = space_parts_short (is_storage (place_value v number)) (place_value v number) (place_value v access)
piece_short v (piece.TypeFlags at) fits short = flags_short (place_value v at)

-- the text of some pieces is as short as their number says
each_short : (v : Values) (pieces : List Piece) → Fit v → list_all is_short pieces ≡ true → length (concat (map (piece_text v) pieces)) ≤ 1024 * length pieces
each_short v [] fits short = omega arith
each_short v (p ∷ pieces) fits short =
    let both = and_parts (is_short p) (list_all is_short pieces) short in
    grind (arith, places, piece_short v p fits both.0, each_short v pieces fits both.1)

-- the text of the pieces of an error is short
pub pieces_short : (v : Values) (pieces : List Piece) → Fit v → are_short pieces ≡ true → length (concat (map (piece_text v) pieces)) ≤ 16384
pieces_short v pieces fits short =
    let both = and_parts (nat_le (length pieces) 16) (list_all is_short pieces) short in
    grind (arith, each_short v pieces fits both.1, leb-true (length pieces) 16 both.0)
