-- The pieces of texts.
use Rattle.std.specs.Prelude.{ℕ, List, ◌&&◌, Bool, true, decimal, length, nat_le}
use Rattle.std.specs.List.{list_all}
use Rattle.naga_error_text.specs.declared.pieces.Flag.{Flag}
use Rattle.naga_error_text.specs.declared.pieces.Part.{Part}
use Rattle.naga_error_text.specs.declared.pieces.Part.TheVariants as part
use Rattle.naga_error_text.specs.declared.pieces.Piece.{Piece}
use Rattle.naga_error_text.specs.declared.pieces.Piece.TheVariants as piece
use Rattle.naga_error_text.specs.declared.pieces.Place.{Place}
use Rattle.naga_error_text.specs.declared.pieces.Place.TheVariants.{First, Second, Third, Fourth, Fifth, Index, Expression, Kind}
use Rattle.naga_error_text.specs.declared.pieces.Values.{Values}
use Rattle.naga_error_text.specs.Classes.{image_class}
use Rattle.naga_error_text.specs.Flags.{flags_text}
use Rattle.naga_error_text.specs.Names.{named}
use Rattle.naga_error_text.specs.Spaces.{space_text}

-- the value at a place
abbrev pub place_value : Values → Place → ℕ
place_value v First = v.first
place_value v Second = v.second
place_value v Third = v.third
place_value v Fourth = v.fourth
place_value v Fifth = v.fifth
place_value v Index = v.index
place_value v Expression = v.expression
place_value v Kind = v.kind

-- the text of a piece of a class of images or of an address space, of its two values
abbrev pub part_text : Values → Part → List ℕ
part_text v (part.Words words) = words.now
part_text v (part.Number place) = decimal (place_value v place)
part_text v (part.Name kind place) = named kind (place_value v place)

-- the text of a piece, of these values
abbrev pub piece_text : Values → Piece → List ℕ
piece_text v (piece.Words words) = words.now
piece_text v (piece.Number place) = decimal (place_value v place)
piece_text v (piece.Name kind place) = named kind (place_value v place)
piece_text v (piece.Class number a b) = image_class (place_value v number) (place_value v a) (place_value v b)
piece_text v (piece.Space number access) = space_text (place_value v number) (place_value v access)
piece_text v (piece.TypeFlags place) = flags_text (place_value v place)

-- a piece of a class of images or of an address space has at most 128 bytes
abbrev pub is_short_part : Part → Bool
is_short_part (part.Words words) = nat_le (length words.now) 128
is_short_part (part.Number place) = true
is_short_part (part.Name kind place) = true

-- there are at most 8 pieces, and each has at most 128 bytes
abbrev pub are_short_parts : List Part → Bool
are_short_parts parts = nat_le (length parts) 8 && list_all is_short_part parts

-- the words of a piece have at most 128 bytes
abbrev pub is_short : Piece → Bool
is_short (piece.Words words) = nat_le (length words.now) 128
is_short (piece.Number place) = true
is_short (piece.Name kind place) = true
is_short (piece.Class number a b) = true
is_short (piece.Space number access) = true
is_short (piece.TypeFlags place) = true

-- there are at most 16 pieces, and their words have at most 128 bytes
abbrev pub are_short : List Piece → Bool
are_short pieces = nat_le (length pieces) 16 && list_all is_short pieces

-- a flag: its bit, the bits of those before it, and its name
abbrev pub row_of : Flag → ℕ × ℕ × List ℕ
row_of flag = (flag.bit, flag.before, flag.name.now)
