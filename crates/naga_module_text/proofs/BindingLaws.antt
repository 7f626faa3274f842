-- The pieces of a resource's binding.
use Rattle.std.proofs.Common.{◌≡◌, ℕ, List, ◌∷◌, None, ap}
use Rattle.naga_module_text.specs.Words.{resource_binding_in}
use Rattle.naga_text.specs.Bytes.{colon}
use Rattle.naga_text.specs.Words.{pieces_of}
use Rattle.naga_text.proofs.PieceLaws.{has_piece}

-- a binding of a group `g` and a number `b` has no third piece
pub too_many_pieces : (g b rest : List ℕ) → resource_binding_in (g ∷ b ∷ pieces_of rest) ≡ None
too_many_pieces g b rest = let piece = has_piece colon rest in ap (λ pieces. resource_binding_in (g ∷ b ∷ pieces)) piece.2
