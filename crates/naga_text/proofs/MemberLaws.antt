-- The reader of a member returns the one member with these pieces.
use Rattle.std.proofs.Common.{◌≡◌, ℕ, List, [], ◌∷◌, Option, None, Some, ap, false, refl, subst, true}
use Rattle.std.proofs.lemmas.Option.{option_and_then_some, same_Some}
use Rattle.naga_ir.specs.declared.types.Binding.{Binding}
use Rattle.naga_ir.specs.declared.types.Binding.TheVariants.{BuiltIn, Location}
use Rattle.naga_ir.specs.declared.types.StructMember.{StructMember}
use Rattle.naga_text.specs.Words.{handle_of, number_of, pieces_of}
use Rattle.naga_text.specs.Forms.{Matches, binding_parts, handle, member_part, never, u32_word}
use Rattle.naga_text.specs.WordForms.{binding_of, member_in, member_of}
use Rattle.naga_text.specs.Bytes.{colon}
use Rattle.naga_text.proofs.PartLaws.{by_parts}
use Rattle.naga_text.proofs.PieceLaws.{has_piece}

-- no piece is one that can't be written
never_filled : (ps : List (List ℕ)) → Matches (never ∷ []) ps → ⊥
never_filled [] h = h
never_filled (p ∷ ps) h = h.0

-- a binding is read of pieces that write it, and of each such list of pieces
binding_found : (ps : List (List ℕ)) (binding : Option Binding) → binding_of ps ≡ Some binding → Matches (binding_parts binding) ps
binding_found [] binding h = subst (λ (binding : Option Binding). Matches (binding_parts binding) []) (same_Some None binding h) tt
binding_found (l ∷ []) binding h =
    option_and_then_some _ (number_of l) binding h λ location e h.
    subst (λ (binding : Option Binding). Matches (binding_parts binding) (l ∷ [])) (same_Some (Some (Location location None None None false)) binding h) (e, tt)
binding_found (l ∷ b ∷ []) binding h =
    option_and_then_some _ (number_of l) binding h λ location e h.
    option_and_then_some _ (number_of b) binding h λ blend_src f h.
    subst (λ (binding : Option Binding). Matches (binding_parts binding) (l ∷ b ∷ [])) (same_Some (Some (Location location None None (Some blend_src) false)) binding h) (e, (f, tt))
binding_found _ binding h = cc

binding_again : (ps : List (List ℕ)) (binding : Option Binding) → Matches (binding_parts binding) ps → binding_of ps ≡ Some binding
binding_again ps None h = by_parts (binding_parts None) ps (λ ps. binding_of ps ≡ Some None) h refl
binding_again ps (Some (Location location None None None false)) h =
    by_parts (binding_parts (Some (Location location None None None false))) ps (λ ps. binding_of ps ≡ Some (Some (Location location None None None false))) h (λ l e. rw e refl)
binding_again ps (Some (Location location None None (Some blend_src) false)) h =
    by_parts (binding_parts (Some (Location location None None (Some blend_src) false))) ps (λ ps. binding_of ps ≡ Some (Some (Location location None None (Some blend_src) false))) h (λ l e b f. rw (e, f) refl)
binding_again ps (Some (Location location None None None true)) h = absurd (never_filled ps h)
binding_again ps (Some (Location location None None (Some blend_src) true)) h = absurd (never_filled ps h)
binding_again ps (Some (Location location None (Some sampling) blend_src per_primitive)) h = absurd (never_filled ps h)
binding_again ps (Some (Location location (Some interpolation) sampling blend_src per_primitive)) h = absurd (never_filled ps h)
binding_again ps (Some (BuiltIn value)) h = absurd (never_filled ps h)

-- a member is read of pieces that write it, and of each such list of pieces
pieces_found : (ps : List (List ℕ)) (m : StructMember) → member_in ps ≡ Some m → (m.name ≡ None) × Matches (handle m.ty ∷ u32_word m.offset ∷ binding_parts m.binding) ps
pieces_found (t ∷ o ∷ rest) m h =
    option_and_then_some _ (handle_of t) m h λ ty e h.
    option_and_then_some _ (binding_of rest) m h λ binding f h.
    option_and_then_some _ (number_of o) m h λ offset g h.
    subst (λ (m : StructMember). (m.name ≡ None) × Matches (handle m.ty ∷ u32_word m.offset ∷ binding_parts m.binding) (t ∷ o ∷ rest))
    (same_Some (record { name = None; ty = ty; binding = binding; offset = offset }) m h) (refl, (e, (g, binding_found rest binding f)))
pieces_found _ m h = cc

pieces_again : (ps : List (List ℕ)) (name : Option (List ℕ)) (ty : ℕ) (binding : Option Binding) (offset : ℕ) → name ≡ None → Matches (handle ty ∷ u32_word offset ∷ binding_parts binding) ps
    → member_in ps ≡ Some (record { name = name; ty = ty; binding = binding; offset = offset })
pieces_again (t ∷ o ∷ rest) name ty binding offset e h = rw (h.0, binding_again rest binding h.1.1, h.1.0, e) refl
pieces_again (t ∷ []) name ty binding offset e h = absurd h.1
pieces_again [] name ty binding offset e h = absurd h

-- a member is read of a word that writes it, and of each such word
pub member_found : (w : List ℕ) (m : StructMember) → member_of w ≡ Some m → member_part m w
member_found w m h = pieces_found (pieces_of w) m h

pub member_again : (w : List ℕ) (m : StructMember) → member_part m w → member_of w ≡ Some m
member_again w m h = pieces_again (pieces_of w) m.name m.ty m.binding m.offset h.0 h.1

-- a binding has no third piece
pub too_many_pieces : (l b rest : List ℕ) → binding_of (l ∷ b ∷ pieces_of rest) ≡ None
too_many_pieces l b rest = let piece = has_piece colon rest in ap (λ pieces. binding_of (l ∷ b ∷ pieces)) piece.2
