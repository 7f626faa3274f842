-- The reader of a line returns the one line with that form.
use Rattle.std.proofs.Common.{◌≡◌, ℕ, List, [], ◌∷◌, Some, bytes_eq, refl, subst, codes}
use Rattle.std.proofs.lemmas.Option.{option_and_then_some, same_Some}
use Rattle.std.proofs.lemmas.Slice.Eq.{bytes_eq-Decides}
use Rattle.naga_flags.specs.Bits.{all_capabilities, all_validation_flags}
use Rattle.naga_text.specs.Words.{handle_of, largest_u16, number_up_to}
use Rattle.naga_text.specs.Forms.{IsForm, Matches, fixed_form}
use Rattle.naga_text.specs.Tables.{chosen}
use Rattle.naga_text.specs.ExpressionReaders.{expression_of}
use Rattle.naga_text.specs.WordForms.{Reader, optional_of, read_by}
use Rattle.naga_text.specs.steps.LineForms.{capabilities_of, constant_of, doc_of, expression_line_of, fixed_line_of, fixed_readers, flags_of, line_of, override_of, resolved_of, type_line_of, type_of}
use Rattle.naga_text.specs.declared.line.FixedLine.{FixedLine}
use Rattle.naga_text.specs.declared.line.FixedLine.TheVariants.{Flags, Capabilities, Resolved, Constant, Override, Doc}
use Rattle.naga_text.specs.declared.line.Line.{Line}
use Rattle.naga_text.specs.declared.line.Line.TheVariants.{Type_, Expression, Fixed}
use Rattle.naga_text.proofs.ExpressionLaws.{expression_again, expression_found}
use Rattle.naga_text.proofs.PartLaws.{by_parts}
use Rattle.naga_text.proofs.TableLaws.{by_test, chosen_holds}
use Rattle.naga_text.proofs.TypeLaws.{type_again, type_found}
use Rattle.naga_text.proofs.WordLaws.{optional_handle_again, optional_handle_found, optional_number_again, optional_number_found}

-- what a reader reads of the words after a keyword has its line's form
abbrev HasForm : List ℕ → Reader FixedLine → Type 0
HasForm keyword reader = (ws : List (List ℕ)) (line : FixedLine) → reader ws ≡ Some line → Matches (fixed_form line) (keyword ∷ ws)

flags_found : HasForm (codes "flags") flags_of
flags_found (n ∷ []) line h =
    option_and_then_some _ (number_up_to all_validation_flags n) line h λ bits e h.
    subst (λ line. Matches (fixed_form line) (codes "flags" ∷ n ∷ [])) (same_Some (Flags (record { 0 = bits })) line h) (refl, (e, tt))
flags_found _ line h = cc

capabilities_found : HasForm (codes "caps") capabilities_of
capabilities_found (n ∷ []) line h =
    option_and_then_some _ (number_up_to all_capabilities n) line h λ bits e h.
    subst (λ line. Matches (fixed_form line) (codes "caps" ∷ n ∷ [])) (same_Some (Capabilities (record { 0 = bits })) line h) (refl, (e, tt))
capabilities_found _ line h = cc

resolved_found : HasForm (codes "resolved") resolved_of
resolved_found [] line h = subst (λ line. Matches (fixed_form line) (codes "resolved" ∷ [])) (same_Some Resolved line h) (refl, tt)
resolved_found _ line h = cc

constant_found : HasForm (codes "const") constant_of
constant_found (t ∷ x ∷ []) line h =
    option_and_then_some _ (handle_of t) line h λ ty e h.
    option_and_then_some _ (handle_of x) line h λ init f h.
    subst (λ line. Matches (fixed_form line) (codes "const" ∷ t ∷ x ∷ [])) (same_Some (Constant ty init) line h) (refl, (e, (f, tt)))
constant_found _ line h = cc

override_found : HasForm (codes "override") override_of
override_found (t ∷ x ∷ i ∷ []) line h =
    option_and_then_some _ (handle_of t) line h λ ty e h.
    option_and_then_some _ (optional_of handle_of x) line h λ init f h.
    option_and_then_some _ (optional_of (number_up_to largest_u16) i) line h λ id g h.
    subst (λ line. Matches (fixed_form line) (codes "override" ∷ t ∷ x ∷ i ∷ [])) (same_Some (Override ty init id) line h) (refl, (e, (optional_handle_found x init f, (optional_number_found i id g, tt))))
override_found _ line h = cc

doc_found : HasForm (codes "doc") doc_of
doc_found (t ∷ m ∷ []) line h =
    option_and_then_some _ (handle_of t) line h λ ty e h.
    option_and_then_some _ (handle_of m) line h λ member f h.
    subst (λ line. Matches (fixed_form line) (codes "doc" ∷ t ∷ m ∷ [])) (same_Some (Doc ty member) line h) (refl, (e, (f, tt)))
doc_found _ line h = cc

-- what is read of the words after the keyword of a line of a fixed number of words has its form
fixed_line_found : (keyword : List ℕ) (ws : List (List ℕ)) (line : Line) → fixed_line_of keyword ws ≡ Some line → IsForm (keyword ∷ ws) line
fixed_line_found keyword ws line h =
    option_and_then_some _ (read_by fixed_readers keyword ws) line h λ fixed e h.
    option_and_then_some _ (chosen fixed_readers keyword) fixed e λ reader f e.
    subst (IsForm (keyword ∷ ws)) (same_Some (Fixed fixed) line h)
    (chosen_holds HasForm fixed_readers keyword reader (flags_found, (capabilities_found, (resolved_found, (constant_found, (override_found, (doc_found, tt)))))) f ws fixed e)

-- what is read of words is a line of this form
pub line_found : (ws : List (List ℕ)) (line : Line) → line_of ws ≡ Some line → IsForm ws line
line_found [] line h = cc
line_found (keyword ∷ ws) line h =
    by_test (bytes_eq keyword (codes "type")) (type_line_of ws) _ line h
    (λ same h.
    option_and_then_some _ (type_of ws) line h λ inner e h.
    subst (IsForm (keyword ∷ ws)) (same_Some (Type_ inner) line h) ((bytes_eq-Decides keyword (codes "type")).0 same, type_found ws inner e))
    (λ h.
    by_test (bytes_eq keyword (codes "expr")) (expression_line_of ws) _ line h
    (λ same h.
    option_and_then_some _ (expression_of ws) line h λ expression e h.
    subst (IsForm (keyword ∷ ws)) (same_Some (Expression expression) line h) ((bytes_eq-Decides keyword (codes "expr")).0 same, expression_found ws expression e))
    (fixed_line_found keyword ws line))

-- words of the form of a line of a fixed number of words are read as that line
fixed_line_again : (ws : List (List ℕ)) (line : FixedLine) → Matches (fixed_form line) ws → line_of ws ≡ Some (Fixed line)
fixed_line_again ws (Flags flags) h = by_parts (fixed_form (Flags flags)) ws (λ ws. line_of ws ≡ Some (Fixed (Flags flags))) h
    (λ a e n f. rw (e, f) refl)
fixed_line_again ws (Capabilities capabilities) h = by_parts (fixed_form (Capabilities capabilities)) ws (λ ws. line_of ws ≡ Some (Fixed (Capabilities capabilities))) h
    (λ a e n f. rw (e, f) refl)
fixed_line_again ws Resolved h = by_parts (fixed_form Resolved) ws (λ ws. line_of ws ≡ Some (Fixed Resolved)) h (λ a e. rw e refl)
fixed_line_again ws (Constant ty init) h = by_parts (fixed_form (Constant ty init)) ws (λ ws. line_of ws ≡ Some (Fixed (Constant ty init))) h
    (λ a e t f x g. rw (e, f, g) refl)
fixed_line_again ws (Override ty init id) h = by_parts (fixed_form (Override ty init id)) ws (λ ws. line_of ws ≡ Some (Fixed (Override ty init id))) h
    (λ a e t f x g i k. rw (e, f, optional_handle_again x init g, optional_number_again i id k) refl)
fixed_line_again ws (Doc ty member) h = by_parts (fixed_form (Doc ty member)) ws (λ ws. line_of ws ≡ Some (Fixed (Doc ty member))) h
    (λ a e t f m g. rw (e, f, g) refl)

-- words of a line's form are read as that line
pub line_again : (ws : List (List ℕ)) (line : Line) → IsForm ws line → line_of ws ≡ Some line
line_again [] (Type_ t) h = absurd h
line_again (a ∷ ws) (Type_ t) h = rw (h.0, type_again ws t h.1) refl
line_again [] (Expression x) h = absurd h
line_again (a ∷ ws) (Expression x) h = rw (h.0, expression_again ws x h.1) refl
line_again ws (Fixed line) h = fixed_line_again ws line h
