-- Writing the lines of types one by one.
use Rattle.std.proofs.Common.{◌≡◌, ℕ, ◌+◌, ◌<◌, List, [], ◌∷◌, ◌++◌, Some, length, slice_get, refl, sym, ap, ◌∙◌, arith, append_assoc, append-nil, length-append}
use Rattle.std.specs.List.{enumerate_from}
use Rattle.std.proofs.lemmas.Option.{same_Some, slice_get_within}
use Rattle.naga_arena.proofs.Progress.{slice_get-seam}
use Rattle.naga_ir.specs.declared.types.«Type».{«Type»}
use Rattle.naga_types.specs.declared.info.TypeInfo.{TypeInfo}
use Rattle.naga_report.specs.Report.{type_line, type_lines}

-- the text and the lines of the infos that are left are all lines, and as many types as infos are left
pub record IsWritten (text : List ℕ) (infos : List TypeInfo) (left : List (ℕ × «Type»)) : Type 0 where
  front : List TypeInfo
  rest : List TypeInfo
  types : List «Type»
  whole : infos ≡ front ++ rest
  left_is : left ≡ enumerate_from (length front) types
  as_many : length types ≡ length rest
  lines : text ++ type_lines (length front) rest ≡ type_lines 0 infos

pub begun : (text : List ℕ) (infos : List TypeInfo) (types : List «Type») (left : List (ℕ × «Type»)) → text ≡ [] → length infos ≡ length types → left ≡ enumerate_from 0 types → IsWritten text infos left
begun text infos types left none same e = record {
  front = [];
  rest = infos;
  types = types;
  whole = refl;
  left_is = e;
  as_many = sym same;
  lines = ap (λ t. t ++ type_lines 0 infos) none;
}

-- what comes next, if a type is left
record Next (text : List ℕ) (infos : List TypeInfo) (n : ℕ) (more : List (ℕ × «Type»)) : Type 0 where
  front : List TypeInfo
  info : TypeInfo
  rest : List TypeInfo
  types : List «Type»
  number : n ≡ length front
  whole : infos ≡ front ++ info ∷ rest
  more_is : more ≡ enumerate_from (length front + 1) types
  as_many : length types ≡ length rest
  lines : text ++ (type_line n info ++ type_lines (length front + 1) rest) ≡ type_lines 0 infos

next : (text : List ℕ) (infos : List TypeInfo) (left : List (ℕ × «Type»)) (n : ℕ) (t : «Type») (more : List (ℕ × «Type»)) → IsWritten text infos left → left ≡ (n, t) ∷ more → Next text infos n more
next text infos left n t more w e = by_lists w.types w.rest (sym e ∙ w.left_is) w.as_many w.whole w.lines
  where
    by_lists : (types : List «Type») (rest : List TypeInfo) → (n, t) ∷ more ≡ enumerate_from (length w.front) types → length types ≡ length rest → infos ≡ w.front ++ rest
        → text ++ type_lines (length w.front) rest ≡ type_lines 0 infos → Next text infos n more
    by_lists [] rest e same whole lines = cc
    by_lists (y ∷ types) [] e same whole lines = absurd (omega arith)
    by_lists (y ∷ types) (info ∷ rest) e same whole lines =
        let first : (n, t) ≡ (length w.front, y) = cc in
        let number : n ≡ length w.front = ap (λ (q : ℕ × «Type»). q.0) first in
        record {
          front = w.front;
          info = info;
          rest = rest;
          types = types;
          number = number;
          whole = whole;
          more_is = cc;
          as_many = omega arith;
          lines = ap (λ k. text ++ (type_line k info ++ type_lines (length w.front + 1) rest)) number ∙ lines;
        }

info_is : (text : List ℕ) (infos : List TypeInfo) (n : ℕ) (more : List (ℕ × «Type»)) (s : Next text infos n more) → slice_get infos n ≡ Some s.info
info_is text infos n more s = ap (λ l. slice_get l n) s.whole ∙ ap (slice_get (s.front ++ s.info ∷ s.rest)) s.number ∙ slice_get-seam s.front s.rest s.info

-- the type that is next has an info
pub within : (text : List ℕ) (infos : List TypeInfo) (left : List (ℕ × «Type»)) (n : ℕ) (t : «Type») (more : List (ℕ × «Type»)) → IsWritten text infos left → left ≡ (n, t) ∷ more → n < length infos
within text infos left n t more w e = let s = next text infos left n t more w e in slice_get_within infos n s.info (info_is text infos n more s)

-- the line of the next type is written
pub written : (text now : List ℕ) (infos : List TypeInfo) (left : List (ℕ × «Type»)) (n : ℕ) (t : «Type») (more : List (ℕ × «Type»)) (info : TypeInfo)
    → IsWritten text infos left → left ≡ (n, t) ∷ more → slice_get infos n ≡ Some info → now ≡ text ++ type_line n info → IsWritten now infos more
written text now infos left n t more info w e at is =
    let s = next text infos left n t more w e in
    let same : s.info ≡ info = same_Some s.info info (sym (info_is text infos n more s) ∙ at) in
    let longer : length (s.front ++ s.info ∷ []) ≡ length s.front + 1 = length-append s.front (s.info ∷ []) in
    record {
      front = s.front ++ s.info ∷ [];
      rest = s.rest;
      types = s.types;
      whole = s.whole ∙ sym (append_assoc s.front (s.info ∷ []) s.rest);
      left_is = s.more_is ∙ ap (λ k. enumerate_from k s.types) (sym longer);
      as_many = s.as_many;
      lines =
          ap (λ l. l ++ type_lines (length (s.front ++ s.info ∷ [])) s.rest) (is ∙ ap (λ i. text ++ type_line n i) (sym same))
          ∙ ap (λ k. (text ++ type_line n s.info) ++ type_lines k s.rest) longer
          ∙ append_assoc text (type_line n s.info) (type_lines (length s.front + 1) s.rest) ∙ s.lines;
    }

-- no type is left, so all lines are written
pub ended : (text : List ℕ) (infos : List TypeInfo) (left : List (ℕ × «Type»)) → IsWritten text infos left → left ≡ [] → text ≡ type_lines 0 infos
ended text infos left w e = by_lists w.types w.rest (sym e ∙ w.left_is) w.as_many w.lines
  where
    by_lists : (types : List «Type») (rest : List TypeInfo) → [] ≡ enumerate_from (length w.front) types → length types ≡ length rest → text ++ type_lines (length w.front) rest ≡ type_lines 0 infos → text ≡ type_lines 0 infos
    by_lists (y ∷ types) rest e same lines = cc
    by_lists [] (info ∷ rest) e same lines = absurd (omega arith)
    by_lists [] [] e same lines = sym (append-nil text) ∙ lines
