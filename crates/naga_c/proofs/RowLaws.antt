-- Rows of types that are written one after another.
use Rattle.std.proofs.Common.{◌≡◌, ℕ, ◌+◌, ◌<◌, zero, suc, List, [], ◌∷◌, ◌++◌, Some, ap, arith, drop, length, refl, slice_get, slice_set, subst, sym, take, ◌∙◌}
use Rattle.std.proofs.lemmas.Option.{none-some, same_Some}
use Rattle.naga_types.specs.declared.info.TypeInfo.{TypeInfo}
use Rattle.naga_typing.specs.declared.layouter.TypeLayout.{TypeLayout}
use Rattle.naga_c.specs.Types.{rows_of, type_row}
use Rattle.naga_c.specs.declared.results.Outcome.{Outcome}
use Rattle.naga_c.specs.declared.results.TypeRow.{TypeRow}
use Rattle.naga_c.proofs.Fronts.{front_more}

-- the row at the index of an info and of a layout is their row
row_at : (infos : List TypeInfo) (layouts : List TypeLayout) (i : ℕ) (info : TypeInfo) (layout : TypeLayout) → slice_get infos i ≡ Some info → slice_get layouts i ≡ Some layout → slice_get (rows_of infos layouts) i ≡ Some (type_row info layout)
row_at [] layouts i info layout h k = absurd (none-some info h)
row_at (x ∷ infos) [] i info layout h k = absurd (none-some layout k)
row_at (x ∷ infos) (l ∷ layouts) zero info layout h k = ap (λ (v : TypeInfo). Some (type_row v l)) (same_Some x info h) ∙ ap (λ (v : TypeLayout). Some (type_row info v)) (same_Some l layout k)
row_at (x ∷ infos) (l ∷ layouts) (suc i) info layout h k = row_at infos layouts i info layout h k

-- once the row at an index is written, one more of them is
pub row_more : (infos : List TypeInfo) (layouts : List TypeLayout) (old rows : List TypeRow) (i handle : ℕ) (info : TypeInfo) (layout : TypeLayout) (row : TypeRow)
    → rows ≡ take i (rows_of infos layouts) ++ drop i old → handle ≡ i → slice_get infos handle ≡ Some info → slice_get layouts handle ≡ Some layout → row ≡ type_row info layout → i < length old
    → slice_set rows i row ≡ take (i + 1) (rows_of infos layouts) ++ drop (i + 1) old
row_more infos layouts old rows i handle info layout row so_far same is lies by lt =
    let here : slice_get infos i ≡ Some info = subst (λ k. slice_get infos k ≡ Some info) same is in
    let there : slice_get layouts i ≡ Some layout = subst (λ k. slice_get layouts k ≡ Some layout) same lies in
    let found : slice_get (rows_of infos layouts) i ≡ Some row = row_at infos layouts i info layout here there ∙ ap (λ (r : TypeRow). Some r) (sym by) in
    ap (λ (xs : List TypeRow). slice_set xs i row) so_far ∙ front_more (rows_of infos layouts) old i row found lt

-- there are as many rows as infos, if there are as many layouts
pub length_rows : (infos : List TypeInfo) (layouts : List TypeLayout) → length layouts ≡ length infos → length (rows_of infos layouts) ≡ length infos
length_rows [] layouts e = refl
length_rows (x ∷ infos) [] e = absurd (omega (arith, e))
length_rows (x ∷ infos) (l ∷ layouts) e = let rest : length (rows_of infos layouts) ≡ length infos = length_rows infos layouts (omega (arith, e)) in ap suc rest

-- an outcome in which a number is written
pub with_written : (o p : Outcome) (n k : ℕ) → o ≡ p → n ≡ k → record o { written = n } ≡ record p { written = k }
with_written o p n k h e = ap (λ (x : Outcome). let r : Outcome = record x { written = n } in r) h ∙ ap (λ (j : ℕ). let r : Outcome = record p { written = j } in r) e
