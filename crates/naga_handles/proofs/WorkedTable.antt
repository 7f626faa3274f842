-- The table of expressions that name the types 1, 0 and 2.
use Rattle.std.proofs.Common.{◌≡◌, [], ◌∷◌, Some, None, slice_get, refl, arith}
use Rattle.naga_ir.specs.ItemReferences.{GlobalLists}
use Rattle.naga_ir.specs.References.{named_type}
use Rattle.naga_ir.specs.declared.expression.Expression.TheVariants.{ZeroValue}
use Rattle.naga_handles.specs.steps.VisitState.{IsGreatest, IsTable}
use Rattle.naga_handles.proofs.VisitLemmas.{greatest_more, greatest_none, table_more, table_none}

module _ (g : GlobalLists) (first : slice_get g.expressions 0 ≡ Some (ZeroValue 1)) (second : slice_get g.expressions 1 ≡ Some (ZeroValue 0)) (third : slice_get g.expressions 2 ≡ Some (ZeroValue 2)) where
  pub table_1_1_2 : IsTable g (Some 1 ∷ Some 1 ∷ Some 2 ∷ []) 3 3
  unfolding named_type
  table_1_1_2 =
      let one : IsGreatest g 1 (Some 1) = greatest_more g 0 (ZeroValue 1) None (Some 1) (Some 1) first refl (greatest_none g) refl in
      let two : IsGreatest g 2 (Some 1) = greatest_more g 1 (ZeroValue 0) (Some 1) (Some 0) (Some 1) second refl one refl in
      let three : IsGreatest g 3 (Some 2) = greatest_more g 2 (ZeroValue 2) (Some 1) (Some 2) (Some 2) third refl two refl in
      let table_1 = table_more g [] 0 3 (Some 1) (table_none g 3) (omega arith) one in
      let table_1_1 = table_more g (Some 1 ∷ []) 1 3 (Some 1) table_1 (omega arith) two in
      table_more g (Some 1 ∷ Some 1 ∷ []) 2 3 (Some 2) table_1_1 (omega arith) three
