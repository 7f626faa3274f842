-- Small modules, and what the definitions of handles say of them.
use Rattle.std.proofs.Common.{◌≡◌, ℕ, ◌<◌, zero, suc, List, [], ◌∷◌, map, Some, None, All, Contains, slice_get, slice_index_or, subst, refl, sym, ap, arith}
use Rattle.std.proofs.lemmas.Option.{same_Some}
use Rattle.std.proofs.lemmas.List.Elements.{All-nil, All-cons}
use Rattle.naga_ir.specs.Handles.{Exists, EverythingExists, ReferencesPrecede, HandlesAccepted, MemberExists, OrderedInModule, OrderedReference, SizesResolveFirst, among_globals, parent_filter, calls_function, constant, function_counts, in_function, module_counts, operand, override, part, place_of, size_initialiser, size_type}
use Rattle.naga_ir.specs.ItemReferences.{GlobalLists, function_references, global_lists}
use Rattle.naga_ir.specs.References.{named_item, named_type, operands}
use Rattle.naga_ir.specs.Parts.{parts, size_override}
use Rattle.naga_ir.specs.Ranks.{first_waiting, least, rank_of_expression, rank_of_type, top_before}
use Rattle.naga_ir.specs.declared.types.«Type».{«Type»}
use Rattle.naga_ir.specs.declared.types.ArraySize.TheVariants.{Pending}
use Rattle.naga_ir.specs.declared.types.ScalarKind.TheVariants.{Uint}
use Rattle.naga_ir.specs.declared.types.TypeInner.TheVariants.{Array, Scalar}
use Rattle.naga_ir.specs.declared.expression.Expression.{Expression}
use Rattle.naga_ir.specs.declared.expression.Expression.TheVariants.{Constant, ZeroValue, Override as Over}
use Rattle.naga_ir.specs.declared.ir.Override.{Override}
use Rattle.naga_ir.specs.declared.ir.Function.{Function}
use Rattle.naga_ir.specs.declared.ir.Module.{Module}
use Rattle.naga_ir.specs.declared.reference.Reference.{Reference}
use Rattle.naga_ir.specs.declared.reference.Reference.TheVariants as to

-- a module of global lists, in which these functions are documented
abbrev pub of_lists : GlobalLists → List ℕ → Module
of_lists g documented = record {
  types = g.types;
  special_types = record { ray_desc = None; ray_intersection = None; ray_vertex_return = None; others = [] };
  constants = g.constants;
  overrides = g.overrides;
  global_variables = [];
  global_expressions = g.expressions;
  functions = [];
  entry_points = [];
  diagnostic_filters = [];
  diagnostic_filter_leaf = None;
  doc_comments = record { «module» = []; types = []; struct_members = []; entry_points = []; functions = map (λ f. (f, [])) documented; constants = []; global_variables = [] };
}

-- a type of unsigned numbers, and an array of it that an override sizes
abbrev pub number : «Type»
number = record { name = None; inner = Scalar (record { kind = Uint; width = 4 }) }

abbrev pub sized_array : «Type»
sized_array = record { name = None; inner = Array 0 (Pending 0) 4 }

-- the override's initialiser names the type of this index
abbrev pub naming : ℕ → GlobalLists
naming u = record {
  types = number ∷ sized_array ∷ [];
  constants = [];
  overrides = record { name = None; id = None; ty = 0; init = Some 0 } ∷ [];
  expressions = ZeroValue u ∷ [];
}

-- a global expression and a constant that name each other
abbrev pub circular : GlobalLists
circular = record {
  types = number ∷ [];
  constants = record { name = None; ty = 0; init = 0 } ∷ [];
  overrides = [];
  expressions = Constant 0 ∷ [];
}

-- if the initialiser names the array itself, the size does not resolve first
pub names_itself : ¬ (SizesResolveFirst (global_lists (of_lists (naming 1) [])))
unfolding size_initialiser size_override named_type
names_itself holds =
    let before : 1 < 1 = holds 1 0 0 1 refl (omega arith) (ZeroValue 1, refl, refl) in omega (arith, before)

-- an expression before the initialiser names the array
abbrev pub named_earlier : GlobalLists
named_earlier = record {
  types = number ∷ sized_array ∷ [];
  constants = [];
  overrides = record { name = None; id = None; ty = 0; init = Some 1 } ∷ [];
  expressions = ZeroValue 1 ∷ ZeroValue 0 ∷ [];
}

-- its size does not resolve first either
pub named_before_the_size : ¬ (SizesResolveFirst (global_lists (of_lists named_earlier [])))
unfolding size_initialiser size_override named_type
named_before_the_size holds =
    let before : 1 < 1 = holds 1 1 0 1 refl (omega arith) (ZeroValue 1, refl, refl) in omega (arith, before)

-- what names itself by way of a constant does not go back
pub names_each_other : ¬ (ReferencesPrecede (OrderedInModule (of_lists circular [])))
names_each_other back =
    let before : 0 < 0 = back _ _ (among_globals _ _ (constant 0 0 (record { name = None; ty = 0; init = 0 }) refl refl)) in omega (arith, before)

-- a comment on a function that is not there
pub comment_on_nothing : ¬ (EverythingExists (of_lists (naming 0) (5 ∷ [])))
comment_on_nothing exist =
    let there : 5 < 0 = exist.others 0 (to.Function 5) (omega arith) in omega (arith, there)

-- if the initialiser names a preceding type, the order is type, initialiser, array
pub first_of_three : rank_of_type (naming 0) 0 ≡ 0
unfolding size_initialiser size_override top_before
first_of_three = refl

pub second_of_three : rank_of_expression (naming 0) 0 ≡ 1
unfolding size_initialiser size_override first_waiting least
second_of_three = refl

pub third_of_three : rank_of_type (naming 0) 1 ≡ 2
unfolding size_initialiser size_override top_before
third_of_three = refl

-- an expression after the initialiser may name the array, and comes after it
abbrev pub named_later : GlobalLists
named_later = record (naming 0) { expressions = ZeroValue 0 ∷ ZeroValue 1 ∷ [] }

pub last_of_four : rank_of_expression named_later 1 ≡ 3
unfolding size_initialiser size_override first_waiting least
last_of_four = refl

-- a constant's type is nothing that an expression needs: the array is the type of a constant that its size depends on
abbrev pub typed_constant : GlobalLists
typed_constant = record {
  types = number ∷ sized_array ∷ [];
  constants = record { name = None; ty = 1; init = 0 } ∷ [];
  overrides = record { name = None; id = None; ty = 0; init = Some 1 } ∷ [];
  expressions = ZeroValue 0 ∷ Constant 0 ∷ [];
}

pub second_before_the_array : rank_of_expression typed_constant 1 ≡ 2
unfolding size_initialiser size_override first_waiting least
second_before_the_array = refl

pub array_after_both : rank_of_type typed_constant 1 ≡ 3
unfolding size_initialiser size_override top_before
array_after_both = refl

-- the handles of the module of three are right
module _ where
  abbrev pub three : Module
  three = of_lists (naming 0) []

  abbrev types : List «Type»
  types = number ∷ sized_array ∷ []

  part_before : (t u : ℕ) (x : «Type») → slice_get types t ≡ Some x → Contains (parts x.inner) u → u < t
  unfolding parts
  part_before zero u x at c = let none = subst (λ (x : «Type»). Contains (parts x.inner) u) (sym (same_Some number x at)) c in absurd (omega (arith, none.1))
  part_before (suc zero) u x at c =
      let one : Contains (0 ∷ []) u = subst (λ (x : «Type»). Contains (parts x.inner) u) (sym (same_Some sized_array x at)) c in
      let within : one.0 < 1 = one.1 in
      let place : one.0 ≡ 0 = omega (arith, within) in
      let is : 0 ≡ u = subst (λ k. slice_index_or (0 ∷ []) k u ≡ u) place one.2 in omega (arith, is)
  part_before (suc (suc t)) u x at c = cc

  size_before : (t o : ℕ) (x : «Type») (v : Override) → slice_get types t ≡ Some x → size_override x.inner ≡ Some o → slice_get three.overrides o ≡ Some v → v.ty < t
  unfolding size_override
  size_before zero o x v at size over = let none = subst (λ (x : «Type»). size_override x.inner ≡ Some o) (sym (same_Some number x at)) size in cc
  size_before (suc zero) zero x v at size over = let is : 0 ≡ v.ty = ap (λ (v : Override). v.ty) (same_Some (record { name = None; id = None; ty = 0; init = Some 0 }) v over) in omega (arith, is)
  size_before (suc zero) (suc o) x v at size over = cc
  size_before (suc (suc t)) o x v at size over = cc

  operand_before : (e o : ℕ) (x : Expression) → slice_get three.global_expressions e ≡ Some x → Contains (operands x) o → o < e
  unfolding operands
  operand_before zero o x at c = let none = subst (λ x. Contains (operands x) o) (sym (same_Some (ZeroValue 0) x at)) c in absurd (omega (arith, none.1))
  operand_before (suc e) o x at c = cc

  no_constant : (e c : ℕ) → slice_get three.global_expressions e ≡ Some (Constant c) → ⊥
  no_constant zero c at = let is = same_Some (ZeroValue 0) (Constant c) at in cc
  no_constant (suc e) c at = cc

  no_override : (e o : ℕ) → slice_get three.global_expressions e ≡ Some (Over o) → ⊥
  no_override zero o at = let is = same_Some (ZeroValue 0) (Over o) at in cc
  no_override (suc e) o at = cc

  global_back : (s t : Reference) → OrderedReference (global_lists three) s t → place_of t < place_of s
  global_back s t (part k u x at c) = part_before k u x at c
  global_back s t (size_type k o x v at size over) = size_before k o x v at size over
  global_back s t (operand e o x at c) = operand_before e o x at c
  global_back s t (constant e c d at value) = absurd (no_constant e c at)
  global_back s t (override e o n v at value init) = absurd (no_override e o at)

  go_back : (s t : Reference) → OrderedInModule three s t → place_of t < place_of s
  go_back s t (among_globals a b p) = global_back a b p
  go_back s t (in_function f a b stands p) = absurd (omega (arith, stands.1))
  go_back s t (calls_function i j f at c) = cc
  go_back s t (parent_filter i j n at p) = cc

  sizes_hold : SizesResolveFirst (global_lists three)
  unfolding size_initialiser size_override named_type
  sizes_hold zero n e u size before names = cc
  sizes_hold (suc zero) n zero u size before names =
      let named = subst (λ x. named_type x ≡ Some u) (sym (same_Some (ZeroValue 0) names.0 names.1)) names.2 in
      let is : 0 ≡ u = same_Some 0 u named in omega (arith, is)
  sizes_hold (suc zero) n (suc e) u size before names = let past = names.1 in cc
  sizes_hold (suc (suc t)) n e u size before names = cc

  exist : EverythingExists three
  unfolding parts size_override operands named_type named_item
  exist =
      let here = Exists (module_counts three) in
      let fifth = All-cons here (to.Type_ 0) [] (omega arith) (All-nil here) in
      let fourth = All-cons here (to.Expression 0) (to.Type_ 0 ∷ []) (omega arith) fifth in
      let third = All-cons here (to.Type_ 0) (to.Expression 0 ∷ to.Type_ 0 ∷ []) (omega arith) fourth in
      let second = All-cons here (to.Override 0) (to.Type_ 0 ∷ to.Expression 0 ∷ to.Type_ 0 ∷ []) (omega arith) third in
      record {
        globals = All-cons here (to.Type_ 0) (to.Override 0 ∷ to.Type_ 0 ∷ to.Expression 0 ∷ to.Type_ 0 ∷ []) (omega arith) second;
        filters = All-nil here;
        others = All-nil here;
        in_functions = All-nil (λ (f : Function). All (Exists (function_counts three f)) (function_references f));
        documented_members = All-nil (λ (c : (ℕ × ℕ) × List (List ℕ)). MemberExists types c.0);
        documented_entry_points = All-nil (λ (c : ℕ × List (List ℕ)). c.0 < 0);
      }

  pub three_are_accepted : HandlesAccepted three
  three_are_accepted = record { exist = exist; back = go_back; sizes = sizes_hold }
