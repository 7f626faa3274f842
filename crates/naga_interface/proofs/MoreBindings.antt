-- The bindings of the members of a struct, and of arguments, one after another.
use Rattle.std.proofs.Common.{◌≡◌, ◌∙◌, ◌+◌, ◌<◌, ◌||◌, ℕ, Bool, true, List, [], ◌∷◌, ◌++◌, append_assoc, drop, get_or, length, take, ap, sym}
use Rattle.std.proofs.Math.Bool.{or_comm}
use Rattle.std.proofs.lemmas.Grind.{flat_map-append}
use Rattle.std.proofs.lemmas.List.{append-nil, take-append-drop, take_more}
use Rattle.std.proofs.lemmas.List.Elements.{filter_map-append}
use Rattle.std.proofs.lemmas.List.Folds.{list_any-append}
use Rattle.std.specs.List.{list_any}
use Rattle.naga_interface.specs.EntryPoints.{argument_bindings}
use Rattle.naga_interface.specs.Surroundings.{InterfaceSurroundings}
use Rattle.naga_interface.specs.Varyings.{bindings_of, member_bindings}
use Rattle.naga_ir.specs.declared.ir.FunctionArgument.{FunctionArgument}
use Rattle.naga_ir.specs.declared.types.Binding.{Binding}
use Rattle.naga_ir.specs.declared.types.StructMember.{StructMember}

-- lists made of lists, where what is made of two lists is made of each
module _ {X Y : Type 0} (f : List X → List Y) (joins : (xs ys : List X) → f (xs ++ ys) ≡ f xs ++ f ys) (xs : List X) (i : ℕ) (x : X) (within : i < length xs) (at : x ≡ get_or xs i x) where
  -- one item more
  more : f (take (i + 1) xs) ≡ f (take i xs) ++ f (x ∷ [])
  more = ap f (take_more xs i x within) ∙ joins (take i xs) (get_or xs i x ∷ []) ∙ ap (λ (y : X). f (take i xs) ++ f (y ∷ [])) (sym at)

  -- a test that something made of an item passes is passed by something made of all
  passes : (p : Y → Bool) → list_any p (f (x ∷ [])) ≡ true → list_any p (f xs) ≡ true
  passes p one =
      let before = f (take i xs) in
      let after = f (drop (i + 1) xs) in
      let here : list_any p (f (take (i + 1) xs)) ≡ true =
      ap (list_any p) more ∙ list_any-append p before (f (x ∷ [])) ∙ ap (λ (b : Bool). list_any p before || b) one ∙ or_comm (list_any p before) true in
      ap (λ (ys : List X). list_any p (f ys)) (sym (take-append-drop (i + 1) xs))
      ∙ ap (list_any p) (joins (take (i + 1) xs) (drop (i + 1) xs))
      ∙ list_any-append p (f (take (i + 1) xs)) after
      ∙ ap (λ (b : Bool). b || list_any p after) here

members_join : (xs ys : List StructMember) → member_bindings (xs ++ ys) ≡ member_bindings xs ++ member_bindings ys
members_join = filter_map-append (λ (m : StructMember). m.binding)

-- after some bindings, the bindings of the members up to a place, and of the member there
pub member_more : (earlier : List Binding) (members : List StructMember) (i : ℕ) (m : StructMember) → i < length members → m ≡ get_or members i m
    → (earlier ++ member_bindings (take i members)) ++ member_bindings (m ∷ []) ≡ earlier ++ member_bindings (take (i + 1) members)
member_more earlier members i m within at =
    append_assoc earlier (member_bindings (take i members)) (member_bindings (m ∷ [])) ∙ ap (λ (bs : List Binding). earlier ++ bs) (sym (more member_bindings members_join members i m within at))

-- a test that the binding of a member passes is passed by a binding of all
pub member_passes : (p : Binding → Bool) (members : List StructMember) (i : ℕ) (m : StructMember) → i < length members → m ≡ get_or members i m → list_any p (member_bindings (m ∷ [])) ≡ true
    → list_any p (member_bindings members) ≡ true
member_passes p members i m within at = passes member_bindings members_join members i m within at p

module _ (s : InterfaceSurroundings) where
  arguments_join : (xs ys : List FunctionArgument) → argument_bindings s (xs ++ ys) ≡ argument_bindings s xs ++ argument_bindings s ys
  arguments_join = flat_map-append (λ (a : FunctionArgument). bindings_of s a.ty a.binding)

  -- the bindings of the arguments up to a place, and of the argument there
  pub argument_more : (arguments : List FunctionArgument) (i : ℕ) (a : FunctionArgument) → i < length arguments → a ≡ get_or arguments i a
      → argument_bindings s (take i arguments) ++ bindings_of s a.ty a.binding ≡ argument_bindings s (take (i + 1) arguments)
  argument_more arguments i a within at =
      ap (λ (bs : List Binding). argument_bindings s (take i arguments) ++ bs) (sym (append-nil (bindings_of s a.ty a.binding)))
      ∙ sym (more (argument_bindings s) arguments_join arguments i a within at)

  -- a test that a binding of an argument passes is passed by a binding of all
  pub argument_passes : (p : Binding → Bool) (arguments : List FunctionArgument) (i : ℕ) (a : FunctionArgument) → i < length arguments → a ≡ get_or arguments i a → list_any p (bindings_of s a.ty a.binding) ≡ true
      → list_any p (argument_bindings s arguments) ≡ true
  argument_passes p arguments i a within at one =
      passes (argument_bindings s) arguments_join arguments i a within at p (ap (list_any p) (append-nil (bindings_of s a.ty a.binding)) ∙ one)
