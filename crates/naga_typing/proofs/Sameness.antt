-- Whether two types are the same: the bool and the relation agree.
use Rattle.std.proofs.Common.{◌≡◌, ◌==◌, ◌&&◌, ◌↔◌, ◌⊎◌, inl, inr, ℕ, Bool, true, false, not, Decides, IsFalse, IsTrue, List, Option, Some, None, refl, sym, ap, subst₂, true≢false, ◌∙◌}
use Rattle.std.proofs.lemmas.Bool.Decides.{Decides-and, Decides-eqb, Decides-like, Decides-or, same_from_decides}
use Rattle.std.proofs.lemmas.Option.{same_Some}
use Rattle.naga_ir.proofs.SameInner.{inner_decides}
use Rattle.naga_ir.specs.TypeWords.{IsNotStruct, IsStruct, is_struct}
use Rattle.naga_ir.specs.contracts.types.TypeInnerPartialEq.TheImpl as of_inner
use Rattle.naga_ir.specs.declared.types.«Type».{«Type»}
use Rattle.naga_ir.specs.declared.types.TypeInner.{TypeInner}
use Rattle.naga_typing.specs.Sameness.{are_same, are_same_found, are_same_inners, is_one_handle}
use Rattle.naga_typing.specs.Resolutions.{AreOneHandle, AreSameInners, AreSameTypes, canonical, handle_of, inner_in}
use Rattle.naga_typing.specs.declared.typifier.TypeResolution.{TypeResolution}
use Rattle.naga_typing.specs.declared.typifier.TypeResolution.TheVariants.{Handle}

struct_decides : (x : TypeInner) → Decides (is_struct x) (IsStruct x)
struct_decides x = (λ e. e, λ h. h)

false_decides : (b : Bool) → Decides (not b) (IsFalse b)
false_decides true = (λ e. absurd (true≢false (sym e)), λ h. absurd (true≢false h))
false_decides false = (λ _. refl, λ _. refl)

no_struct_decides : (x : TypeInner) → Decides (not (is_struct x)) (IsNotStruct x)
no_struct_decides x = false_decides (is_struct x)

same_handle : (t u : ℕ) → Handle t ≡ Handle u → t ≡ u
same_handle t u e = cc

one_handle_decides : (lhs rhs : TypeResolution) → Decides (is_one_handle (handle_of lhs) (handle_of rhs)) (AreOneHandle lhs rhs)
one_handle_decides (Handle t) (Handle u) =
    Decides-like (t == u)
    (λ (e : t ≡ u). (t, refl, sym (ap Handle e)))
    (λ (h : AreOneHandle (Handle t) (Handle u)). same_handle t u (h.1 ∙ sym h.2))
    (Decides-eqb t u)
one_handle_decides _ _ = (λ e. absurd (true≢false (sym e)), λ h. cc (h.1, h.2))

module _ {P Q R : Type 0} where
  all_three : (x y z : Bool) → Decides x P → Decides y Q → Decides z R → Decides (x && (y && z)) (P × Q × R)
  all_three x y z p q r =
      Decides-like (x && (y && z))
      (λ (h : P × (Q × R)). (h.0, h.1.0, h.1.1))
      (λ (h : P × Q × R). (h.0, (h.1, h.2)))
      (Decides-and x (y && z) p (Decides-and y z q r))

module _ (types : List «Type») (lhs rhs : TypeResolution) where
  abbrev unary : Bool
  unary = is_one_handle (handle_of lhs) (handle_of rhs)

  inners_decide : (x y : TypeInner) → Decides (are_same_inners types unary x y) (AreSameInners types lhs rhs x y)
  inners_decide x y =
      let equal = of_inner.ghosts.eq (canonical types x) (canonical types y) in
      Decides-or (is_struct x && (is_struct y && unary)) (not (is_struct x) && (not (is_struct y) && equal))
      (all_three (is_struct x) (is_struct y) unary (struct_decides x) (struct_decides y) (one_handle_decides lhs rhs))
      (all_three (not (is_struct x)) (not (is_struct y)) equal (no_struct_decides x) (no_struct_decides y) (inner_decides (canonical types x) (canonical types y)))

  -- there are two types, and they are the same
  abbrev pub AreSameFound : Option TypeInner → Option TypeInner → Type 0
  AreSameFound l r = (x : TypeInner) × (y : TypeInner) × (l ≡ Some x) × (r ≡ Some y) × AreSameInners types lhs rhs x y

  found_decides : (l r : Option TypeInner) → Decides (are_same_found types unary l r) (AreSameFound l r)
  found_decides (Some x) (Some y) =
      Decides-like (are_same_inners types unary x y)
      (λ (same : AreSameInners types lhs rhs x y). (x, y, refl, refl, same))
      (λ (h : AreSameFound (Some x) (Some y)). subst₂ (AreSameInners types lhs rhs) (sym (same_Some x h.0 h.2)) (sym (same_Some y h.1 h.3)) h.4)
      (inners_decide x y)
  found_decides None _ = (λ e. absurd (true≢false (sym e)), λ (h : AreSameFound None _). cc (h.2))
  found_decides (Some x) None = (λ e. absurd (true≢false (sym e)), λ h. cc (h.3))

-- the bool decides the relation
pub same_decides : (types : List «Type») (lhs rhs : TypeResolution) → Decides (are_same types lhs rhs) (AreSameTypes types lhs rhs)
unfolding are_same
same_decides types lhs rhs = found_decides types lhs rhs _ _

-- a bool that decides the relation is that one
pub same_types : (types : List «Type») (lhs rhs : TypeResolution) (result : Bool) → IsTrue result ↔ AreSameTypes types lhs rhs → result ≡ are_same types lhs rhs
same_types types lhs rhs result says = same_from_decides result (are_same types lhs rhs) says (same_decides types lhs rhs)

true_or_false : (b : Bool) → IsTrue b ⊎ IsFalse b
true_or_false true = inl refl
true_or_false false = inr refl

-- resolutions that are one handle are of the same type
pub one_handle_is_same : (types : List «Type») (lhs rhs : TypeResolution) (x : TypeInner) → inner_in types lhs ≡ Some x → AreOneHandle lhs rhs → AreSameTypes types lhs rhs
one_handle_is_same types lhs rhs x at one = (x, x, at, ap (inner_in types) (one.2 ∙ sym one.1) ∙ at, same (true_or_false (is_struct x)))
  where
    same : IsStruct x ⊎ IsNotStruct x → AreSameInners types lhs rhs x x
    same (inl is) = inl (is, is, one)
    same (inr is) = inr (is, is, refl)
