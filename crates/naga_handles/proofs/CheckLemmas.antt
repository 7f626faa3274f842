-- Checks of lists, by the checks of their items.
use Rattle.std.proofs.Common.{ℕ, ◌≡◌, ◌∙◌, List, [], ◌∷◌, ◌++◌, Option, Some, None, Bor, ap, map, refl, subst, sym, option_to_list}
use Rattle.std.specs.Prelude.{Result, Ok, Err, option_map}
use Rattle.std.specs.Fn.{FnReturnsAt, Shared}
use Rattle.std.specs.List.{flat_map}
use Rattle.std.proofs.lemmas.List.{map-append}
use Rattle.std.proofs.lemmas.List.Concat.{flat_map_single}
use Rattle.naga_ir.specs.Handles.{Counts}
use Rattle.naga_ir.specs.ItemReferences.{named_references}
use Rattle.naga_ir.specs.Operands.{present}
use Rattle.naga_ir.specs.References.{named_item, named_type}
use Rattle.naga_ir.specs.declared.expression.Expression.{Expression}
use Rattle.naga_ir.specs.declared.ir.DiagnosticFilterNode.{DiagnosticFilterNode}
use Rattle.naga_ir.specs.FirstError.{ChecksEach}
use Rattle.naga_ir.specs.declared.reference.Reference.{Reference}
use Rattle.naga_ir.specs.declared.reference.Reference.TheVariants as to
use Rattle.naga_ir.proofs.StatementLemmas.{checks-along, checks-before, checks-none, checks-single, checks-then}
use Rattle.naga_handles.specs.steps.ItemChecks.{IsResult, IsOperandResult, Check, filter_checks, checks}
use Rattle.naga_handles.specs.steps.Checks.{Subjects, of_expression, of_filter}
use Rattle.naga_handles.specs.declared.error.InvalidHandleError.{InvalidHandleError}
use Rattle.naga_handles.proofs.PassedPrefix.{flatten}

-- checking items is checking what each gives
pub checks-map : {A B E : Type 0} (each : A → Result (Unit {0}) E → Type 0) (check : B → Result (Unit {0}) E → Type 0) (f : A → B) (xs : List A) (r : Result (Unit {0}) E)
    → ((x : A) (s : Result (Unit {0}) E) → each x s → check (f x) s) → ChecksEach each xs r → ChecksEach check (map f xs) r
checks-map each check f xs r means h =
    checks-along check _ _ r (flat_map_single f xs)
    (flatten check each (λ x. f x ∷ []) xs r (λ x s a. checks-single check (f x) s (means x s a)) h)

-- the check of an item of a list
abbrev pub check : Counts → Subjects → Reference → Check
check n subjects r = record { there = n; subject = subjects r; target = r }

reads-map : {A : Type 0} (n : Counts) (subjects : Subjects) (to_reference : A → Reference) (xs : List A)
    → map (λ x. check n subjects (to_reference x)) xs ≡ checks n subjects (map to_reference xs)
reads-map n subjects to_reference [] = refl
reads-map n subjects to_reference (x ∷ xs) = ap (λ ys. check n subjects (to_reference x) ∷ ys) (reads-map n subjects to_reference xs)

-- checking items is checking their references
pub checks-references : {A : Type 0} (n : Counts) (subjects : Subjects) (each : A → Result (Unit {0}) InvalidHandleError → Type 0) (to_reference : A → Reference) (xs : List A)
    (r : Result (Unit {0}) InvalidHandleError) → ((x : A) (s : Result (Unit {0}) InvalidHandleError) → each x s → IsResult (check n subjects (to_reference x)) s)
    → ChecksEach each xs r → ChecksEach IsResult (checks n subjects (map to_reference xs)) r
checks-references n subjects each to_reference xs r means h =
    checks-along IsResult _ _ r (reads-map n subjects to_reference xs) (checks-map each IsResult (λ x. check n subjects (to_reference x)) xs r means h)

-- the checks of two lists, one after the other
reads-append : (n : Counts) (subjects : Subjects) (xs ys : List Reference) → checks n subjects xs ++ checks n subjects ys ≡ checks n subjects (xs ++ ys)
reads-append n subjects xs ys = sym (map-append (check n subjects) xs ys)

-- if the first of two lists is accepted, the other decides
pub references-then : (n : Counts) (subjects : Subjects) (xs ys : List Reference) (r : Result (Unit {0}) InvalidHandleError)
    → ChecksEach IsResult (checks n subjects xs) (Ok tt) → ChecksEach IsResult (checks n subjects ys) r → ChecksEach IsResult (checks n subjects (xs ++ ys)) r
references-then n subjects xs ys r accepted h =
    checks-along IsResult _ _ r (reads-append n subjects xs ys) (checks-then IsResult (checks n subjects xs) (checks n subjects ys) r accepted h)

-- one of them is refused, so the others aren't taken
pub references-before : (n : Counts) (subjects : Subjects) (xs ys : List Reference) (error : InvalidHandleError)
    → ChecksEach IsResult (checks n subjects xs) (Err error) → ChecksEach IsResult (checks n subjects (xs ++ ys)) (Err error)
references-before n subjects xs ys error h =
    checks-along IsResult _ _ (Err error) (reads-append n subjects xs ys) (checks-before IsResult (checks n subjects xs) (checks n subjects ys) error h)

-- checking operands is checking the references to them
pub checks-operands : (n : Counts) (e : ℕ) (xs : List ℕ) (r : Result (Unit {0}) InvalidHandleError)
    → ChecksEach (IsOperandResult e) xs r → ChecksEach IsResult (checks n (of_expression e) (map to.Expression xs)) r
checks-operands n e xs r h = checks-references n (of_expression e) (IsOperandResult e) to.Expression xs r (λ x s a. a) h

-- checking items by plain checks is checking all their references
pub checks-flat : {A : Type 0} (n : Counts) (subjects : Subjects) (each : A → Result (Unit {0}) InvalidHandleError → Type 0) (references : A → List Reference) (xs : List A)
    (r : Result (Unit {0}) InvalidHandleError) → ((x : A) (s : Result (Unit {0}) InvalidHandleError) → each x s → ChecksEach IsResult (checks n subjects (references x)) s)
    → ChecksEach each xs r → ChecksEach IsResult (checks n subjects (flat_map references xs)) r
checks-flat {A = A} n subjects each references xs r means h =
    checks-along IsResult _ _ r (reads-flat xs) (flatten IsResult each (λ x. checks n subjects (references x)) xs r means h)
  where
    reads-flat : (ys : List A) → flat_map (λ x. checks n subjects (references x)) ys ≡ checks n subjects (flat_map references ys)
    reads-flat [] = refl
    reads-flat (y ∷ ys) = ap (λ zs. checks n subjects (references y) ++ zs) (reads-flat ys) ∙ reads-append n subjects (references y) (flat_map references ys)

-- the named type and item of an expression, as references
pub named-present : (x : Expression) → present (option_map to.Type_ (named_type x) ∷ named_item x ∷ []) ≡ named_references x
named-present x = by_cases (named_type x) (named_item x)
  where
    by_cases : (t : Option ℕ) (r : Option Reference) → present (option_map to.Type_ t ∷ r ∷ []) ≡ map to.Type_ (option_to_list t) ++ option_to_list r
    by_cases None None = refl
    by_cases None (Some r) = refl
    by_cases (Some t) None = refl
    by_cases (Some t) (Some r) = refl

-- checking items by a closure that makes plain checks is checking all their references
pub checks-called : {A F : Type 0} {g : Shared F (Bor A × Unit {0}) (Result (Unit {0}) InvalidHandleError)} {f : F} {ys : List A} {r : Result (Unit {0}) InvalidHandleError}
    (n : Counts) (subjects : Subjects) (references : A → List Reference) (xs : List A) → ys ≡ xs
    → ((y : Bor A) (t : Result (Unit {0}) InvalidHandleError) → g.post f (y, tt) t → ChecksEach IsResult (checks n subjects (references y.now)) t)
    → ChecksEach (FnReturnsAt g f) ys r → ChecksEach IsResult (checks n subjects (flat_map references xs)) r
checks-called {g = g} {f = f} {ys = ys} {r = r} n subjects references xs e means h =
    checks-flat n subjects (FnReturnsAt g f) references xs r
    (λ x t a. subst (λ y. ChecksEach IsResult (checks n subjects (references y)) t) a.shows (means a.shown t a.says.met))
    (checks-along (FnReturnsAt g f) ys xs r e h)

-- checking items by a closure that checks one reference is checking the reference of each
pub checks-called-one : {A F : Type 0} {g : Shared F (Bor A × Unit {0}) (Result (Unit {0}) InvalidHandleError)} {f : F} {ys : List A} {r : Result (Unit {0}) InvalidHandleError}
    (n : Counts) (subjects : Subjects) (reference : A → Reference) (xs : List A) → ys ≡ xs
    → ((y : Bor A) (t : Result (Unit {0}) InvalidHandleError) → g.post f (y, tt) t → IsResult (check n subjects (reference y.now)) t)
    → ChecksEach (FnReturnsAt g f) ys r → ChecksEach IsResult (checks n subjects (map reference xs)) r
checks-called-one {r = r} n subjects reference xs e means h =
    checks-along IsResult _ _ r (ap (checks n subjects) (flat_map_single reference xs))
    (checks-called n subjects (λ x. reference x ∷ []) xs e (λ y t k. checks-single IsResult (check n subjects (reference y.now)) t (means y t k)) h)

-- checking references by a closure
pub checks-visited : {each : Reference → Result (Unit {0}) InvalidHandleError → Type 0} {r : Result (Unit {0}) InvalidHandleError}
    (n : Counts) (subjects : Subjects) (xs : List Reference) → ((x : Reference) (t : Result (Unit {0}) InvalidHandleError) → each x t → IsResult (check n subjects x) t)
    → ChecksEach each xs r → ChecksEach IsResult (checks n subjects xs) r
checks-visited {each = each} {r = r} n subjects xs means h = checks-map each IsResult (check n subjects) xs r means h

-- a reference that may be there, as the references that are
pub one-present : {A : Type 0} (f : A → Reference) (o : Option A) → present (option_map f o ∷ []) ≡ map f (option_to_list o)
one-present f None = refl
one-present f (Some x) = refl

-- three references that may be there, and others after them
pub three-present : {A : Type 0} (f : A → Reference) (a b c : Option A) (rest : List A)
    → present (option_map f a ∷ option_map f b ∷ option_map f c ∷ []) ++ map f rest ≡ map f (option_to_list a ++ (option_to_list b ++ (option_to_list c ++ rest)))
three-present f None None None rest = refl
three-present f None None (Some z) rest = refl
three-present f None (Some y) None rest = refl
three-present f None (Some y) (Some z) rest = refl
three-present f (Some x) None None rest = refl
three-present f (Some x) None (Some z) rest = refl
three-present f (Some x) (Some y) None rest = refl
three-present f (Some x) (Some y) (Some z) rest = refl

-- a filter without parent has no check
pub filter-alone : (n : Counts) (d : ℕ) (node : DiagnosticFilterNode) → node.parent ≡ None → ChecksEach IsResult (filter_checks n (d, node)) (Ok tt)
filter-alone n d node e = checks-along IsResult _ _ (Ok tt) (ap (λ (o : Option ℕ). checks n (of_filter d) (map to.DiagnosticFilterNode (option_to_list o))) (sym e)) (checks-none IsResult)

-- the parent of a filter is checked once
pub filter-around : (n : Counts) (d parent : ℕ) (node : DiagnosticFilterNode) (r : Result (Unit {0}) InvalidHandleError) → node.parent ≡ Some parent
    → IsResult (check n (of_filter d) (to.DiagnosticFilterNode parent)) r → ChecksEach IsResult (filter_checks n (d, node)) r
filter-around n d parent node r e h =
    checks-along IsResult _ _ r (ap (λ (o : Option ℕ). checks n (of_filter d) (map to.DiagnosticFilterNode (option_to_list o))) (sym e)) (checks-single IsResult (check n (of_filter d) (to.DiagnosticFilterNode parent)) r h)

-- the references of those options that have one
pub flat-present : {A : Type 0} (f : A → Reference) (os : List (Option A)) → flat_map (λ o. map f (option_to_list o)) os ≡ map f (flat_map option_to_list os)
flat-present f [] = refl
flat-present f (o ∷ os) = ap (λ rs. map f (option_to_list o) ++ rs) (flat-present f os) ∙ sym (map-append f (option_to_list o) (flat_map option_to_list os))

-- checking items by a closure, if it checks what each item has
pub checks-called-map : {A B F E : Type 0} {g : Shared F (Bor A × Unit {0}) (Result (Unit {0}) E)} {f : F} {ys : List A} {r : Result (Unit {0}) E}
    (check : B → Result (Unit {0}) E → Type 0) (part : A → B) (xs : List A) → ys ≡ xs
    → ((y : Bor A) (t : Result (Unit {0}) E) → g.post f (y, tt) t → check (part y.now) t) → ChecksEach (FnReturnsAt g f) ys r → ChecksEach check (map part xs) r
checks-called-map {g = g} {f = f} {ys = ys} {r = r} check part xs e means h =
    checks-map (FnReturnsAt g f) check part xs r (λ x t a. subst (λ y. check (part y) t) a.shows (means a.shown t a.says.met)) (checks-along (FnReturnsAt g f) ys xs r e h)

-- checking items by a closure that makes other checks is checking all these
pub checks-called-reads : {A F : Type 0} {g : Shared F (Bor A × Unit {0}) (Result (Unit {0}) InvalidHandleError)} {f : F} {ys : List A} {r : Result (Unit {0}) InvalidHandleError}
    (asked : A → List Check) (xs : List A) → ys ≡ xs
    → ((y : Bor A) (t : Result (Unit {0}) InvalidHandleError) → g.post f (y, tt) t → ChecksEach IsResult (asked y.now) t) → ChecksEach (FnReturnsAt g f) ys r → ChecksEach IsResult (flat_map asked xs) r
checks-called-reads {g = g} {f = f} {ys = ys} {r = r} asked xs e means h =
    flatten IsResult (FnReturnsAt g f) asked xs r (λ x t a. subst (λ y. ChecksEach IsResult (asked y) t) a.shows (means a.shown t a.says.met)) (checks-along (FnReturnsAt g f) ys xs r e h)
