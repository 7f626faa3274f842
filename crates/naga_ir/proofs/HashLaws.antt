-- What `hash` reads of a binding determines it.
use Rattle.std.proofs.Common.{rules, ◌≡◌, ◌<◌, ◌^◌, ℕ, List, [], ◌∷◌, ◌++◌, Bool, true, false, Option, Some, None, arith, refl, sym, ap, ◌∙◌}
use Rattle.std.specs.Hash as fed
use Rattle.std.specs.Int.{from_le_bytes}
use Rattle.std.proofs.lemmas.Nat.{from_le_bytes-to_le_bytes_4}
use mir.Syntax.{w32}
use lib.IntN.{pos}
use Rattle.naga_ir.specs.steps.HashLaws.{HaveRange}
use Rattle.naga_ir.specs.declared.types.Binding.{Binding}
use Rattle.naga_ir.specs.declared.types.Binding.TheVariants.{BuiltIn, Location}
use Rattle.naga_ir.specs.declared.types.Interpolation.{Interpolation}
use Rattle.naga_ir.specs.declared.types.Interpolation.TheVariants.{Perspective, Linear, Flat, PerVertex}
use Rattle.naga_ir.specs.declared.types.Sampling.{Sampling}
use Rattle.naga_ir.specs.declared.types.Sampling.TheVariants.{Center, Centroid, Sample, First, Either}
use Rattle.naga_ir.specs.BuiltIns.{number}
use Rattle.naga_ir.specs.declared.built_in.BuiltIn.{BuiltIn as BuiltInType}
use Rattle.naga_ir.proofs.SameInner.{number_same}
use Rattle.naga_ir.specs.contracts.types.BindingHash.TheImpl.{ghosts}
use Rattle.naga_ir.specs.contracts.types.InterpolationHash.TheImpl as of_interpolation
use Rattle.naga_ir.specs.contracts.types.SamplingHash.TheImpl as of_sampling

-- `F` writes the values of a type so that what stands before other writes tells which value it is
abbrev IsRead : {T : Type 0} → (T → List (List ℕ)) → Type 0
IsRead {T} F = (x y : T) (rest more : List (List ℕ)) → F x ++ rest ≡ F y ++ more → (x ≡ y) × (rest ≡ more)

number_read : (x y : ℕ) → x < 2 ^ 32 → y < 2 ^ 32 → fed.le_bytes 4 x ≡ fed.le_bytes 4 y → x ≡ y
unfolding fed.le_bytes
number_read x y p q e =
    sym (from_le_bytes-to_le_bytes_4 x p) ∙ ap (from_le_bytes w32) e ∙ from_le_bytes-to_le_bytes_4 y q

-- what is written of nothing isn't what is written of something
option_apart : {A : Type 0} (a b : A) (rest more : List (List ℕ)) → fed.isize (pos 0) ++ rest ≡ fed.isize (pos 1) ++ more → a ≡ b
unfolding fed.le_bytes
option_apart a b rest more h = cc

option_read : {T : Type 0} (F : T → List (List ℕ)) → IsRead F → IsRead (fed.option F)
option_read F f None None rest more h = (refl, cc)
option_read F f None (Some y) rest more h = (option_apart None (Some y) rest (F y ++ more) h, option_apart rest more rest (F y ++ more) h)
option_read F f (Some x) None rest more h = (option_apart (Some x) None more (F x ++ rest) (sym h), option_apart rest more more (F x ++ rest) (sym h))
option_read F f (Some x) (Some y) rest more h =
    let (e, r) = f x y rest more cc in
    (ap Some e, r)

interpolation_read : IsRead of_interpolation.ghosts.hash_input
unfolding fed.le_bytes
interpolation_read Perspective Perspective rest more h = (refl, cc)
interpolation_read Linear Linear rest more h = (refl, cc)
interpolation_read Flat Flat rest more h = (refl, cc)
interpolation_read PerVertex PerVertex rest more h = (refl, cc)
interpolation_read _ _ rest more h = (cc, cc)

sampling_read : IsRead of_sampling.ghosts.hash_input
unfolding fed.le_bytes
sampling_read Center Center rest more h = (refl, cc)
sampling_read Centroid Centroid rest more h = (refl, cc)
sampling_read Sample Sample rest more h = (refl, cc)
sampling_read First First rest more h = (refl, cc)
sampling_read Either Either rest more h = (refl, cc)
sampling_read _ _ rest more h = (cc, cc)

bool_read : (b c : Bool) → fed.bool b ≡ fed.bool c → b ≡ c
bool_read true true h = refl
bool_read false false h = refl
bool_read _ _ h = cc

number_is_small : (a : BuiltInType) → number a < 2 ^ 32
number_is_small a = search rules

-- the source of blending and the last bool of two locations are read
source_read : (k k' : Option ℕ) (p p' : Bool) → ((n : ℕ) → k ≡ Some n → n < 2 ^ 32) → ((n : ℕ) → k' ≡ Some n → n < 2 ^ 32) → fed.option fed.u32 k ++ fed.bool p ≡ fed.option fed.u32 k' ++ fed.bool p' → (k ≡ k') × (p ≡ p')
source_read None None p p' r r' h = (refl, bool_read p p' cc)
source_read None (Some n) p p' r r' h = (option_apart None (Some n) (fed.bool p) (fed.u32 n ++ fed.bool p') h, option_apart p p' (fed.bool p) (fed.u32 n ++ fed.bool p') h)
source_read (Some n) None p p' r r' h = (option_apart (Some n) None (fed.bool p') (fed.u32 n ++ fed.bool p) (sym h), option_apart p p' (fed.bool p') (fed.u32 n ++ fed.bool p) (sym h))
source_read (Some n) (Some n') p p' r r' h =
    (ap Some (number_read n n' (r n refl) (r' n' refl) cc), bool_read p p' cc)

source_range : (l : ℕ) (i : Option Interpolation) (s : Option Sampling) (k : Option ℕ) (p : Bool) → HaveRange (Location l i s k p) → (l < 2 ^ 32) × ((n : ℕ) → k ≡ Some n → n < 2 ^ 32)
source_range l i s None p r = (r, λ n e. cc)
source_range l i s (Some m) p r = (r.0, λ n e. let q : m ≡ n = cc in let w = r.1 in omega arith)

location_read : (l l' : ℕ) (i i' : Option Interpolation) (s s' : Option Sampling) (k k' : Option ℕ) (p p' : Bool) → (l < 2 ^ 32) × ((n : ℕ) → k ≡ Some n → n < 2 ^ 32) → (l' < 2 ^ 32) × ((n : ℕ) → k' ≡ Some n → n < 2 ^ 32) → ghosts.hash_input (Location l i s k p) ≡ ghosts.hash_input (Location l' i' s' k' p') → Location l i s k p ≡ Location l' i' s' k' p'
location_read l l' i i' s s' k k' p p' r r' h =
    let a = number_read l l' r.0 r'.0 cc in
    let b = option_read of_interpolation.ghosts.hash_input interpolation_read i i' (fed.option of_sampling.ghosts.hash_input s ++ (fed.option fed.u32 k ++ fed.bool p)) (fed.option of_sampling.ghosts.hash_input s' ++ (fed.option fed.u32 k' ++ fed.bool p')) cc in
    let c = option_read of_sampling.ghosts.hash_input sampling_read s s' (fed.option fed.u32 k ++ fed.bool p) (fed.option fed.u32 k' ++ fed.bool p') b.1 in
    let d = source_read k k' p p' r.1 r'.1 c.1 in
    cc (a, b.0, c.0, d.0, d.1)

-- two bindings of which the same is written are equal
pub hash_reads : (a b : Binding) → HaveRange a → HaveRange b → ghosts.hash_input a ≡ ghosts.hash_input b → a ≡ b
hash_reads (Location l i s k p) (Location l' i' s' k' p') n m h =
    location_read l l' i i' s s' k k' p p' (source_range l i s k p n) (source_range l' i' s' k' p' m) h
hash_reads (BuiltIn x) (BuiltIn y) n m h =
    ap BuiltIn (number_same x y (number_read (number x) (number y) (number_is_small x) (number_is_small y) cc))
hash_reads (BuiltIn x) (Location l i s k p) n m h =
    option_apart (BuiltIn x) (Location l i s k p) _ _ h
hash_reads (Location l i s k p) (BuiltIn x) n m h =
    option_apart (Location l i s k p) (BuiltIn x) _ _ (sym h)
