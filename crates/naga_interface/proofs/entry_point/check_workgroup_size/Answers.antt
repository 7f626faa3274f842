use Rattle.std.proofs.Common.{rules, ◌≡◌, ◌==◌, ◌∙◌, ℕ, zero, suc, true, false, List, Ok, refl, sym, arith, tests}
use Rattle.std.proofs.lemmas.Bool.{lt-leb, ne_eqb}
use Rattle.std.proofs.lemmas.Iterator.{YieldsList-from_slice}
use Rattle.std.proofs.lemmas.Iterator.Search.{all_from_yields_List}
use Rattle.std.specs.List.{list_all}
use Rattle.std.specs.Prelude.{leb}
use Rattle.naga_flags.specs.Bits.{COMPUTE_LIKE}
use Rattle.naga_interface.specs.EntryPoints.{is_among, is_workgroup_size, workgroup_error}
use Rattle.naga_ir.specs.declared.ir.ShaderStage.{ShaderStage}
use Rattle.naga_types.specs.Checks.{ok_unless}
use Rattle.naga_interface.proofs.entry_point.check_workgroup_size.Goals as goal

is_zero : (n : ℕ) → (n == 0) ≡ leb n 0
is_zero zero = refl
is_zero (suc n) = ne_eqb (suc n) 0 (λ e. omega arith) ∙ sym (lt-leb (suc n) 0 (omega arith))

-- the sizes are right where there are workgroups
in_range : (stage : ShaderStage) (sizes : List ℕ) → is_among COMPUTE_LIKE stage ≡ true → list_all is_workgroup_size sizes ≡ true → Ok (tt {0}) ≡ ok_unless (workgroup_error stage sizes) (tt {0})
in_range stage sizes like all = rw like (rw all refl)

-- there are none elsewhere
no_workgroup : (stage : ShaderStage) (sizes : List ℕ) → is_among COMPUTE_LIKE stage ≡ false → list_all (λ n. leb n 0) sizes ≡ true → Ok (tt {0}) ≡ ok_unless (workgroup_error stage sizes) (tt {0})
no_workgroup stage sizes like all = rw like (rw all refl)

pub returns-then-all : goal.returns-then-all
returns-then-all c =
    let like : is_among COMPUTE_LIKE c.args.stage ≡ true = search rules in
    let is : c.all.result ≡ list_all is_workgroup_size c.args.sizes =
    all_from_yields_List is_workgroup_size _ _ c.all.result c.all.ensures.ran (YieldsList-from_slice c.args.sizes cc) (λ x b q k. search (rules, tests)) in
    in_range c.args.stage c.args.sizes like (sym is ∙ c.if-all.true)

pub returns-then-all-2 : goal.returns-then-all-2
returns-then-all-2 c =
    let like : is_among COMPUTE_LIKE c.args.stage ≡ false = search rules in
    let is : c.all-2.result ≡ list_all (λ n. leb n 0) c.args.sizes =
    all_from_yields_List (λ n. leb n 0) _ _ c.all-2.result c.all-2.ensures.ran (YieldsList-from_slice c.args.sizes cc) (λ x b q k. search (rules, tests, is_zero)) in
    no_workgroup c.args.stage c.args.sizes like (sym is ∙ c.if-all-2.true)
