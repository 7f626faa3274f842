use Rattle.std.proofs.Common.{◌==◌, ◌∙◌, ◌||◌, ℕ, ap, refl}
use Rattle.naga_interface.proofs.PlainNumbers.{plain_below}
use Rattle.naga_interface.proofs.Sets.{any_added, any_same}
use Rattle.naga_interface.specs.BuiltIns.{plain_number}
use Rattle.naga_interface.specs.Varyings.{is_at, is_built_in, is_source}
use Rattle.naga_interface.specs.steps.BindingSets.{has_bit}
use Rattle.naga_ir.specs.declared.types.Binding.TheVariants as bound
use Rattle.naga_interface.proofs.binding_set.BindingSet.insert_built_in.Goals as goal

pub returns-clause-added : goal.returns-clause-added
returns-clause-added c = λ before are.
    let item = bound.BuiltIn c.args.built_in in
    let old = c.args.self.now.built_ins.0 in
    let number = plain_number c.args.built_in in
    record {
      near = λ l h. any_same (is_at l) before item _ (are.near l h) refl;
      far = λ l h. any_same (is_at l) before item _ (are.far l h) refl;
      sources = λ n h. any_same (is_source n) before item _ (are.sources n h) refl;
      built_ins = λ b. any_added (is_built_in b) before item (plain_number b) number (has_bit old (plain_number b)) _ (are.built_ins b)
          (c.insert.ensures.has_both (plain_number b) (plain_below b) ∙ ap (λ (n : ℕ). plain_number b == n || has_bit old (plain_number b)) c.plain_number.ensures.value) refl;
    }
