-- Bindings as sets of their locations, sources of blending and built-in values.
use Rattle.std.specs.BTreeSet.{contains}
use Rattle.std.specs.List.{list_any}
use Rattle.std.specs.Ordering.{nat_cmp}
use Rattle.std.specs.Prelude.{◌≡◌, ◌==◌, ◌<◌, ◌≤◌, ◌^◌, not, ℕ, Bool as Boolean, List, bit_and}
use Rattle.naga_interface.specs.BuiltIns.{plain_number}
use Rattle.naga_interface.specs.Varyings.{inline_locations, is_at, is_built_in, is_source}
use Rattle.naga_interface.specs.declared.binding_set.BindingSet.{BindingSet}
use Rattle.naga_ir.specs.declared.built_in.BuiltIn.{BuiltIn}
use Rattle.naga_ir.specs.declared.types.Binding.{Binding}

-- a number has the bit of index `n`
abbrev pub has_bit : ℕ → ℕ → Boolean
has_bit bits n = not (bit_and bits (2 ^ n) == 0)

-- `set` has the locations, the sources of blending and the built-in values of these bindings
pub record AreIn (bindings : List Binding) (set : BindingSet) : Type 0 where
  pub near : (l : ℕ) → l < inline_locations → has_bit set.near.0 l ≡ list_any (is_at l) bindings
  pub far : (l : ℕ) → inline_locations ≤ l → contains nat_cmp set.far l ≡ list_any (is_at l) bindings
  pub sources : (n : ℕ) → n < 2 → has_bit set.sources.0 n ≡ list_any (is_source n) bindings
  pub built_ins : (b : BuiltIn) → has_bit set.built_ins.0 (plain_number b) ≡ list_any (is_built_in b) bindings
