-- The numbers of built-in values, whatever they say besides.
use Rattle.std.proofs.Common.{◌≡◌, ◌<◌, Some, rules, slice_get, arith}
use Rattle.std.proofs.lemmas.Option.{slice_get_within}
use Rattle.naga_interface.specs.BuiltIns.{plain, plain_number}
use Rattle.naga_ir.specs.BuiltIns.{built_ins}
use Rattle.naga_ir.specs.declared.built_in.BuiltIn.{BuiltIn}

placed : (b : BuiltIn) → slice_get built_ins (plain_number b) ≡ Some (plain b)
placed b = search rules

-- each number is that of a bit
pub plain_below : (b : BuiltIn) → plain_number b < 64
plain_below b = let within : plain_number b < 51 = slice_get_within built_ins (plain_number b) (plain b) (placed b) in omega arith
