-- The kinds of items of a module, by number, and what else the texts in errors name.
use Rattle.std.specs.Prelude.{ℕ, List, [], ◌∷◌, codes, unwrap_or}
use Rattle.naga_flags.specs.Bits.{FLOAT64, SHADER_FLOAT16, SHADER_INT16, SHADER_INT64}
use Rattle.naga_ir.specs.declared.types.Scalar.{Scalar}
use Rattle.naga_ir.specs.declared.types.ScalarKind.{ScalarKind}
use Rattle.naga_ir.specs.declared.types.ScalarKind.TheVariants.{Sint, Uint, Float}
use Rattle.naga_text.specs.Tables.{chosen}

-- the kinds that have names in errors
abbrev pub item_kinds : List (List ℕ × ℕ)
item_kinds =
    (codes "Type", 1) ∷
    (codes "Constant", 2) ∷
    (codes "Override", 3) ∷
    (codes "GlobalVariable", 4) ∷
    (codes "Expression", 5) ∷
    (codes "LocalVariable", 6) ∷
    (codes "Function", 7) ∷
    (codes "DiagnosticFilterNode", 8) ∷
    (codes "EntryPoint", 9) ∷
    []

-- the number of the kind of items that has this name, or 0
abbrev pub item_kind : List ℕ → ℕ
item_kind name = unwrap_or (chosen item_kinds name) 0

-- the capabilities that widths may need
abbrev pub capabilities : List (List ℕ × ℕ)
capabilities =
    (codes "FLOAT64", FLOAT64) ∷
    (codes "SHADER_FLOAT16", SHADER_FLOAT16) ∷
    (codes "SHADER_INT64", SHADER_INT64) ∷
    (codes "SHADER_INT16", SHADER_INT16) ∷
    []

-- the bit of the capability that has this name, if some width needs it, else 0
abbrev pub capability_named : List ℕ → ℕ
capability_named name = unwrap_or (chosen capabilities name) 0

-- the scalars of a kind and a width in bytes
abbrev pub scalar : ScalarKind → ℕ → Scalar
scalar kind width = record { kind = kind; width = width }

-- the scalars that need a capability
abbrev pub scalars : List (List ℕ × Scalar)
scalars =
    (codes "f64", scalar Float 8) ∷
    (codes "f16", scalar Float 2) ∷
    (codes "i64", scalar Sint 8) ∷
    (codes "i16", scalar Sint 2) ∷
    (codes "u64", scalar Uint 8) ∷
    (codes "u16", scalar Uint 2) ∷
    []

-- the scalars that have this name, if they need a capability, else those of no bytes
abbrev pub scalar_named : List ℕ → Scalar
scalar_named name = unwrap_or (chosen scalars name) (scalar Sint 0)
