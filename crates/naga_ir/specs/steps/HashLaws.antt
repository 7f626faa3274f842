-- What the law on hashes of bindings rests on.
use Rattle.std.specs.Prelude.{◌<◌, ◌^◌, ℕ, Some, None, ⊤}
use Rattle.naga_ir.specs.declared.types.Binding.{Binding}
use Rattle.naga_ir.specs.declared.types.Binding.TheVariants.{Location}

-- the numbers of a location and of its source of blending are below 2^32
abbrev pub HaveRange : Binding → Type 0
HaveRange (Location location interpolation sampling (Some source) per_primitive) =
    (location < 2 ^ 32) × (source < 2 ^ 32)
HaveRange (Location location interpolation sampling None per_primitive) = location < 2 ^ 32
HaveRange _ = ⊤
