-- Components as the code goes over them.
use Rattle.std.specs.Prelude.{◌<◌, ℕ, Bool as Boolean, false, List, All, length, slice_get, ⊤}
use Rattle.std.specs.Option.{option_map_or}
use Rattle.naga_ir.specs.declared.types.«Type».{«Type»}
use Rattle.naga_ir.specs.declared.types.StructMember.{StructMember}
use Rattle.naga_typing.specs.Resolutions.{TypesExist, inner_in}
use Rattle.naga_typing.specs.declared.typifier.TypeResolution.{TypeResolution}
use Rattle.naga_types.specs.Composing.{is_of, is_part_of, is_vector_of, resolutions_at}
use Rattle.naga_types.specs.declared.compose.Components.{Components}
use Rattle.naga_types.specs.declared.compose.Components.TheVariants.{Given, At}
use Rattle.naga_types.specs.declared.compose.Wanted.{Wanted}
use Rattle.naga_types.specs.declared.compose.Wanted.TheVariants as wanted

-- the resolutions of components, which are given themselves or by their places
abbrev pub resolutions_of : Components → List TypeResolution
resolutions_of (Given resolutions) = resolutions.now
resolutions_of (At places resolutions) = resolutions_at places.now resolutions.now

-- components exist, and so do the types in them
abbrev pub ComponentsExist : List «Type» → Components → Type 0
ComponentsExist types (Given resolutions) = All (TypesExist types) resolutions.now
ComponentsExist types (At places resolutions) =
    All (λ e. e < length resolutions.now) places.now × All (TypesExist types) resolutions.now

-- whether a component is what is wanted at its place
abbrev pub fits : List «Type» → Wanted → ℕ × TypeResolution → Boolean
fits types (wanted.PartOf scalar) = λ at. is_part_of scalar (inner_in types at.1)
fits types (wanted.Column rows scalar) = λ at. is_vector_of rows scalar (inner_in types at.1)
fits types (wanted.Element base) = λ at. is_of types base at.1
fits types (wanted.Members members) =
    λ at. option_map_or (λ (m : StructMember). is_of types m.ty at.1) (slice_get members.now at.0) false

-- the types that are wanted exist
abbrev pub WantedExists : List «Type» → Wanted → Type 0
WantedExists types (wanted.Element base) = base < length types
WantedExists types (wanted.Members members) = All (λ (m : StructMember). m.ty < length types) members.now
WantedExists types _ = ⊤
