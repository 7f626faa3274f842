-- The table of address spaces.
use Rattle.std.specs.Prelude.{ℕ, Bool as Boolean, true, false, List, [], ◌∷◌}
use Rattle.naga_flags.specs.Bits.{CONSTRUCTIBLE, COPY, CREATION_RESOLVED, DATA, HOST_SHAREABLE, SIZED, union_of}
use Rattle.naga_interface.specs.declared.global_variable.SpaceRow.{SpaceRow}
use Rattle.naga_ir.specs.declared.types.AddressSpace.{AddressSpace}
use Rattle.naga_ir.specs.declared.types.AddressSpace.TheVariants as space

-- a row: what the types of variables may at least be used for, flag by flag, and whether variables are resources, which
-- a pipeline binds
abbrev pub row : List ℕ → Boolean → SpaceRow
row flags is_resource = record { flags = record { 0 = union_of flags }; is_resource = is_resource }

-- the row of an address space; variables of `Function` are not variables of the module, whatever their type
abbrev pub space_row : AddressSpace → SpaceRow
space_row space.Function = row [] false
space_row space.Private = row (CONSTRUCTIBLE ∷ CREATION_RESOLVED ∷ []) false
space_row space.WorkGroup = row (DATA ∷ SIZED ∷ []) false
space_row space.Uniform = row (DATA ∷ COPY ∷ SIZED ∷ HOST_SHAREABLE ∷ CREATION_RESOLVED ∷ []) true
space_row (space.Storage access) = row (DATA ∷ HOST_SHAREABLE ∷ CREATION_RESOLVED ∷ []) true
space_row space.Handle = row [] true
space_row space.Immediate = row (DATA ∷ COPY ∷ SIZED ∷ HOST_SHAREABLE ∷ []) false
space_row space.TaskPayload = row (DATA ∷ SIZED ∷ []) false
space_row space.RayPayload = row (DATA ∷ SIZED ∷ []) false
space_row space.IncomingRayPayload = row (DATA ∷ SIZED ∷ []) false
