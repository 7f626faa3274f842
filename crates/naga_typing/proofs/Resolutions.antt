-- The types that resolutions name exist.
use Rattle.std.proofs.Common.{◌≡◌, ◌<◌, ℕ, List, length, subst}
use Rattle.naga_ir.specs.declared.types.«Type».{«Type»}
use Rattle.naga_ir.specs.declared.types.AddressSpace.{AddressSpace}
use Rattle.naga_ir.specs.declared.types.TypeInner.{TypeInner}
use Rattle.naga_ir.specs.declared.types.TypeInner.TheVariants.{Pointer}
use Rattle.naga_ir.proofs.PartLemmas.{parts_of_pointer}
use Rattle.naga_typing.specs.Resolutions.{PartsExist}

-- the base of a pointer exists
pub base_exists : (types : List «Type») (inner : TypeInner) (base : ℕ) (space : AddressSpace) → PartsExist types inner → inner ≡ Pointer base space → base < length types
base_exists types inner base space exist e = subst (PartsExist types) e exist base (parts_of_pointer base space)
