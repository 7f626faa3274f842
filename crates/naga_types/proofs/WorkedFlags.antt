-- What types may be used for at most, as the numbers that reports show.
use Rattle.std.proofs.Common.{◌≡◌, refl}
use Rattle.naga_ir.specs.declared.types.AddressSpace.TheVariants.{Function, Uniform}
use Rattle.naga_ir.specs.declared.types.ArraySize.TheVariants.{Dynamic, Pending}
use Rattle.naga_ir.specs.declared.types.ScalarKind.TheVariants.{Bool, Sint}
use Rattle.naga_types.specs.FormFlags.{array_flags, atomic_flags, binding_array_flags, element_flags, member_flags, opaque_flags, pointer_flags, ray_query_flags, scalar_flags, unshared_flags}
use Rattle.naga_types.specs.HostLayouts.{data_for_hosts}
use Rattle.naga_types.specs.HostLeaves.{resolved_for_hosts, sized_for_hosts}

pub numbers : scalar_flags Sint ≡ 0xff
numbers = refl

pub bools : scalar_flags Bool ≡ 0xe7
bools = refl

pub matrices : unshared_flags ≡ 0xf7
matrices = refl

pub pointers-as-arguments : pointer_flags Function ≡ 0x66
pointers-as-arguments = refl

pub other-pointers : pointer_flags Uniform ≡ 0x26
other-pointers = refl

pub atomic-values : atomic_flags ≡ 0x33
atomic-values = refl

pub images : opaque_flags ≡ 0x60
images = refl

pub ray-queries : ray_query_flags ≡ 0xa3
ray-queries = refl

pub arrays-by-override : array_flags (Pending 0) ≡ 0x57
arrays-by-override = refl

pub arrays-of-unknown-length : array_flags Dynamic ≡ 0x35
arrays-of-unknown-length = refl

pub binding-arrays-by-override : binding_array_flags (Pending 0) ≡ 0x12
binding-arrays-by-override = refl

pub binding-arrays-of-unknown-length : binding_array_flags Dynamic ≡ 0x30
binding-arrays-of-unknown-length = refl

pub elements : element_flags ≡ 0x23
elements = refl

pub members : member_flags ≡ 0x21
members = refl

pub data-for-hosts : data_for_hosts ≡ 0x11
data-for-hosts = refl

pub sized-for-hosts : sized_for_hosts ≡ 0x13
sized-for-hosts = refl

pub resolved-for-hosts : resolved_for_hosts ≡ 0x31
resolved-for-hosts = refl
