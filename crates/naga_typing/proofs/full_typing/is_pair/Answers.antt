use Rattle.std.proofs.Common.{◌<◌, ℕ, length}
use Rattle.naga_arena.proofs.Elements.{all_at}
use Rattle.naga_ir.proofs.PartLemmas.{members_are}
use Rattle.naga_ir.specs.declared.types.«Type».{«Type»}
use Rattle.naga_typing.specs.Resolutions.{PartsExist}
use Rattle.naga_typing.proofs.full_typing.is_pair.Goals as goal

pub are_two-requires : goal.are_two-requires
are_two-requires c =
    let types = c.args.types.now in
    let found = c.index.result.now in
    let exist = all_at (λ (t : «Type»). PartsExist types t.inner) types c.args.ty found c.requires.parts c.index.ensures in
    rw c.as_slice.ensures (members_are (λ (p : ℕ). p < length types) found.inner c.in-Struct.members c.in-Struct.span exist c.in-Struct.is)
