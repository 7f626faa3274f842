use Rattle.naga_valid.proofs.Buffers.{buffer_leaves}
use Rattle.naga_valid.proofs.laws.buffers.Goals as goal

pub returns : goal.returns
returns g c = λ ty buffer.
    buffer_leaves (g.T.Typing.resolves c.args.validator.now.typing) c.args.validator.now c.args.module.now c.args.mod_info.now.lists c.requires.known c.requires.layouts c.requires.accepted c.args.variable c.args.length ty buffer
