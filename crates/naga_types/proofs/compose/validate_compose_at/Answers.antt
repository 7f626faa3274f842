use Rattle.naga_typing.specs.Context.{lists_of}
use Rattle.naga_typing.specs.PlainLaws.{all_parts_exist}
use Rattle.naga_types.proofs.compose.validate_compose_at.Goals as goal

pub compose-requires-clause-parts : goal.compose-requires-clause-parts
compose-requires-clause-parts c = all_parts_exist (lists_of c.args.gctx) c.requires.references
