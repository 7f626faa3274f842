use Rattle.naga_typing.specs.Context.{lists_of}
use Rattle.naga_typing.specs.PlainLaws.{all_parts_exist}
use Rattle.naga_types.proofs.structs.StructType.check_pair.Goals as goal

pub compare_types-requires-clause-parts_exist : goal.compare_types-requires-clause-parts_exist
compare_types-requires-clause-parts_exist c = all_parts_exist (lists_of c.args.self.now.gctx) c.requires.references
