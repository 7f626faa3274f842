use Rattle.std.proofs.Common.{◌∙◌, ap, sym}
use Rattle.naga_types.specs.declared.structs.Sources.{Sources}
use Rattle.naga_types.proofs.SourceLemmas.{source_before}
use Rattle.naga_types.proofs.structs.StructType.check_sources.Goals as goal

pub check_pair-requires-clause-first : goal.check_pair-requires-clause-first
check_pair-requires-clause-first c =
    source_before c.args.self.now.handle 0 c.args.self.now.members.now c.requires.known.1 c.in-Some-Some.first (ap (λ (s : Sources). s.first) (sym c.requires.sources) ∙ c.in-Some-Some.is-0)

pub check_pair-requires-clause-second : goal.check_pair-requires-clause-second
check_pair-requires-clause-second c =
    source_before c.args.self.now.handle 1 c.args.self.now.members.now c.requires.known.1 c.in-Some-Some.second (ap (λ (s : Sources). s.second) (sym c.requires.sources) ∙ c.in-Some-Some.is-1)
