use Rattle.std.proofs.lemmas.Option.{slice_get_within}
use Rattle.naga_info.proofs.Places.{operand_exists}
use Rattle.naga_info.specs.Integers.{scope_in}
use Rattle.naga_info.specs.declared.sources.Place.TheVariants.{InFunction}
use Rattle.naga_valid.proofs.function.SearchedSources.find.Goals as goal

pub unspent-self-requires-clause-exists : goal.unspent-self-requires-clause-exists
unspent-self-requires-clause-exists c =
    let f = c.args.function.now in
    let there = c.requires.there in
    operand_exists (scope_in c.args.«module».now f) (record { handles = c.requires.handles; in_function = c.requires.in_function }) (InFunction there.0) c.args.expression.now c.in-Some.right (slice_get_within f.expressions there.0 c.args.expression.now there.1) there.1 c.in-Some.ensures
