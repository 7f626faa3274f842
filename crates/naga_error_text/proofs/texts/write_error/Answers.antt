use Rattle.std.proofs.Common.{rules, arith}
use Rattle.naga_error_text.proofs.ShortTexts.{Fit, pieces_short}
use Rattle.naga_error_text.proofs.texts.write_error.Goals as goal

-- the text of the pieces is short, so there is room for it
pub write_pieces-requires : goal.write_pieces-requires
write_pieces-requires c =
    let fits : Fit c.args.values = search rules in
    grind (arith, pieces_short c.args.values c.pieces_of.result.now fits c.pieces_of.ensures.short, c.requires)

-- it is short
pub returns-clause-short : goal.returns-clause-short
returns-clause-short c =
    let fits : Fit c.args.values = search rules in
    grind (arith, pieces_short c.args.values c.pieces_of.result.now fits c.pieces_of.ensures.short, c.write_pieces.ensures.place)
