use Rattle.naga_text.proofs.TextLaws.{only_of, text_of}
use Rattle.naga_text.proofs.text.read_text.Goals as goal

pub returns-clause-text : goal.returns-clause-text
returns-clause-text c = text_of _ _ c.read_lines.ensures

pub returns-clause-only : goal.returns-clause-only
returns-clause-only c = only_of _ _ c.read_lines.ensures
