-- The text of the refusal that an outcome tells.
use Rattle.std.specs.Prelude.{ℕ, List, slice_index_or}
use Rattle.naga_error_text.specs.Texts.{refusal_text}
use Rattle.naga_error_text.specs.declared.pieces.Values.{Values}
use Rattle.naga_error_text.specs.declared.texts.Refusal.{Refusal}
use Rattle.naga_c.specs.declared.results.Outcome.{Outcome}

-- what an outcome says that errors hold
abbrev pub told_values : Outcome → Values
told_values o = record {
  first = slice_index_or o.values 0 0;
  second = slice_index_or o.values 1 0;
  third = slice_index_or o.values 2 0;
  fourth = slice_index_or o.values 3 0;
  fifth = slice_index_or o.values 4 0;
  index = o.index;
  expression = o.expression;
  kind = o.kind;
}

-- the refusal that an outcome tells
abbrev pub told_refusal : Outcome → Refusal
told_refusal o = record { stage = o.stage; errors = o.errors; values = told_values o }

-- the text of that refusal
abbrev pub error_text : Outcome → List ℕ
error_text o = refusal_text o.stage o.errors (told_values o)
