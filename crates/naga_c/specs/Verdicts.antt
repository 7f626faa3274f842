-- What calls write of a module that can't be read, or that is refused.
use Rattle.std.specs.Prelude.{[], ◌∷◌, length}
use Rattle.naga_ir.specs.declared.ir.Module.{Module}
use Rattle.naga_valid.specs.State.{Settings}
use Rattle.naga_valid.specs.declared.error.ValidationError.{ValidationError}
use Rattle.naga_c.specs.declared.subject.Subject.{Subject}
use Rattle.naga_c.specs.Refusals.{refusal_of}
use Rattle.naga_c.specs.declared.refusal.Refusal.{Refusal}
use Rattle.naga_c.specs.declared.results.Outcome.{Outcome}
use Rattle.naga_c.specs.declared.subject.NoSubject.{NoSubject}
use Rattle.naga_c.specs.declared.subject.NoSubject.TheVariants as none

-- nothing was found out
abbrev pub no_outcome : Outcome
no_outcome = record {
  index = 0;
  types = 0;
  functions = 0;
  entry_points = 0;
  written = 0;
  values = 0 ∷ 0 ∷ 0 ∷ 0 ∷ 0 ∷ [];
  stage = 0;
  kind = 0;
  errors = 0 ∷ 0 ∷ 0 ∷ 0 ∷ [];
  value_count = 0;
  expression = 0;
}

-- what is written by a call that has no module to validate
abbrev pub outcome_without : NoSubject → Outcome
outcome_without (none.Unreadable at) = record no_outcome { index = at }
outcome_without _ = no_outcome

-- how many types, functions and entry points a module has
abbrev pub counts_of : Module → Outcome
counts_of m = record no_outcome {
  types = length m.types;
  functions = length m.functions;
  entry_points = length m.entry_points;
}

-- the settings in force
abbrev pub settings_in : Subject → Settings
settings_in subject = record { flags = subject.flags; capabilities = subject.capabilities; resolved = subject.resolved }

-- what is written of a module of which this is refused
abbrev pub refused_with : Module → Refusal → Outcome
refused_with m r = record (counts_of m) {
  index = r.index;
  values = r.values.items;
  stage = r.stage;
  kind = r.kind;
  errors = r.errors;
  value_count = r.values.count;
}

-- what is written of a module that is refused with an error
abbrev pub refused_by : Module → ValidationError → Outcome
refused_by m e = refused_with m (refusal_of e)
