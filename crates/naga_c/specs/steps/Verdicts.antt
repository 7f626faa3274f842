-- What is written of a module that is not accepted, also if memory was refused.
use Rattle.naga_ir.specs.declared.ir.Module.{Module}
use Rattle.naga_valid.specs.declared.error.ValidationError.{ValidationError}
use Rattle.naga_valid.specs.declared.error.ValidationError.TheVariants.{InvalidHandle, Layouter, Type_, ConstExpression, ArraySizeError, Constant, Override, Corrupted, OutOfMemory}
use Rattle.naga_c.specs.Verdicts.{no_outcome, refused_by}
use Rattle.naga_c.specs.declared.results.Outcome.{Outcome}
use Rattle.naga_c.specs.declared.status.Status.{Status}
use Rattle.naga_c.specs.declared.status.Status.TheVariants as status

-- the status of a module that is not accepted
abbrev pub refused_status : ValidationError → Status
refused_status OutOfMemory = status.OutOfMemory
refused_status _ = status.Refused

-- what is written of a module that is not accepted
abbrev pub refused_outcome : Module → ValidationError → Outcome
refused_outcome m (InvalidHandle e) = refused_by m (InvalidHandle e)
refused_outcome m (Layouter e) = refused_by m (Layouter e)
refused_outcome m (Type_ handle name source) = refused_by m (Type_ handle name source)
refused_outcome m (ConstExpression handle source) = refused_by m (ConstExpression handle source)
refused_outcome m (ArraySizeError handle) = refused_by m (ArraySizeError handle)
refused_outcome m (Constant handle name source) = refused_by m (Constant handle name source)
refused_outcome m (Override handle name source) = refused_by m (Override handle name source)
refused_outcome m Corrupted = refused_by m Corrupted
refused_outcome m OutOfMemory = no_outcome
