-- How a validator reports the faults of handles.
use Rattle.std.specs.Prelude.{◌≡◌}
use Rattle.naga_handles.specs.declared.error.ValidationFault.{ValidationFault}
use Rattle.naga_handles.specs.declared.error.ValidationFault.TheVariants.{Invalid, MissingMember, OutOfMemory}
use Rattle.naga_types.specs.declared.error.TypeError.TheVariants.{InvalidData}
use Rattle.naga_valid.specs.declared.error.ValidationError.{ValidationError}
use Rattle.naga_valid.specs.declared.error.ValidationError.TheVariants.{InvalidHandle, Type_, OutOfMemory as NoMemory}

-- the error that reports a fault: a comment on a missing member is an error of the type
abbrev pub error_of : ValidationFault → ValidationError
error_of (Invalid source) = InvalidHandle source
error_of (MissingMember handle name) = Type_ handle name (InvalidData handle)
error_of OutOfMemory = NoMemory

-- an error reports a fault
abbrev pub IsErrorOf : ValidationFault → ValidationError → Type 0
IsErrorOf fault error = error ≡ error_of fault
