-- What comes of a module that was read, with the settings that it brings.
use Rattle.std.proofs.Common.{ℕ, Err, Ok, Result}
use Rattle.naga_ir.specs.declared.ir.Module.{Module}
use Rattle.naga_c.specs.Subjects.{IsReadTo}
use Rattle.naga_c.specs.steps.Subjects.{IsTaken}
use Rattle.naga_c.specs.declared.options.Options.{Options as OptionsType}
use Rattle.naga_c.specs.declared.subject.NoSubject.{NoSubject}
use Rattle.naga_c.specs.declared.subject.NoSubject.TheVariants.{Options, Limit, Unreadable, Settings, OutOfMemory}
use Rattle.naga_c.specs.declared.subject.Said.{Said}
use Rattle.naga_c.specs.declared.subject.Subject.{Subject}

-- what was read is taken, or its settings are refused
pub taken : (options : OptionsType) (Reads : Module → Said → Type 0) (Stops : ℕ → Type 0) (m : Module) (said : Said) (r : Result Subject NoSubject) → Reads m said → IsTaken options m said r → IsReadTo options Reads Stops r
taken options Reads Stops m said (Ok subject) reads h = (m, said, reads, h.0, h.1)
taken options Reads Stops m said (Err Settings) reads h = (m, said, reads, h.0)
taken options Reads Stops m said (Err (Unreadable at)) reads h = let no : ⊥ = cc in absurd no
taken options Reads Stops m said (Err OutOfMemory) reads h = tt
taken options Reads Stops m said (Err Options) reads h = let no : ⊥ = cc in absurd no
taken options Reads Stops m said (Err Limit) reads h = let no : ⊥ = cc in absurd no
