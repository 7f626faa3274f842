-- Calls by a limit of leaves that is equal to another.
use Rattle.std.proofs.Common.{◌≡◌, ℕ, List, Option, subst}
use Rattle.naga_c.specs.LeafCounts.{ChecksCounts}
use Rattle.naga_c.specs.Leaves.{Buffers, ChecksLeaves}
use Rattle.naga_c.specs.OpenModules.{Opens}
use Rattle.naga_c.specs.declared.accepted.AcceptedModule.{AcceptedModule}
use Rattle.naga_c.specs.declared.results.Counts.{Counts}
use Rattle.naga_c.specs.declared.results.Outcome.{Outcome}
use Rattle.naga_c.specs.declared.status.Status.{Status}
use Rattle.naga_c.specs.declared.subject.Subject.{Subject}

-- the leaves that a call wrote
pub leaves_as : (subject : Subject) (types : List ℕ) (n a b : ℕ) (old new : Buffers) (outcome : Outcome) (status : Status)
    → a ≡ b → ChecksLeaves subject types n a old new outcome status → ChecksLeaves subject types n b old new outcome status
leaves_as subject types n a b old new outcome status e h = subst (λ (most : ℕ). ChecksLeaves subject types n most old new outcome status) e h

-- the leaves that a call counted
pub counts_as : (subject : Subject) (types : List ℕ) (n a b : ℕ) (counts : Counts) (outcome : Outcome) (status : Status)
    → a ≡ b → ChecksCounts subject types n a counts outcome status → ChecksCounts subject types n b counts outcome status
counts_as subject types n a b counts outcome status e h = subst (λ (most : ℕ). ChecksCounts subject types n most counts outcome status) e h

-- the module that a call opened
pub opens_as : (subject : Subject) (a b : ℕ) (held : Option AcceptedModule) (outcome : Outcome) (status : Status)
    → a ≡ b → Opens subject a held outcome status → Opens subject b held outcome status
opens_as subject a b held outcome status e h = subst (λ (most : ℕ). Opens subject most held outcome status) e h
