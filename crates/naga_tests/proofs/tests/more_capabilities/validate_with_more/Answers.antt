use Rattle.std.proofs.Common.{◌≡◌, false, Result, Ok, Err, IfErr, IfOk, inl, inr}
use Rattle.naga_arena.specs.Memory.{UnlessOutOfMemory}
use Rattle.naga_arena.specs.Span.{inner_of}
use Rattle.naga_valid.specs.Accepted.{Accepts, Refuses}
use Rattle.naga_valid.specs.State.{settings_of}
use Rattle.naga_valid.specs.declared.error.ValidationError.TheVariants.{OutOfMemory}
use Rattle.naga_tests.proofs.tests.more_capabilities.validate_with_more.Goals as goal

module _ {A E : Type 0} (result : Result A E) (IsOutOfMemory : E → Type 0) (Accepted : A → Type 0) (Refused : E → Type 0) where
  -- what is known of a value that is accepted is known of what is returned
  known-if-ok : (Known : A → Type 0) → UnlessOutOfMemory IsOutOfMemory result Accepted Refused → ((value : A) → Accepted value → Known value) → IfOk result Known
  known-if-ok Known returned known = by_case result returned
    where
      by_case : (r : Result A E) → UnlessOutOfMemory IsOutOfMemory r Accepted Refused → IfOk r Known
      by_case (Ok value) accepted = known value accepted
      by_case (Err error) refused = tt

  -- where nothing is refused, an error is that memory was
  only-memory : UnlessOutOfMemory IsOutOfMemory result Accepted Refused → ((error : E) → Refused error → ⊥) → IfErr result IsOutOfMemory
  only-memory returned never = by_case result returned
    where
      by_case : (r : Result A E) → UnlessOutOfMemory IsOutOfMemory r Accepted Refused → IfErr r IsOutOfMemory
      by_case (Ok value) accepted = tt
      by_case (Err error) (inl memory) = memory
      by_case (Err error) (inr refused) = absurd (never error refused)

pub returns-clause-lists : goal.returns-clause-lists
returns-clause-lists g c =
    let resolves = g.T.Typing.resolves c.args.more.now.typing in
    let m = c.args.module.now in
    known-if-ok c.validate.result (λ e. inner_of e ≡ OutOfMemory) (λ info. Accepts resolves m (settings_of c.args.more.now false) c.validate.new.self.infos info.lists)
    (λ e. Refuses resolves m (settings_of c.args.more.now false) (inner_of e)) (λ info. info.lists ≡ c.args.info.now.lists) c.validate.ensures.result
    (λ info accepted. (c.more_capabilities.ensures.same c.args.validator.now.infos c.validate.new.self.infos c.args.info.now.lists info.lists c.requires.accepted accepted).1)

pub returns-clause-infos : goal.returns-clause-infos
returns-clause-infos g c =
    let resolves = g.T.Typing.resolves c.args.more.now.typing in
    let m = c.args.module.now in
    known-if-ok c.validate.result (λ e. inner_of e ≡ OutOfMemory) (λ info. Accepts resolves m (settings_of c.args.more.now false) c.validate.new.self.infos info.lists)
    (λ e. Refuses resolves m (settings_of c.args.more.now false) (inner_of e)) (λ info. c.validate.new.self.infos ≡ c.args.validator.now.infos) c.validate.ensures.result
    (λ info accepted. (c.more_capabilities.ensures.same c.args.validator.now.infos c.validate.new.self.infos c.args.info.now.lists info.lists c.requires.accepted accepted).0)

pub returns-clause-memory : goal.returns-clause-memory
returns-clause-memory g c =
    let resolves = g.T.Typing.resolves c.args.more.now.typing in
    let m = c.args.module.now in
    let known = c.more_capabilities.ensures.accepted c.args.validator.now.infos c.args.info.now.lists c.requires.accepted in
    only-memory c.validate.result (λ e. inner_of e ≡ OutOfMemory) (λ info. Accepts resolves m (settings_of c.args.more.now false) c.validate.new.self.infos info.lists)
    (λ e. Refuses resolves m (settings_of c.args.more.now false) (inner_of e)) c.validate.ensures.result (λ error refused. refused.1 (known.facts, known.accepted))
