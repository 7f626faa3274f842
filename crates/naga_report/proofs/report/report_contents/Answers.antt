use Rattle.std.proofs.Common.{◌≡◌, ◌∙◌, Bool, None, Option, Some, ⊎_elim, ap, inl, inr, string_bytes, subst}
use Rattle.std.specs.Option.{UnwrapsOrElse, unwrap_or}
use Rattle.naga_flags.specs.Bits.{all_validation_flags, default_capabilities}
use Rattle.naga_flags.specs.declared.flags.Capabilities.{Capabilities}
use Rattle.naga_flags.specs.declared.flags.ValidationFlags.{ValidationFlags}
use Rattle.naga_arena.specs.Span.{inner_of}
use Rattle.naga_report.specs.Report.{refused_text, settings_in}
use Rattle.naga_typing.specs.PlainTyping.{plain_resolves}
use Rattle.naga_typing.specs.declared.plain_typing.PlainTyping.{PlainTyping}
use Rattle.naga_valid.specs.Accepted.{Refuses}
use Rattle.naga_valid.specs.State.{Settings, State, settings_of}
use Rattle.naga_valid.specs.declared.error.ValidationError.TheVariants.{OutOfMemory}
use Rattle.naga_report.proofs.report.report_contents.Goals as goal

-- the value of an option, or `d`
unwrapped : {A : Type 0} (o : Option A) (d r : A) → UnwrapsOrElse o (λ x. x ≡ d) r → r ≡ unwrap_or o d
unwrapped None d r h = h
unwrapped (Some x) d r h = h

-- these settings
abbrev given : ValidationFlags → Capabilities → Bool → Settings
given flags capabilities resolved = record { flags = flags; capabilities = capabilities; resolved = resolved }

pub returns : goal.returns
returns c =
    let contents = c.args.contents.now in
    let error = inner_of c.in-Err.error in
    let text_is : string_bytes c.in_ok-report_refused-in-Err.field-0 ≡ refused_text error = c.in_ok-report_refused-in-Err.ensures ∙ ap refused_text c.as_inner.ensures in
    let same : settings_of c.new-validator.result contents.resolved ≡ settings_in contents =
    ap (λ (s : State PlainTyping). settings_of s contents.resolved) c.new-validator.ensures
    ∙ ap (λ (f : ValidationFlags). given f c.unwrap_or_default.result contents.resolved) (unwrapped contents.flags (record { 0 = all_validation_flags }) c.unwrap_or_default-flags.result c.unwrap_or_default-flags.ensures)
    ∙ ap (λ (k : Capabilities). given (unwrap_or contents.flags (record { 0 = all_validation_flags })) k contents.resolved)
    (unwrapped contents.capabilities (record { 0 = default_capabilities }) c.unwrap_or_default.result c.unwrap_or_default.ensures) in
    ⊎_elim
    (λ (o : inner_of c.in-Err.error ≡ OutOfMemory). inl (text_is ∙ ap refused_text o))
    (λ (r : Refuses plain_resolves contents.«module» (settings_of c.new-validator.result contents.resolved) (inner_of c.in-Err.error)).
    inr (error, subst (λ (s : Settings). Refuses plain_resolves contents.«module» s error) same r, text_is))
    c.in-Err.ensures
