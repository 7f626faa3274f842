use Rattle.std.proofs.Common.{◌≡◌, ℕ, Option, Some, None, not, refl, ap, ◌∙◌, rules, tests}
use Rattle.std.specs.Option.{option_map, unwrap_or}
use Rattle.std.proofs.lemmas.Iterator.{YieldsList-from_range}
use Rattle.std.proofs.lemmas.Iterator.Search.{find_from_yields_List}
use Rattle.naga_immediates.specs.SlotText.{has_slot}
use Rattle.naga_immediates.proofs.immediates.ImmediateSlots.end_of_run.Goals as goal

same_mapped : (found : Option ℕ) → found ≡ option_map (λ n. n) found
same_mapped None = refl
same_mapped (Some n) = refl

pub returns : goal.returns
returns c =
    c.unwrap_or.ensures
    ∙ ap
    (λ found. unwrap_or found 64)
    (same_mapped c.find.result ∙ find_from_yields_List (λ k. not (has_slot c.args.self k)) _ _ _ c.find.ensures.ran (YieldsList-from_range c.args.first 64 _ refl refl) (λ x b q k. search (rules, tests)))
