use Rattle.json.specs.Print.{quoted}
use Rattle.std.proofs.Common.{◌≡◌, ◌∙◌, ℕ, List, ◌++◌, ap, append_assoc, codes, string_bytes}
use Rattle.naga_verdict.proofs.objects.add_words.Goals as goal

-- the text after the words is the one before them, the fields that a reason doesn't have, and the words
pub returns : goal.returns
returns c =
    let fields : List ℕ = codes ",\"fields\":null,\"names\":[],\"text\":" in
    c.in_ok-add_string.ensures ∙ (ap (λ (l : List ℕ). l ++ quoted c.args.text.now) c.in_ok-push_str.ensures.bytes ∙ append_assoc (string_bytes c.args.json.now) fields (quoted c.args.text.now))
