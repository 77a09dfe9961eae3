-- What entries take, one after the other.
use Rattle.std.proofs.Common.{◌≡◌, ℕ, ◌+◌, ◌<◌, List, ◌++◌, length, drop, get_or, ap, sym, ◌∙◌, append_assoc}
use Rattle.std.proofs.lemmas.List.{at_drop_more}
use Rattle.pattern_defs.specs.Attempt.{Captures}
use Rattle.rule_table.specs.declared.rule.RuleCapture.{RuleCapture}
use Rattle.line_output.specs.declared.taken.Taken.{Taken}
use Rattle.line_output.specs.Taken.{taken_by, takens_of}

pub takens_of-more : (text : List ℕ) (captures : Captures) (old new : List Taken) (entries : List RuleCapture) (i : ℕ)
    (entry : RuleCapture) → i < length entries → entry ≡ get_or entries i entry
    → new ≡ old ++ taken_by text captures entry →
    new ++ takens_of text captures (drop (i + 1) entries) ≡ old ++ takens_of text captures (drop i entries)
takens_of-more text captures old new entries i entry inside is e =
    rw e
    (append_assoc old (taken_by text captures entry) (takens_of text captures (drop (i + 1) entries))
    ∙ ap (λ rest. old ++ rest)
    (ap (λ one. taken_by text captures one ++ takens_of text captures (drop (i + 1) entries)) is
    ∙ sym (at_drop_more (takens_of text captures) entries i entry inside)))
