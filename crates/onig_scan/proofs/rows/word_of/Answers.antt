use Rattle.std.proofs.Common.{◌∙◌, sym}
use Rattle.std.proofs.lemmas.Bool.{true≢false}
use Rattle.onig_scan.proofs.WordBits.{bits_more}
use Rattle.onig_scan.proofs.rows.word_of.Goals as goal
use Rattle.onig_scan.proofs.rows.word_of.Goals.{then-may_match_at, else-may_match_at}

pub loop-k-preserved : goal.loop-k-preserved
loop-k-preserved c =
    elim c.if-may_match_at.branch [
      | then-may_match_at w ↦ bits_more _ _ _ _ _ _ _ c.may_match_at.result c.loop-k-test.true (λ _. w.word-is)
          (λ no. absurd (true≢false (sym w.if-may_match_at.true ∙ no))) c.loop-k.invariant c.may_match_at.ensures
      | else-may_match_at w ↦ bits_more _ _ _ _ _ _ _ c.may_match_at.result c.loop-k-test.true
          (λ yes. absurd (true≢false (sym yes ∙ w.if-may_match_at.false))) (λ _. w.word-is) c.loop-k.invariant
          c.may_match_at.ensures
    ]
