-- The summaries of a text that is made, one after another.
use Rattle.std.proofs.Common.{◌≡◌, ℕ, suc, ◌+◌, ◌-◌, ◌*◌, ◌<◌, ◌≤◌, List, [], ◌∷◌, ◌++◌, map, refl, sym, ap, subst, ◌∙◌, arith}
use Rattle.std.specs.Prelude.{Option}
use Rattle.std.specs.List.{concat, range_with_len}
use Rattle.text_defs.specs.Batch.{edited}
use Rattle.piece_io.specs.Told.{appended, risen}
use Rattle.document_defs.specs.TextRows.{Settings}
use Rattle.generator_defs.specs.declared.TheConstants.{EDITS_OF_A_SUMMARY}
use Rattle.generator_defs.specs.GeneratedText.{generated_text, generated_edit, text_after}
use Rattle.session_defs.specs.MadeOutput.{made_output, summaries, summary_count, summary_line, text_at_summary}
use Rattle.bracket_program.specs.Ends.{Outside, WritesFront, WritesUpTo, IsReplyEnd, IsMadeEnd}
use Rattle.bracket_program.specs.declared.status.Status.{Status}
use Rattle.bracket_program.specs.declared.status.Status.TheVariants as status
use Rattle.bracket_program.proofs.Replying.{none_written, more_written, all_written, front_written, front_of_more}

-- the summaries from this one on, so many of them
abbrev pub summaries_from : Settings → (n from count : ℕ) → List ℕ
summaries_from settings n from count =
    concat (map (λ k. summary_line settings (text_at_summary n k)) (range_with_len from count))

-- all of them
pub all_summaries : (settings : Settings) (n : ℕ) → made_output settings n ≡ summaries_from settings n 0 5
unfolding summaries
all_summaries settings n = refl

-- the next of them, and those behind it
pub next_summary : (settings : Settings) (n k : ℕ) → k < 5
    → summaries_from settings n k (5 - k) ≡ summary_line settings (text_at_summary n k) ++ summaries_from settings n (k + 1) (5 - (k + 1))
next_summary settings n k few =
    let one : 5 - k ≡ suc (5 - (k + 1)) = omega (arith, few) in
    ap (summaries_from settings n k) one

-- what is left to be written behind so many summaries
abbrev pub Told : Settings → ℕ → Option (List ℕ) → Option (List ℕ) → ℕ → Type 0
Told settings n before now k = WritesUpTo before now (made_output settings n) (summaries_from settings n k (5 - k))

pub told_none : (settings : Settings) (n : ℕ) (held : Option (List ℕ)) → Told settings n held held 0
told_none settings n held =
    subst (WritesUpTo held held (made_output settings n)) (all_summaries settings n) (none_written held (made_output settings n))

pub told_next : (settings same : Settings) (n k : ℕ) (text : List ℕ) (before now after : Option (List ℕ)) → k < 5
    → same ≡ settings → text ≡ text_at_summary n k → Told settings n before now k
    → after ≡ appended now (summary_line same text) → Told settings n before after (k + 1)
told_next settings same n k text before now after few s t w e =
    more_written (summary_line settings (text_at_summary n k)) (summaries_from settings n (k + 1) (5 - (k + 1))) after
    (subst (WritesUpTo before now (made_output settings n)) (next_summary settings n k few) w)
    (e ∙ (ap (λ o. appended now (summary_line o text)) s ∙ ap (λ x. appended now (summary_line settings x)) t))

-- writing stops within the next summary
pub told_front : (settings same : Settings) (n k : ℕ) (text : List ℕ) (before now after : Option (List ℕ)) → k < 5
    → same ≡ settings → text ≡ text_at_summary n k → Told settings n before now k
    → WritesFront now after (summary_line same text) → WritesFront before after (made_output settings n)
told_front settings same n k text before now after few s t w f =
    front_of_more (summaries_from settings n (k + 1) (5 - (k + 1)))
    (subst (WritesUpTo before now (made_output settings n)) (next_summary settings n k few) w)
    (subst (WritesFront now after)
    (ap (λ o. summary_line o text) s ∙ ap (summary_line settings) t) f)

-- all are written
pub told_all : (settings : Settings) (n k : ℕ) (before now : Option (List ℕ)) → k ≡ 5 → Told settings n before now k
    → now ≡ appended before (made_output settings n)
told_all settings n k before now e w = all_written (subst (Told settings n before now) e w)

-- writing stops between two
pub told_stops : (settings : Settings) (n k : ℕ) (before now : Option (List ℕ)) → Told settings n before now k
    → WritesFront before now (made_output settings n)
told_stops settings n k before now w = front_written w

-- the text behind one summary more
pub next_text : (n k : ℕ) → text_after n (EDITS_OF_A_SUMMARY * k + EDITS_OF_A_SUMMARY) ≡ text_at_summary n (k + 1)
next_text n k =
    let same : EDITS_OF_A_SUMMARY * k + EDITS_OF_A_SUMMARY ≡ EDITS_OF_A_SUMMARY * (k + 1) = omega arith in
    ap (text_after n) same

-- an end at a reply, seen from before replies that left the count as it was
pub end_from : (before now after : ℕ) (s : Status) → now ≡ before → IsReplyEnd now after s → IsReplyEnd before after s
end_from before now after s e i = subst (λ n. IsReplyEnd n after s) e i

-- the text at first, and behind one edit more
pub text_at_first : (n : ℕ) → text_after n 0 ≡ generated_text n
unfolding text_after
text_at_first n = refl

pub text_after-next : (n j : ℕ) → text_after n (j + 1) ≡ edited (text_after n j) (generated_edit n (j + 1) (text_after n j) ∷ [])
unfolding text_after
text_after-next n j =
    let one : j + 1 ≡ suc j = omega arith in
    ap (text_after n) one ∙ ap (λ k. edited (text_after n j) (generated_edit n k (text_after n j) ∷ [])) (sym one)

-- an end at a summary is an end of the run
pub made_end : (before after : Outside) (all : List ℕ) (s : Status) → WritesFront before.held after.held all
    → IsReplyEnd before.writes after.writes s → after.left ≡ before.left → after.reads ≡ before.reads
    → IsMadeEnd before after all s
made_end before after all status.WriteFault f e l r = (f, e, l, r)
made_end before after all status.Memory f e l r = (f, e, l, r)
made_end before after all status.Done f e l r = absurd e
made_end before after all status.Words f e l r = absurd e
made_end before after all status.TextFile f e l r = absurd e
made_end before after all status.GrammarFile f e l r = absurd e
made_end before after all status.BracketFile f e l r = absurd e
made_end before after all status.ReadFault f e l r = absurd e
made_end before after all status.ScriptFull f e l r = absurd e
