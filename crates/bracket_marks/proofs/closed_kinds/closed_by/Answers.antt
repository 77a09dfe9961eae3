use Rattle.std.proofs.Common.{◌≡◌, ◌==◌, ◌||◌, ℕ, List, Bool, false, if◌then◌else◌, map, take, ◌∙◌, ap, sym}
use Rattle.std.proofs.lemmas.List.{take_all}
use Rattle.text_pos.specs.declared.kinds.Kinds.{Kinds}
use Rattle.pairing_defs.specs.BracketTexts.{are_paired, number_of}
use Rattle.bracket_marks.proofs.KindBits.{is_at, taken_more, set_by}
use Rattle.bracket_marks.proofs.closed_kinds.closed_by.Goals as goal

pub loop-n-preserved : goal.loop-n-preserved
loop-n-preserved c =
    let test : List ℕ → Bool = λ opener. are_paired c.args.kept.now opener c.args.closer.now in
    let openers = c.args.openers.now in
    let n = c.loop-n.n in
    let closes : c.are_paired-closes.result ≡ test c.index-openers-n.result =
    c.are_paired-closes.ensures ∙ ap test c.text.ensures in
    λ j. c.with_if-kinds.ensures j
    ∙ ap (λ b. b || (if c.are_paired-closes.result then j == n else false)) (c.loop-n.invariant j)
    ∙ ap (λ x. is_at (map test (take n openers)) j || (if x then j == n else false)) closes
    ∙ sym (taken_more test openers n c.index-openers-n.result c.loop-n-test.true c.index-openers-n.is j)

pub returns : goal.returns
returns c =
    let test : List ℕ → Bool = λ opener. are_paired c.args.kept.now opener c.args.closer.now in
    let openers = c.args.openers.now in
    let whole = take_all c.loop-n.n openers c.loop-n-test.false in
    let made : List (List ℕ) → Kinds = λ texts. record { bits = number_of (map test texts) } in
    set_by c.loop-n.kinds (map test openers) (λ k. c.loop-n.invariant k ∙ ap (λ xs. is_at (map test xs) k) whole)
    ∙ ap made c.requires.all
