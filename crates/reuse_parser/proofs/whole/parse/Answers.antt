use Rattle.std.proofs.Common.{◌≡◌, ap, ◌∙◌, subst, arith, length}
use Rattle.bracket_marks.specs.MarkedLine.{MarkedLine, marks_in, text_end}
use Rattle.std.proofs.Common.{List, ◌<◌, ◌^◌, true}
use Rattle.std.proofs.lemmas.Bool.Decides.{nat_tests}
use Rattle.tree_defs.specs.Ends.{fits}
use Rattle.text_pos.specs.declared.length.Length.{Length}
use Rattle.text_pos.specs.declared.length.Pos.{Pos}
use Rattle.text_pos.specs.Lengths.{IsLess}
use Rattle.tree_defs.specs.Rows.{place}
use Rattle.tree_defs.proofs.Lengths.{same_length}
use Rattle.reuse_parser.specs.Parsing.{last_place, given_after}
use Rattle.reuse_parser.proofs.Sources.{all_marks, marks_follow, last_within, not_before, stands_for, sound_is_even}
use Rattle.reuse_parser.proofs.whole.parse.Goals as goal

ends : (last : Length) (p : Pos) (lines : List MarkedLine) → last.lines ≡ p.line → last.cols ≡ p.col
    → p ≡ text_end lines
    → place last ≡ text_end lines
ends last p lines line col is = ap (λ n. record { line = n; col = last.cols }) line
    ∙ ap (λ n. record { line = p.line; col = n }) col ∙ is

fits_by : (a : Length) → a.lines < 2 ^ 32 → a.cols < 2 ^ 32 → fits a ≡ true
fits_by a h k = grind (arith, nat_tests)

pub returns-in_err-all-clause-few : goal.returns-in_err-all-clause-few
returns-in_err-all-clause-few g c =
    let all = ap length (all_marks (g.S.MarkSource.told c.args.source.now) c.in_err-all.ensures.marked
    c.requires.begin) in
    let few = c.in_err-all.ensures.few in omega (arith, all, few)

pub parse_list-requires-clause-follow : goal.parse_list-requires-clause-follow
parse_list-requires-clause-follow g c =
    let s = g.S.MarkSource.told c.args.source.now in
    let all = all_marks s c.in_ok-all.ensures.marked c.requires.begin in
    rw (c.deref.ensures.value, c.in_ok-all.ensures.all, all)
    (marks_follow s.lines c.length_to.result c.in_ok-all.ensures.marked c.requires.lines
    (ends c.length_to.result c.end-end.result s.lines c.length_to.ensures.lines c.length_to.ensures.cols
    (rw c.in_ok-all.ensures.lines at c.end-end.ensures)))

pub returns-in_err-parsed-clause-few : goal.returns-in_err-parsed-clause-few
returns-in_err-parsed-clause-few g c =
    let all = ap length (all_marks (g.S.MarkSource.told c.args.source.now) c.in_ok-all.ensures.marked
    c.requires.begin) in
    let few = c.in_ok-all.ensures.few in omega (arith, all, few)

pub seek-requires : goal.seek-requires
seek-requires g c =
    let s = g.S.MarkSource.told c.args.source.now in
    let all = all_marks s c.in_ok-all.ensures.marked c.requires.begin in
    let last = ends c.length_to.result c.end-end.result s.lines c.length_to.ensures.lines c.length_to.ensures.cols
    (rw c.in_ok-all.ensures.lines at c.end-end.ensures) in
    let within = last_within (record { line = 0; col = 0 }) c.length_to.result (marks_in s.lines)
    (marks_follow s.lines c.length_to.result c.in_ok-all.ensures.marked c.requires.lines last) in
    let place : (g.S.MarkSource.told c.gather.new.source).place ≡ last_place (record { line = 0; col = 0 })
    (marks_in s.lines) =
    c.in_ok-all.ensures.place ∙ ap (λ p. last_place p c.in_ok-all.all.items) c.requires.begin
    ∙ ap (λ ms. last_place (record { line = 0; col = 0 }) ms) (c.in_ok-all.ensures.all ∙ all) in
    rw place (not_before c.end-end.result (last_place (record { line = 0; col = 0 }) (marks_in s.lines))
    (subst (λ e. ¬ IsLess e (record {
      lines = (last_place (record { line = 0; col = 0 })
          (marks_in s.lines)).line;
      cols = (last_place (record { line = 0; col = 0 }) (marks_in s.lines)).col;
    }))
    (same_length c.length_to.result (record { lines = c.end-end.result.line; cols = c.end-end.result.col })
    c.length_to.ensures.lines c.length_to.ensures.cols) within))

pub returns-clause-stands : goal.returns-clause-stands
returns-clause-stands g c =
    let s = g.S.MarkSource.told c.args.source.now in
    let all = all_marks s c.in_ok-all.ensures.marked c.requires.begin in
    let is = c.deref.ensures.value ∙ c.in_ok-all.ensures.all ∙ all in
    rw c.known-tree.ensures.same (stands_for c.empty.result c.args.limit c.length_to.result _ _ _ s.lines
    c.empty.ensures
    (ends c.length_to.result c.end-end.result s.lines c.length_to.ensures.lines c.length_to.ensures.cols
    (rw c.in_ok-all.ensures.lines at c.end-end.ensures))
    c.in_ok-all.ensures.marked c.requires.lines (rw (c.in_ok-all.ensures.all ∙ all) at c.in_ok-all.ensures.fit)
    (fits_by c.length_to.result (omega arith) (omega arith))
    (rw is at c.in_ok-parsed.ensures) (sound_is_even _ c.known-tree.ensures.sound))

pub returns-clause-counted : goal.returns-clause-counted
returns-clause-counted g c =
    let all = ap length (all_marks (g.S.MarkSource.told c.args.source.now) c.in_ok-all.ensures.marked
    c.requires.begin) in
    let counted = c.in_ok-all.ensures.counted in omega (arith, all, counted)

pub returns-clause-few : goal.returns-clause-few
returns-clause-few g c =
    let all = ap length (all_marks (g.S.MarkSource.told c.args.source.now) c.in_ok-all.ensures.marked
    c.requires.begin) in
    let few = c.in_ok-all.ensures.few in omega (arith, all, few)

pub returns-in_err-all-clause-few_given : goal.returns-in_err-all-clause-few_given
returns-in_err-all-clause-few_given g c =
    let all = ap length (all_marks (g.S.MarkSource.told c.args.source.now) c.in_err-all.ensures.marked
    c.requires.begin) in
    let few = c.in_err-all.ensures.few_given in omega (arith, all, few)

pub returns-in_err-parsed-clause-few_given : goal.returns-in_err-parsed-clause-few_given
returns-in_err-parsed-clause-few_given g c =
    let all = ap length (all_marks (g.S.MarkSource.told c.args.source.now) c.in_ok-all.ensures.marked
    c.requires.begin) in
    let few = c.in_ok-all.ensures.few_given in omega (arith, all, few)

pub returns-clause-given : goal.returns-clause-given
returns-clause-given g c =
    let s = g.S.MarkSource.told c.args.source.now in
    let all = ap length (c.in_ok-all.ensures.all ∙ all_marks s c.in_ok-all.ensures.marked c.requires.begin) in
    ap (λ u. u.given) c.seek.ensures ∙ c.in_ok-all.ensures.given ∙ ap (λ n. given_after n s.given) all

pub returns-clause-few_given : goal.returns-clause-few_given
returns-clause-few_given g c =
    let all = ap length (all_marks (g.S.MarkSource.told c.args.source.now) c.in_ok-all.ensures.marked
    c.requires.begin) in
    let few = c.in_ok-all.ensures.few_given in
    let same = ap (λ u. u.given) c.seek.ensures in omega (arith, all, few, same)
