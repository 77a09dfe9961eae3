use Rattle.std.proofs.Common.{◌≡◌, ◌∷◌, Some, sym, ap, ◌∙◌, arith, length, ◌++◌, append_assoc, []}
use Rattle.pairing_defs.specs.declared.Mark.{Mark}
use Rattle.mark_source.specs.Source.{Source, ahead, behind, first, AreMarked}
use Rattle.std.proofs.Common.{List, ℕ, suc, ◌+◌, ◌<◌, ◌≤◌, ◌^◌, true}
use Rattle.std.proofs.lemmas.Bool.Decides.{nat_tests}
use Rattle.std.proofs.lemmas.List.{length-append}
use Rattle.text_pos.specs.declared.length.Length.{Length}
use Rattle.tree_defs.specs.Ends.{fits}
use Rattle.mark_source.specs.Source.{risen}
use Rattle.reuse_parser.specs.Parsing.{last_place, AllFit, given_after, start_of, end_of}
use Rattle.reuse_parser.proofs.Sources.{next_marks}
use Rattle.reuse_parser.proofs.gather.gather.Goals as goal

fit_append : (ms : List Mark) (m : Mark) → AllFit ms → fits (start_of m) ≡ true → fits (end_of m) ≡ true
    → AllFit (ms ++ m ∷ [])
fit_append [] m fit from to = (from, to, tt)
fit_append (x ∷ ms) m fit from to = (fit.0, fit.1, fit_append ms m fit.2 from to)

one_longer : (ms : List Mark) (m : Mark) (more : List Mark) → more ≡ ms ++ m ∷ [] → length more ≡ suc (length ms)
one_longer ms m more is = let l = ap length is ∙ length-append ms (m ∷ []) in omega (arith, l)

risen_less : (n : ℕ) → risen n ≤ n + 1
risen_less n = omega arith

fits_by : (a : Length) → a.lines < 2 ^ 32 → a.cols < 2 ^ 32 → fits a ≡ true
fits_by a h k = grind (arith, nat_tests)

-- the mark that was given, and those behind it
given : (s t : Source) (m : Mark) → AreMarked s.lines → Some m ≡ first (ahead s) → t ≡ behind (Some m) s
    → ahead s ≡ m ∷ ahead t
given s t m marked is new = next_marks s m marked is ∙ ap (λ u. m ∷ ahead u) (sym new)

pub loop-source-smaller-in-Continue-1 : goal.loop-source-smaller-in-Continue-1
loop-source-smaller-in-Continue-1 g c =
    let e = ap length (given (g.S.MarkSource.told c.loop-source.source)
    (g.S.MarkSource.told c.next.new.self) c.in-Some.mark
    c.peek.ensures.marked c.in-Some.ensures.mark c.in-Some.ensures.place) in
    omega (arith, e)

pub loop-source-preserved-in-Continue-1 : goal.loop-source-preserved-in-Continue-1
loop-source-preserved-in-Continue-1 g c =
    let s = g.S.MarkSource.told c.loop-source.source in
    let t = g.S.MarkSource.told c.next.new.self in
    let e = given s t c.in-Some.mark c.peek.ensures.marked c.in-Some.ensures.mark c.in-Some.ensures.place in
    let k = ap length e in
    record {
      all = ap (λ l. l ++ ahead t) c.in_ok-push.ensures.items ∙ append_assoc c.loop-source.all.items
          (c.in-Some.mark ∷ []) (ahead t)
          ∙ ap (λ l. c.loop-source.all.items ++ l) (sym e) ∙ c.loop-source.invariant.all;
      counted = let h = c.loop-source.invariant.counted in let step = c.in-Some.ensures.step in omega
          (arith, h, k, step);
      place = ap (λ p. last_place p (ahead t)) (ap (λ u. u.place) c.in-Some.ensures.place)
          ∙ sym (ap (λ l. last_place s.place l) e) ∙ c.loop-source.invariant.place;
      fit = rw (c.in_ok-push.ensures.items) (fit_append c.loop-source.all.items c.in-Some.mark
          c.loop-source.invariant.fit
          (fits_by (start_of c.in-Some.mark) (omega arith) (omega arith))
          (fits_by (end_of c.in-Some.mark) (omega arith) (omega arith)));
      given = ap (λ u. u.given) c.in-Some.ensures.place ∙ ap risen c.loop-source.invariant.given
          ∙ sym (ap (λ n. given_after n (g.S.MarkSource.told c.args.source.now).given)
          (one_longer c.loop-source.all.items c.in-Some.mark _ c.in_ok-push.ensures.items));
      few_given = let h = c.loop-source.invariant.few_given in
          let r = risen_less s.given in
          let n = ap (λ u. u.given) c.in-Some.ensures.place in omega (arith, h, r, n, k);
      lines = ap (λ u. u.lines) c.in-Some.ensures.place ∙ c.loop-source.invariant.lines;
    }
