use Rattle.std.proofs.Common.{◌≡◌, ℕ, ◌+◌, ◌-◌, ◌∙◌, sym, ap, subst, arith}
use Rattle.std.specs.Int.{bit_at}
use Rattle.std.proofs.lemmas.Nat.Bits.{bit_at-zero}
use Rattle.onig_scan.proofs.Places.{skip_on, end_on, on_behind, decided_behind, on_if_none, if_decided}
use Rattle.onig_scan.proofs.WordBits.{lowest_bit}
use Rattle.onig_scan.proofs.scanner.find_in_word.Goals as goal

pub returns-then-index-entries-clause-missed : goal.returns-then-index-entries-clause-missed
returns-then-index-entries-clause-missed c =
    let bit = lowest_bit c.args.word (c.loop-left.index - c.args.first) c.loop-left.left c.loop-left-test.true
    (omega arith) (omega arith) c.loop-left.invariant.bits in
    let within = bit.within in
    let low = c.loop-left.invariant.low in
    end_on _ _ _ _ _ _ _ _ _ c.if-index-entries.true (omega (arith, c.if-index-entries.true, within, low))
    (skip_on _ _ c.loop-left.index _ _ _ _ _ _ _ c.args.word c.requires.enough c.requires.word low
    (omega (arith, within)) bit.zeros c.loop-left.invariant.on)

pub returns-then-is_some-clause-found : goal.returns-then-is_some-clause-found
returns-then-is_some-clause-found c =
    let bit = lowest_bit c.args.word (c.loop-left.index - c.args.first) c.loop-left.left c.loop-left-test.true
    (omega arith) (omega arith) c.loop-left.invariant.bits in
    let within = bit.within in
    let on = skip_on _ _ c.loop-left.index _ _ _ _ _ _ _ c.args.word c.requires.enough
    c.requires.word c.loop-left.invariant.low (omega (arith, within)) bit.zeros c.loop-left.invariant.on in
    if_decided _ _ c.decided_by-found.result (λ f is. decided_behind _ _ _ _ _ _ _ _ _ f on is)
    c.decided_by-found.ensures.found

pub loop-left-smaller : goal.loop-left-smaller
loop-left-smaller c =
    let bit = lowest_bit c.args.word (c.loop-left.index - c.args.first) c.loop-left.left c.loop-left-test.true
    (omega arith) (omega arith) c.loop-left.invariant.bits in
    let within = bit.within in
    let low = c.loop-left.invariant.low in
    omega (arith, within, low)

pub loop-left-preserved : goal.loop-left-preserved
loop-left-preserved c =
    let bit = lowest_bit c.args.word (c.loop-left.index - c.args.first) c.loop-left.left c.loop-left-test.true
    (omega arith) (omega arith) c.loop-left.invariant.bits in
    let within = bit.within in
    let low = c.loop-left.invariant.low in
    let on = skip_on _ _ c.loop-left.index _ _ _ _ _ _ _ c.args.word c.requires.enough
    c.requires.word low (omega (arith, within)) bit.zeros c.loop-left.invariant.on in
    record {
      low = omega (arith, low);
      high = omega (arith, within, low);
      bits = λ j. bit.behind j ∙ ap (bit_at c.args.word) (omega (arith, low));
      on = on_behind _ _ _ _ _ _ _ _ _ _ on (on_if_none _ c.decided_by-found.result
          (sym c.is_some.ensures ∙ c.if-is_some.false) c.decided_by-found.ensures.missed);
    }

pub returns-clause-missed : goal.returns-clause-missed
returns-clause-missed c =
    let low = c.loop-left.invariant.low in
    let high = c.loop-left.invariant.high in
    let Bits : ℕ → Type 0 = λ n. (j : ℕ) → bit_at n j ≡ bit_at c.args.word ((c.loop-left.index - c.args.first) + j) in
    let none : Bits 0 = subst Bits c.loop-left-test.false c.loop-left.invariant.bits in
    let on = skip_on _ _ c.loop-left.index ((c.args.first + 64) - c.loop-left.index) _ _ _ _ _ _ c.args.word
    c.requires.enough c.requires.word low (omega (arith, low, high))
    (λ j below. sym (none j) ∙ bit_at-zero j) c.loop-left.invariant.on in
    let e : c.loop-left.index + ((c.args.first + 64) - c.loop-left.index) ≡ c.args.first + 64 =
    omega (arith, low, high) in
    rw e at on
