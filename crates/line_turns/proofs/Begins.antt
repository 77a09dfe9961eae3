-- What is done with a begin, before and behind what it tells.
use Rattle.std.proofs.Common.{◌≡◌, ℕ, ◌<◌, ◌≤◌, List, map, refl, ap, sym, ◌∙◌, ◌+◌, arith}
use Rattle.std.specs.Prelude.{Bool, true, false, nat_le, Option, Some}
use Rattle.std.proofs.lemmas.Bool.Decides.{nat_tests}
use Rattle.pattern_defs.specs.Attempt.{Captures}
use Rattle.scope_defs.specs.Scopes.{Scopes}
use Rattle.scope_defs.specs.Frames.{Frame, Stack, depth, on}
use Rattle.rule_defs.specs.Rules.{Rule, Slot, Never, Read, Later, Entry}
use Rattle.line_defs.specs.declared.limits.TheConstants.{MOST_OPEN}
use Rattle.line_defs.specs.Frames.{popped}
use Rattle.line_defs.specs.Runs.{State, Turned, rest, advanced, GoesOn}
use Rattle.line_defs.specs.Search.{Matched, OfEnd}
use Rattle.line_defs.specs.Turns.{Run, names, new_frame, kept_end, told_match, begun, begin_found, entered, is_stuck}
use Rattle.line_defs.specs.Turns.{with_settled, goes_on}

module _ (run : Run) (m : Matched) where
  kept-same : (other : Matched) (slot : Slot) → other.captures ≡ m.captures
      → kept_end run other slot ≡ kept_end run m slot
  kept-same other Never is = refl
  kept-same other (Read tree) is = refl
  kept-same other (Later text groups) is =
      ap (λ captures. kept_end run (record m { captures = captures }) (Later text groups)) is

  pub kept-as : (end : Option (List ℕ)) (other : Matched) (slot : Slot) → other.captures ≡ m.captures
      → end ≡ kept_end run other slot → end ≡ kept_end run m slot
  kept-as end other slot is e = e ∙ kept-same other slot is

  module _ (number : ℕ) (rule : Rule) (state two three : State) (before scopes : Scopes)
      (before-is : before ≡ state.stack.top.content) (scopes-is : scopes ≡ names run m before rule.name)
      (two-is : two ≡ record state { stack = on (new_frame run number scopes m state) state.stack })
      (three-is : three ≡ record two { out = told_match run two before scopes m rule.start_captures }) where
    begun-same : (b : Bool) → nat_le MOST_OPEN (depth state.stack) ≡ b
        → begun b run number rule m three ≡ begin_found run number rule m state
    begun-same b is = rw (three-is, two-is, scopes-is, before-is, ← is) refl

    pub begun-full : 1000 ≤ depth state.stack
        → begun true run number rule m three ≡ begin_found run number rule m state
    begun-full many = begun-same true (full (depth state.stack) many)
      where
        full : (d : ℕ) → 1000 ≤ d → nat_le 1000 d ≡ true
        full d h = grind (arith, nat_tests)

    pub begun-more : depth state.stack < 1000
        → begun false run number rule m three ≡ begin_found run number rule m state
    begun-more few = begun-same false (more (depth state.stack) few)
      where
        more : (d : ℕ) → d < 1000 → nat_le 1000 d ≡ false
        more d h = grind (arith, nat_tests)

    pub content-told : three.stack.top.content ≡ scopes
    content-told = rw (three-is, two-is) refl

    pub depth-told : depth three.stack ≡ depth state.stack + 1
    depth-told = rw (three-is, two-is) (omega arith)

-- behind what it tells
module _ (run : Run) (m : Matched) (number : ℕ) (rule : Rule) (old set : State) (frame : Frame)
    (content : Scopes) (end : Option (List ℕ))
    (frame-is : frame ≡ record old.stack.top { content = content; end_text = end })
    (content-is : content ≡ names run m old.stack.top.content rule.content)
    (end-is : end ≡ kept_end run m rule.finish)
    (set-is : set ≡ record old { stack = record old.stack { top = frame } }) where
  settled-is : record set { anchor = Some m.to } ≡ with_settled run rule m old
  settled-is = rw (set-is, frame-is, content-is, end-is) refl

  pub begun-stuck : (stuck : Bool) (last : State) (turned : Turned) → true ≡ stuck
      → last ≡ record set { anchor = Some m.to; stack = popped set.stack } → turned ≡ rest run.text last
      → turned ≡ entered stuck run m (with_settled run rule m old)
  begun-stuck stuck last turned is last-is e =
      e ∙ ap (λ s. rest run.text s) last-is ∙ ap (λ s. entered true run m s) settled-is
      ∙ ap (λ b. entered b run m (with_settled run rule m old)) is

  pub begun-on : (stuck : Bool) (last : State) (turned : Turned) → false ≡ stuck
      → last ≡ record set { anchor = Some m.to } → turned ≡ GoesOn (advanced m.to last)
      → turned ≡ entered stuck run m (with_settled run rule m old)
  begun-on stuck last turned is last-is e =
      e ∙ ap (λ s. GoesOn (advanced m.to s)) last-is ∙ ap (λ s. entered false run m s) settled-is
      ∙ ap (λ b. entered b run m (with_settled run rule m old)) is
