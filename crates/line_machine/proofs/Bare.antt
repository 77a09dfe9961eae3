-- Starts and results up to what is forgotten from line to line.
use Rattle.std.proofs.Common.{◌≡◌, ℕ, List, [], ◌∷◌, length, map, refl, ap, sym, ◌∙◌, arith}
use Rattle.std.specs.Prelude.{Bool, true, false, nat_le}
use Rattle.std.proofs.lemmas.List.{length-map}
use Rattle.scope_defs.specs.Frames.{Frame, Stack, Start, forgotten, forgotten_all, bare}
use Rattle.line_defs.specs.Machine.{Machine}
use Rattle.line_defs.specs.Frames.{after}
use Rattle.line_defs.specs.Line.{LineResult, line_by, tokenised, line_run, with_line_feed, at_front}
use Rattle.line_laws.specs.RunEnds.{IsRooted}
use Rattle.line_laws.specs.Starts.{IsFit}
use Rattle.line_laws.proofs.Lines.{tokenised-bare}
use Rattle.line_runs.specs.Runs.{bare_result}

map-again : (frames : List Frame) → map forgotten (map forgotten frames) ≡ map forgotten frames
map-again [] = refl
map-again (frame ∷ frames) = ap (λ rest. forgotten frame ∷ rest) (map-again frames)

pub forgotten-again : (stack : Stack) → forgotten_all (forgotten_all stack) ≡ forgotten_all stack
forgotten-again stack =
    ap (λ below. let s : Stack = record { top = forgotten stack.top; below = below } in s) (map-again stack.below)

after-again : (stack : Stack) → bare (after stack) ≡ after stack
after-again stack =
    ap (λ s. let start : Start = record { first = false; stack = s } in start) (forgotten-again stack)

bare-line : (b : Bool) (machine : Machine) (start : Start) (line : List ℕ)
    → bare_result (line_by b machine start line) ≡ line_by b machine start line
bare-line true machine start line =
    ap (λ e. let r : LineResult = record (line_by true machine start line) { end = e } in r) (after-again start.stack)
bare-line false machine start line =
    ap (λ e. let r : LineResult = record (line_by false machine start line) { end = e } in r)
    (after-again (line_run machine (with_line_feed line) (at_front start)).stack)

-- the result of a line tells nothing that is forgotten, and comes from what isn't
pub bare-tokenised : (machine : Machine) (start : Start) (line : List ℕ) (r : LineResult)
    → r ≡ tokenised machine start line → bare_result r ≡ tokenised machine (bare start) line
bare-tokenised machine start line r is =
    ap bare_result is ∙ bare-line (nat_le machine.long (length line)) machine start line
    ∙ sym (tokenised-bare machine start line)

rooted-told : (machine : Machine) (top : Frame) (below : List Frame)
    → IsRooted machine (forgotten top) (map forgotten below) → IsRooted machine top below
rooted-told machine top [] rooted = rooted
rooted-told machine top (frame ∷ below) rooted = rooted-told machine frame below rooted

pub fit-told : (machine : Machine) (start : Start) → IsFit machine (bare start) → IsFit machine start
fit-told machine start fit = record {
  few = omega (arith, fit.few, length-map start.stack.below forgotten);
  rooted = rooted-told machine start.stack.top start.stack.below fit.rooted;
}
