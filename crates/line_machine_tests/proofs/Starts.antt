-- Starts of lines, one after the other.
use Rattle.std.proofs.Common.{◌≡◌, List, [], ◌∷◌, ℕ, map, refl, ap, sym, subst, ◌∙◌}
use Rattle.scope_defs.specs.Frames.{Frame, Start, forgotten, bare}
use Rattle.line_defs.specs.Line.{LineResult}
use Rattle.line_runs.specs.Runs.{Runs, Fits, bare_result, first_line, next_line}

map-again : (frames : List Frame) → map forgotten (map forgotten frames) ≡ map forgotten frames
map-again [] = refl
map-again (frame ∷ frames) = ap (λ rest. forgotten frame ∷ rest) (map-again frames)

bare-again : (start : Start) → bare (bare start) ≡ bare start
bare-again start =
    ap (λ below. let s : Start = record {
      first = start.first;
      stack = record { top = forgotten start.stack.top; below = below };
    } in s) (map-again start.stack.below)

pub first-at : (runs : Runs) (start : Start) → start ≡ runs.start → Fits runs (bare start)
first-at runs start is = subst (λ s. Fits runs (bare s)) (sym is) first_line

pub next-at : (runs : Runs) (start : Start) (line : List ℕ) (result : LineResult) (next : Start) → Fits runs start
    → bare_result result ≡ runs.line start line → next ≡ result.end → Fits runs (bare next)
next-at runs start line result next fits gives is =
    let same : bare (runs.line start line).end ≡ bare next =
    ap (λ r. let one : LineResult = r in bare one.end) (sym gives) ∙ bare-again result.end ∙ ap bare (sym is) in
    subst (Fits runs) same (next_line start line fits)
