-- The results of lines, each from where the line before it ended.
use Rattle.std.proofs.Common.{◌≡◌, ℕ, ◌+◌, ◌<◌, List, [], ◌∷◌, length, map, drop, get_or, slice_index_or}
use Rattle.std.proofs.Common.{refl, ap, sym, subst, ◌∙◌, add-one, arith}
use Rattle.std.proofs.lemmas.List.{drop-drop, get_or-drop, drop-map}
use Rattle.text_defs.specs.Text.{line_in}
use Rattle.line_text.proofs.Places.{drop_line}
use Rattle.scope_defs.specs.Frames.{Frame, Start, Token, forgotten, bare}
use Rattle.line_defs.specs.Line.{LineResult}
use Rattle.line_runs.specs.Runs.{Runs, Fits, next_line, first_line, bare_result}
use Rattle.document_defs.specs.TextRows.{Settings, results_from}

-- ---- starts

all-again : (frames : List Frame) → map forgotten (map forgotten frames) ≡ map forgotten frames
all-again [] = refl
all-again (frame ∷ frames) = ap (λ rest. forgotten frame ∷ rest) (all-again frames)

bare-again : (start : Start) → bare (bare start) ≡ bare start
bare-again start =
    ap (λ below. let start : Start = record { first = start.first; stack = record { top = forgotten start.stack.top; below = below } } in start)
    (all-again start.stack.below)

-- the next line starts from where this one ended
pub next_start : (told : Runs) (start next : Start) (line : List ℕ) (run : LineResult)
    → bare_result run ≡ told.line (bare start) line → next ≡ run.end
    → bare next ≡ (told.line (bare start) line).end
next_start told start next line run gives is = ap bare is ∙ ap (λ run. run.end) gives

pub next_fits : (told : Runs) (start next : Start) (line : List ℕ) → Fits told (bare start)
    → bare next ≡ (told.line (bare start) line).end → Fits told (bare next)
next_fits told start next line fits is =
    subst (Fits told) (ap bare (sym is) ∙ bare-again next) (next_line (bare start) line fits)

pub first_fits : (told : Runs) (start : Start) → start ≡ told.start → Fits told (bare start)
first_fits told start is = subst (λ start. Fits told (bare start)) (sym is) first_line

-- ---- results

-- line n, and those behind it
pub at_line : (lines : List (List ℕ)) (n : ℕ) → n < length lines → drop n lines ≡ line_in lines n ∷ drop (n + 1) lines
at_line lines n below = drop_line lines n below ∙ ap (λ k. line_in lines n ∷ drop k lines) (sym (add-one n))

-- what is left of the results behind line n
pub results_behind : (settings : Settings) (here next : Start) (lines : List (List ℕ)) (results : List LineResult) (n : ℕ)
    → n < length lines → next ≡ (settings.line here (line_in lines n)).end
    → results_from settings here (drop n lines) ≡ drop n results
    → results_from settings next (drop (n + 1) lines) ≡ drop (n + 1) results
results_behind settings here next lines results n below is left =
    let split : results_from settings here (line_in lines n ∷ drop (n + 1) lines) ≡ drop n results =
    sym (ap (results_from settings here) (at_line lines n below)) ∙ left in
    rw (is) (ap (drop 1) split ∙ drop-drop 1 n results)

abbrev tokens_in : LineResult → List Token
tokens_in result = result.tokens

-- the tokens of line n are those of its result
pub tokens_here : (settings : Settings) (here : Start) (lines : List (List ℕ)) (results : List LineResult) (n : ℕ)
    (tokens : List Token) → n < length lines → tokens ≡ (settings.line here (line_in lines n)).tokens
    → results_from settings here (drop n lines) ≡ drop n results
    → tokens ≡ slice_index_or (map (λ result. result.tokens) results) n []
tokens_here settings here lines results n tokens below is left =
    let line : List ℕ = line_in lines n in
    let all : List (List Token) = map tokens_in results in
    let split : results_from settings here (line ∷ drop (n + 1) lines) ≡ drop n results =
    sym (ap (results_from settings here) (at_line lines n below)) ∙ left in
    let first : get_or (drop n all) 0 [] ≡ (settings.line here line).tokens =
    ap (λ rest. get_or rest 0 []) (drop-map tokens_in n results ∙ ap (map tokens_in) (sym split)) in
    let place : n + 0 ≡ n = omega arith in
    is ∙ sym first ∙ get_or-drop n all 0 [] ∙ ap (λ k. get_or all k []) place
