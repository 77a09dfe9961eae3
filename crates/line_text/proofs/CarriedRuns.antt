-- The runs that are found from span to span are the longest runs of the carried lines.
use Rattle.std.proofs.Common.{◌≡◌, ℕ, zero, suc, ◌+◌, ◌-◌, ◌<◌, ◌≤◌, inl, inr, List, [], ◌∷◌, ◌++◌, length, map}
use Rattle.std.proofs.Common.{get_or, drop, Bool, true, false, not, ◌&&◌, eqb, refl, ap, subst, sym, ◌∙◌, arith}
use Rattle.std.proofs.Common.{append_assoc, add-zero, zero-add}
use Rattle.std.specs.Prelude.{sum_by, filter, None}
use Rattle.std.specs.List.{range_with_len}
use Rattle.std.proofs.lemmas.Bool.{lt-ltb, le-ltb, le-leb, lt-leb, eq-eqb, ne_eqb, cases_Bool, cases_lt}
use Rattle.std.proofs.lemmas.List.{map-append, append-nil, drop_more}
use Rattle.std.proofs.lemmas.List.Elements.{filter-append}
use Rattle.std.proofs.lemmas.List.Sums.{sum_by-cons}
use Rattle.text_pos.specs.declared.length.Pos.{Pos}
use Rattle.text_pos.specs.declared.length.Span.{Span}
use Rattle.text_defs.specs.Text.{norm, lines_of, line_count}
use Rattle.text_defs.specs.Batch.{TextEdit, edit_fault, edited, is_touched}
use Rattle.line_text.specs.declared.carry.Run.{Run}
use Rattle.line_text.specs.Carried.{new_ends, old_ends, ends_before, new_number, lengthened, onto_runs, longest_runs}
use Rattle.line_text.specs.Carried.{carried}
use Rattle.line_text.specs.Runs.{run_between}
use Rattle.line_text.proofs.CountedSizes.{line_count-pos}
use Rattle.line_text.proofs.Places.{IsPlace, IsFrom-lines}
use Rattle.line_text.proofs.ValidBatches.{AreValid, AreValid-origin, origin, IsPlace-origin, removed_lines}
use Rattle.line_text.proofs.ValidBatches.{added_lines, line_count-replaced, removed_lines_le}

-- the runs between the spans, from an old line and its new number on
abbrev pub gaps : ℕ → ℕ → ℕ → List TextEdit → List Run
gaps count old new [] = run_between old count new
gaps count old new (e ∷ es) = run_between old e.span.from.line new ++ gaps count (e.span.to.line + 1)
    (new + e.span.from.line - old + line_count (norm e.text)) es

-- ranges

range-append : (a m n : ℕ) → range_with_len a (m + n) ≡ range_with_len a m ++ range_with_len (a + m) n
range-append a zero n = rw (zero-add n, add-zero a) refl
range-append a (suc m) n =
    let left : suc m + n ≡ suc (m + n) = omega arith in
    let right : a + suc m ≡ a + 1 + m = omega arith in
    rw (left, right) (ap (λ (xs : List ℕ). a ∷ xs) (range-append (a + 1) m n))

filter-all : (p : ℕ → Bool) (a m : ℕ) → ((n : ℕ) → a ≤ n → n < a + m → p n ≡ true) → filter p (range_with_len a m)
    ≡ range_with_len a m
filter-all p a zero h = refl
filter-all p a (suc m) h = rw (h a (omega arith) (omega arith))
    (ap (λ (xs : List ℕ). a ∷ xs) (filter-all p (a + 1) m (λ n l u. h n (omega arith) (omega arith))))

filter-none : (p : ℕ → Bool) (a m : ℕ) → ((n : ℕ) → a ≤ n → n < a + m → p n ≡ false) → filter p (range_with_len a m)
    ≡ []
filter-none p a zero h = refl
filter-none p a (suc m) h = rw (h a (omega arith) (omega arith))
    (filter-none p (a + 1) m (λ n l u. h n (omega arith) (omega arith)))

filter-same : (p q : ℕ → Bool) (a m : ℕ) → ((n : ℕ) → a ≤ n → n < a + m → p n ≡ q n) → filter p (range_with_len a m)
    ≡ filter q (range_with_len a m)
filter-same p q a zero h = refl
filter-same p q a (suc m) h =
    rw (h a (omega arith) (omega arith), filter-same p q (a + 1) m (λ n l u. h n (omega arith) (omega arith))) refl

-- the first line or the first run is behind a number, where there is one

abbrev StartsAbove : ℕ → List (ℕ × ℕ) → Type 0
StartsAbove x [] = Unit {0}
StartsAbove x (p ∷ ps) = x < p.0

abbrev RunsAbove : ℕ → List Run → Type 0
RunsAbove x [] = Unit {0}
RunsAbove x (r ∷ rs) = x < r.old

RunsAbove-lengthened : (x : ℕ) (b : Bool) (old new : ℕ) (run : Run) (runs : List Run) → x < old
    → RunsAbove x (lengthened b old new run runs)
RunsAbove-lengthened x true old new run runs h = h
RunsAbove-lengthened x false old new run runs h = h

RunsAbove-onto_runs : (x old new : ℕ) (runs : List Run) → x < old → RunsAbove x (onto_runs old new runs)
RunsAbove-onto_runs x old new [] h = h
RunsAbove-onto_runs x old new (run ∷ runs) h =
    RunsAbove-lengthened x (eqb run.old (old + 1) && eqb run.new (new + 1)) old new run runs h

RunsAbove-longest_runs : (x : ℕ) (ps : List (ℕ × ℕ)) → StartsAbove x ps → RunsAbove x (longest_runs ps)
RunsAbove-longest_runs x [] h = tt
RunsAbove-longest_runs x (p ∷ ps) h = RunsAbove-onto_runs x p.0 p.1 (longest_runs ps) h

StartsAbove-filtered : (p : ℕ → Bool) (f : ℕ → ℕ) (x a m : ℕ) → x < a
    → StartsAbove x (map (λ n. (n, f n)) (filter p (range_with_len a m)))
StartsAbove-filtered p f x a zero h = tt
StartsAbove-filtered p f x a (suc m) h = elim (cases_Bool (p a)) [
  | inl e ↦ rw e h
  | inr e ↦ rw e (StartsAbove-filtered p f x (a + 1) m (omega arith))
]

-- one line in front of a run, which may be empty

onto_far : (old new : ℕ) (runs : List Run) → RunsAbove (old + 1) runs → onto_runs old new runs
    ≡ record { old = old; new = new; count = 1 } ∷ runs
onto_far old new [] h = refl
onto_far old new (run ∷ runs) h = rw (ne_eqb run.old (old + 1) (λ e. omega arith)) refl

abbrev pub run_of : ℕ → ℕ → ℕ → Run
run_of old new count = record { old = old; new = new; count = count }

onto_between : (old new end : ℕ) (runs : List Run) → old < end → (end ≡ old + 1 → RunsAbove (old + 1) runs)
    → onto_runs old new (run_between (old + 1) end (new + 1) ++ runs) ≡ run_between old end new ++ runs
onto_between old new end runs l h = elim (cases_lt (old + 1) end) [
  | inl m ↦ let e : end - (old + 1) + 1 ≡ end - old = omega arith in
      rw (lt-ltb (old + 1) end m, lt-ltb old end l, eq-eqb (old + 1) (old + 1) refl, eq-eqb (new + 1) (new + 1) refl)
      (ap (λ (c : ℕ). run_of old new c ∷ runs) e)
  | inr m ↦ let e : 1 ≡ end - old = omega arith in
      rw (le-ltb (old + 1) end m, lt-ltb old end l)
      (onto_far old new runs (h (omega arith)) ∙ ap (λ (c : ℕ). run_of old new c ∷ runs) e)
]

-- lines whose numbers rise together are one run
run_of_range : (f : ℕ → ℕ) (old new m : ℕ) (ps : List (ℕ × ℕ))
    → ((n : ℕ) → old ≤ n → n < old + m → f n + old ≡ new + n) → (0 < m → StartsAbove (old + m) ps)
    → longest_runs (map (λ n. (n, f n)) (range_with_len old m) ++ ps) ≡ run_between old (old + m) new ++ longest_runs ps
run_of_range f old new zero ps h above = rw (le-ltb old (old + 0) (omega arith)) refl
run_of_range f old new (suc m) ps h above =
    let first : f old ≡ new = omega (arith, h old (omega arith) (omega arith)) in
    let end : old + 1 + m ≡ old + suc m = omega arith in
    let rest = run_of_range f (old + 1) (new + 1) m ps (λ n l u. omega (arith, h n (omega arith) (omega arith)))
    (λ l. subst (λ (x : ℕ). StartsAbove x ps) (sym end) (above (omega arith))) in
    rw (rest, first, end) (onto_between old new (old + suc m) (longest_runs ps) (omega arith)
    (λ e. RunsAbove-longest_runs (old + 1) ps (subst (λ (x : ℕ). StartsAbove x ps) e (above (omega arith)))))

-- lines before the spans

untouched_before : (lines : List (List ℕ)) (at : Pos) (es : List TextEdit) (n : ℕ) → AreValid lines at es
    → n < at.line → is_touched n es ≡ false
untouched_before lines at [] n v l = refl
untouched_before lines at (e ∷ es) n v l =
    let rises = IsFrom-lines at e.span.from v.0.behind in
    let forward = IsFrom-lines e.span.from e.span.to v.0.forward in
    rw (lt-leb e.span.from.line n (omega arith)) (untouched_before lines e.span.to es n v.1 (omega arith))

none_ends_before : (lines : List (List ℕ)) (at : Pos) (es : List TextEdit) (n : ℕ) → AreValid lines at es
    → n ≤ at.line → filter (ends_before n) es ≡ []
none_ends_before lines at [] n v l = refl
none_ends_before lines at (e ∷ es) n v l =
    let rises = IsFrom-lines at e.span.from v.0.behind in
    let forward = IsFrom-lines e.span.from e.span.to v.0.forward in
    rw (le-ltb e.span.to.line n (omega arith)) (none_ends_before lines e.span.to es n v.1 (omega arith))

-- the lines from `old` on that these edits carry
abbrev listed : (ℕ → ℕ) → List TextEdit → ℕ → ℕ → List (ℕ × ℕ)
listed f es old m = map (λ n. (n, f n)) (filter (λ n. not (is_touched n es)) (range_with_len old m))

-- f gives each line's number, where `added` and `gone` are the line ends of the spans before
abbrev Numbers : (ℕ → ℕ) → ℕ → ℕ → ℕ → List TextEdit → Type 0
Numbers f old added gone es = (n : ℕ) → old ≤ n → f n
    ≡ n + (added + sum_by new_ends (filter (ends_before n) es)) - (gone + sum_by old_ends (filter (ends_before n) es))

filter-untouched : (a m : ℕ) → filter (λ n. not (is_touched n [])) (range_with_len a m) ≡ range_with_len a m
filter-untouched a m = filter-all (λ n. not (is_touched n [])) a m (λ n l u. refl)

-- from one span to the next

-- the lines before the span, those that it holds, and those behind it
listed-cons : (lines : List (List ℕ)) (f : ℕ → ℕ) (at : Pos) (e : TextEdit) (es : List TextEdit)
    (old before held behind : ℕ) → AreValid lines at (e ∷ es) → before ≡ e.span.from.line - old → old + before + held
    ≡ e.span.to.line + 1 → old ≤ e.span.from.line + 1
    → listed f (e ∷ es) old (before + (held + behind))
    ≡ map (λ n. (n, f n)) (range_with_len old before) ++ listed f es (e.span.to.line + 1) behind
listed-cons lines f at e es old before held behind v b h l =
    let p : ℕ → Bool = λ n. not (is_touched n (e ∷ es)) in
    let q : ℕ → Bool = λ n. not (is_touched n es) in
    let forward = IsFrom-lines e.span.from e.span.to v.0.forward in
    let split : range_with_len old (before + (held + behind))
    ≡ range_with_len old before ++ (range_with_len (old + before) held ++ range_with_len (e.span.to.line + 1)
    behind) =
    range-append old before (held + behind) ∙ ap (λ (xs : List ℕ). range_with_len old before ++ xs)
    (range-append (old + before) held behind
    ∙ ap (λ (a : ℕ). range_with_len (old + before) held ++ range_with_len a behind) h) in
    let first : filter p (range_with_len old before) ≡ range_with_len old before =
    filter-all p old before (λ n m u. rw (
      lt-leb e.span.from.line n (omega arith),
      untouched_before lines e.span.to es
          n v.1 (omega arith),
    ) refl) in
    let second : filter p (range_with_len (old + before) held) ≡ [] =
    filter-none p (old + before) held (λ n m u. rw (
      le-leb e.span.from.line n (omega arith),
      le-leb n e.span.to.line
          (omega arith),
    ) refl) in
    let third : filter p (range_with_len (e.span.to.line + 1) behind)
    ≡ filter q (range_with_len (e.span.to.line + 1) behind) =
    filter-same p q (e.span.to.line + 1) behind
    (λ n m u. rw (le-leb e.span.from.line n (omega arith), lt-leb n e.span.to.line (omega arith)) refl) in
    let pair : ℕ → ℕ × ℕ = λ n. (n, f n) in
    ap (λ (xs : List ℕ). map pair (filter p xs)) split
    ∙ ap (map pair) (filter-append p (range_with_len old before)
    (range_with_len (old + before) held ++ range_with_len (e.span.to.line + 1) behind)
    ∙ rw (
      first,
      filter-append p (range_with_len (old + before) held)
          (range_with_len (e.span.to.line + 1) behind),
      second,
      third,
    ) refl)
    ∙ map-append pair (range_with_len old before) (filter q (range_with_len (e.span.to.line + 1) behind))

run_between-same : (old from before new : ℕ) → before ≡ from - old → run_between old (old + before) new
    ≡ run_between old from new
run_between-same old from before new e = elim (cases_lt old from) [
  | inl l ↦ let same : old + before ≡ from = omega arith in rw same refl
  | inr l ↦ rw (le-ltb old from l, le-ltb old (old + before) (omega arith)) refl
]

-- the numbers behind a span
Numbers-cons : (f : ℕ → ℕ) (e : TextEdit) (es : List TextEdit) (old added gone : ℕ)
    → Numbers f old added gone (e ∷ es) → old ≤ e.span.to.line + 1
    → Numbers f (e.span.to.line + 1) (added + new_ends e) (gone + old_ends e) es
Numbers-cons f e es old added gone h l n m =
    let before = filter (ends_before n) es in
    let at : f n ≡ n + (added + sum_by new_ends (e ∷ before)) - (gone + sum_by old_ends (e ∷ before)) =
    rw (lt-ltb e.span.to.line n (omega arith)) at (h n (omega arith)) in
    omega (arith, at, sum_by-cons new_ends e before, sum_by-cons old_ends e before)

-- no number falls below 0
pub no_wrap : (old new from : ℕ) → (0 < old → 0 < new) → old ≤ from + 1 → old ≤ new + from
no_wrap old new from s l = elim (cases_lt 0 old) [
  | inl m ↦ omega (arith, s m)
  | inr m ↦ omega arith
]

pub carried_from : (lines : List (List ℕ)) (f : ℕ → ℕ) (at : Pos) (es : List TextEdit) (old new added gone : ℕ)
    → at.line < length lines → AreValid lines at es → old ≤ at.line + 1 → (0 < old → 0 < new) → new + gone
    ≡ old + added → Numbers f old added gone es
    → longest_runs (listed f es old (length lines - old)) ≡ gaps (length lines) old new es
carried_from lines f at [] old new added gone p v l s sum h =
    let count = length lines in
    let rises : (n : ℕ) → old ≤ n → n < old + (count - old) → f n + old ≡ new + n = λ n m u. omega (arith, h n m) in
    let runs = run_of_range f old new (count - old) [] rises (λ x. tt) in
    ap (λ (xs : List ℕ). longest_runs (map (λ n. (n, f n)) xs)) (filter-untouched old (count - old))
    ∙ ap longest_runs (sym (append-nil (map (λ n. (n, f n)) (range_with_len old (count - old))))) ∙ runs
    ∙ append-nil (run_between old (old + (count - old)) new) ∙ run_between-same old count (count - old) new refl
carried_from lines f at (e ∷ es) old new added gone p v l s sum h =
    let count = length lines in
    let from = e.span.from.line in
    let to = e.span.to.line in
    let before = from - old in
    let held = to + 1 - (old + before) in
    let behind = count - (to + 1) in
    let new' = new + from - old + line_count (norm e.text) in
    let rises = IsFrom-lines at e.span.from v.0.behind in
    let forward = IsFrom-lines e.span.from e.span.to v.0.forward in
    let within : to < count = v.0.to.line in
    let total : count - old ≡ before + (held + behind) = omega arith in
    let none : (n : ℕ) → n ≤ from → filter (ends_before n) (e ∷ es) ≡ [] =
    λ n m. rw (le-ltb to n (omega arith)) (none_ends_before lines e.span.to es n v.1 (omega arith)) in
    let ahead : (n : ℕ) → old ≤ n → n < old + before → f n + old ≡ new + n =
    λ n m u. let at_n : f n ≡ n + (added + 0) - (gone + 0) = rw (none n (omega arith)) at (h n m) in omega arith in
    let above : 0 < before → StartsAbove (old + before) (listed f es (to + 1) behind) =
    λ m. StartsAbove-filtered (λ n. not (is_touched n es)) f (old + before) (to + 1) behind (omega arith) in
    let lines_pos = line_count-pos (norm e.text) in
    let kept = no_wrap old new from s (omega arith) in
    let rest = carried_from lines f e.span.to es (to + 1) new' (added + new_ends e) (gone + old_ends e) within v.1
    (omega arith) (λ m. omega arith) (omega arith)
    (Numbers-cons f e es old added gone h (omega arith)) in
    ap (λ (m : ℕ). longest_runs (listed f (e ∷ es) old m)) total
    ∙ ap longest_runs (listed-cons lines f at e es old before held behind v refl (omega arith) (omega arith))
    ∙ run_of_range f old new before (listed f es (to + 1) behind) ahead above
    ∙ ap (λ (rs : List Run). run_between old (old + before) new ++ rs) rest
    ∙ ap (λ (rs : List Run). rs ++ gaps count (to + 1) new' es) (run_between-same old from before new refl)

-- what is found from span to span is what a batch carries
pub gaps-carried : (text : List ℕ) (es : List TextEdit) → edit_fault text None 0 es ≡ None
    → gaps (line_count text) 0 0 es ≡ carried text es
gaps-carried text es h =
    let all : line_count text - 0 ≡ line_count text = omega arith in
    let numbers : Numbers (new_number es) 0 0 0 es = λ n l. omega arith in
    sym (carried_from (lines_of text) (new_number es) origin es 0 0 0 0 (line_count-pos text)
    (AreValid-origin text 0 es h) (omega arith) (λ l. l) refl numbers)
    ∙ ap (λ (m : ℕ). longest_runs (listed (new_number es) es 0 m)) all

-- where a loop from span to span stands: `old` is the first line behind the spans so far, and `new` its number in
-- the new text, which has `total` lines
pub record IsAtGap (text : List ℕ) (total : ℕ) (es : List TextEdit) (old new : ℕ) : Type 0 where
  pub at : Pos
  pub there : IsPlace (lines_of text) at
  pub valid : AreValid (lines_of text) at es
  pub follows : old ≤ at.line + 1
  pub started : 0 < old → 0 < new
  pub sized : total + sum_by removed_lines es + old ≡ new + line_count text + sum_by added_lines es

pub IsAtGap-origin : (text : List ℕ) (es : List TextEdit) → edit_fault text None 0 es ≡ None
    → IsAtGap text (line_count (edited text es)) es 0 0
IsAtGap-origin text es h =
    let valid = AreValid-origin text 0 es h in
    record {
      at = origin;
      there = IsPlace-origin text;
      valid = valid;
      follows = omega arith;
      started = λ l. l;
      sized = omega (arith, line_count-replaced text origin es (IsPlace-origin text) valid);
    }

pub IsAtGap-few : (text : List ℕ) (total : ℕ) (es : List TextEdit) (old new : ℕ) → IsAtGap text total es old new
    → new ≤ total
IsAtGap-few text total es old new g = omega (arith, g.follows, g.sized, removed_lines_le text g.at es g.there g.valid)

-- one span further
pub record GapStep (text : List ℕ) (total : ℕ) (es : List TextEdit) (i : ℕ) (span : Span) (cs : List ℕ)
    (old new : ℕ) : Type 0 where
  pub from : span.from.line < line_count text
  pub to : span.to.line < line_count text
  pub kept : old ≤ new + span.from.line
  pub few : new ≤ total
  pub later_few : new + span.from.line - old + line_count (norm cs) ≤ total
  pub listed : gaps (line_count text) old new (drop i es)
      ≡ run_between old span.from.line new ++ gaps (line_count text) (span.to.line + 1)
      (new + span.from.line - old + line_count (norm cs)) (drop (i + 1) es)
  pub next : IsAtGap text total (drop (i + 1) es) (span.to.line + 1) (new + span.from.line - old + line_count (norm cs))

gap_cons : (text : List ℕ) (total : ℕ) (e : TextEdit) (es : List TextEdit) (old new : ℕ)
    → IsAtGap text total (e ∷ es) old new → (old ≤ new + e.span.from.line)
    × IsAtGap text total es (e.span.to.line + 1) (new + e.span.from.line - old + line_count (norm e.text))
gap_cons text total e es old new g =
    let rises = IsFrom-lines g.at e.span.from g.valid.0.behind in
    let forward = IsFrom-lines e.span.from e.span.to g.valid.0.forward in
    let lines_pos = line_count-pos (norm e.text) in
    let kept = no_wrap old new e.span.from.line g.started (omega (arith, g.follows)) in (
      kept,
      record {
        at = e.span.to;
        there = g.valid.0.to;
        valid = g.valid.1;
        follows = omega arith;
        started = λ l. omega arith;
        sized = omega (arith, g.sized, sum_by-cons removed_lines e es, sum_by-cons added_lines e es);
      },
    )

gap_get_or : (text : List ℕ) (total : ℕ) (es : List TextEdit) (i : ℕ) (d : TextEdit) (old new : ℕ)
    → IsAtGap text total (drop i es) old new → i < length es
    → GapStep text total es i (get_or es i d).span (get_or es i d).text old new
gap_get_or text total es i d old new g l =
    let e = get_or es i d in
    let split = drop_more es i d l in
    let here : IsAtGap text total (e ∷ drop (i + 1) es) old new =
    subst (λ (xs : List TextEdit). IsAtGap text total xs old new) split g in
    let step = gap_cons text total e (drop (i + 1) es) old new here in
    record {
      from = here.valid.0.from.line;
      to = here.valid.0.to.line;
      kept = step.0;
      few = IsAtGap-few text total (drop i es) old new g;
      later_few = IsAtGap-few text total (drop (i + 1) es) _ _ step.1;
      listed = ap (gaps (line_count text) old new) split;
      next = step.1;
    }

pub gap_step : (text : List ℕ) (total : ℕ) (es : List TextEdit) (i : ℕ) (e : TextEdit) (span : Span) (old new : ℕ)
    → IsAtGap text total (drop i es) old new → i < length es → e ≡ get_or es i e → span ≡ e.span
    → GapStep text total es i span e.text old new
gap_step text total es i e span old new g l is same =
    rw same (subst (λ x. GapStep text total es i x.span x.text old new) (sym is)
    (gap_get_or text total es i e old new g l))

-- a run more is listed
pub listed_step : (before after run rest left whole : List Run) → after ≡ before ++ run → left ≡ run ++ rest
    → before ++ left ≡ whole → after ++ rest ≡ whole
listed_step before after run rest left whole a l h =
    ap (λ (rs : List Run). rs ++ rest) a ∙ append_assoc before run rest ∙ ap (λ (rs : List Run). before ++ rs) (sym l)
    ∙ h
