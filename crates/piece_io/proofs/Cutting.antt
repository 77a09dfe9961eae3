-- What feeding and cutting do to the lines that a cutter has.
use Rattle.std.proofs.Common.{◌≡◌, ℕ, zero, suc, ◌+◌, ◌<◌, ◌≤◌, ◌==◌, Bool, true, false, List, [], ◌∷◌, ◌++◌, length}
use Rattle.std.proofs.Common.{take, drop, refl, ap, sym, ◌∙◌, arith, length-drop, length-append, map, get_or, Some}
use Rattle.std.proofs.Common.{None, if◌then◌else◌, nat_lt}
use Rattle.std.specs.Prelude.{Result, Ok, Err, OnOk, is_ok}
use Rattle.std.proofs.Math.Seq.{take-add}
use Rattle.std.proofs.lemmas.List.{take-append-drop, drop-drop, drop_more, get_or-drop}
use Rattle.std.proofs.lemmas.Bool.{eqb-true, ltb-true, lt-ltb}
use Rattle.memchr.specs.Find.{IsFirstByte, Nowhere, Passes, is_byte}
use Rattle.piece_io.specs.CutLaws.{lines_of-append, joined, HasLine, HasCut, lines_of-has}
use Rattle.piece_io.specs.Cuts.{cut_of, cuts_of, first_cut}
use Rattle.piece_io.specs.Pending.{IsOneLine, EndsLine, over_first, pending}
use Rattle.piece_io.specs.declared.line_cutter.Cut.{Cut}
use Rattle.piece_io.specs.declared.line_cutter.Cut.TheVariants.{Line, TooLong}
use Rattle.text_defs.specs.Text.{lines_of, onto_first, most_line_bytes}

before-lf : (c : ℕ) (lines : List (List ℕ)) → (c == 10) ≡ true → (if c == 10 then [] ∷ lines else onto_first c lines)
    ≡ [] ∷ lines
before-lf c lines is = ap (λ b. if b then [] ∷ lines else onto_first c lines) is

before-other : (c : ℕ) (lines : List (List ℕ)) → (c == 10) ≡ false
    → (if c == 10 then [] ∷ lines else onto_first c lines) ≡ onto_first c lines
before-other c lines is = ap (λ b. if b then [] ∷ lines else onto_first c lines) is

not_true : (b : Bool) → ¬ (b ≡ true) → b ≡ false
not_true true h = absurd (h refl)
not_true false h = refl

-- nothing passes behind the first item
later-nowhere : (x : ℕ) (xs : List ℕ) (n : ℕ) → Nowhere (Passes (is_byte 10) (x ∷ xs)) 0 (suc n)
    → Nowhere (Passes (is_byte 10) xs) 0 n
later-nowhere x xs n h = λ k low high. h (suc k) (omega arith) (omega arith)

no-lf : (xs : List ℕ) → Nowhere (Passes (is_byte 10) xs) 0 (length xs) → lines_of xs ≡ xs ∷ []
no-lf [] h = refl
no-lf (x ∷ xs) h =
    before-other x (lines_of xs) (not_true (x == 10) (h 0 (omega arith) (omega arith)))
    ∙ ap (onto_first x) (no-lf xs (later-nowhere x xs (length xs) h))

first-lf : (xs : List ℕ) (at : ℕ) → at < length xs → Nowhere (Passes (is_byte 10) xs) 0 at → Passes (is_byte 10) xs at
    → lines_of xs ≡ take at xs ∷ lines_of (drop (suc at) xs)
first-lf [] at within none here = absurd (omega arith)
first-lf (x ∷ xs) zero within none here = before-lf x (lines_of xs) here
first-lf (x ∷ xs) (suc at) within none here =
    before-other x (lines_of xs) (not_true (x == 10) (none 0 (omega arith) (omega arith)))
    ∙ ap (onto_first x) (first-lf xs at (omega arith) (later-nowhere x xs at none) here)

-- a front without an LF
pub line-front : (bytes : List ℕ) (seen : ℕ) → IsOneLine (take seen bytes) → lines_of bytes
    ≡ joined (take seen bytes ∷ []) (lines_of (drop seen bytes))
line-front bytes seen front =
    ap lines_of (sym (take-append-drop seen bytes)) ∙ lines_of-append (take seen bytes) (drop seen bytes)
    ∙ ap (λ lines. joined lines (lines_of (drop seen bytes))) front.alone

pub lf-rest : (bytes : List ℕ) (at : ℕ) → EndsLine bytes at → lines_of (drop at bytes) ≡ [] ∷ drop 1 (lines_of bytes)
lf-rest bytes at ends =
    let here : drop at bytes ≡ 10 ∷ drop (at + 1) bytes =
    drop_more bytes at 0 ends.within ∙ ap (λ c. c ∷ drop (at + 1) bytes) ends.lf in
    ap lines_of here ∙ ap (λ lines. [] ∷ drop 1 lines) (sym ends.split)

pub line_end-some : (bytes : List ℕ) (seen at : ℕ) → seen ≤ length bytes → IsOneLine (take seen bytes)
    → IsFirstByte (is_byte 10) (drop seen bytes) (Some at) → EndsLine bytes (seen + at)
line_end-some bytes seen at within front first =
    let later : at < length (drop seen bytes) = first.0.high in
    let found : lines_of (drop seen bytes) ≡ take at (drop seen bytes) ∷ lines_of (drop (suc at) (drop seen bytes)) =
    first-lf (drop seen bytes) at later first.0.before first.1 in
    let rest : drop (suc at) (drop seen bytes) ≡ drop (seen + at + 1) bytes =
    drop-drop (suc at) seen bytes ∙ ap (λ n. drop n bytes) (omega arith) in
    record {
      within = omega (arith, later, length-drop seen bytes);
      lf = sym (get_or-drop seen bytes at 0) ∙ eqb-true (get_or (drop seen bytes) at 0) 10 first.1;
      split = line-front bytes seen front ∙ ap (joined (take seen bytes ∷ [])) found
          ∙ ap (λ lines. (take seen bytes ++ take at (drop seen bytes)) ∷ lines) (ap lines_of rest)
          ∙ ap (λ line. line ∷ lines_of (drop (seen + at + 1) bytes)) (sym (take-add seen at bytes));
    }

pub line_end-none : (bytes : List ℕ) (seen : ℕ) → IsOneLine (take seen bytes)
    → IsFirstByte (is_byte 10) (drop seen bytes) None → IsOneLine bytes
line_end-none bytes seen front none = record {
  alone = line-front bytes seen front ∙ ap (joined (take seen bytes ∷ [])) (no-lf (drop seen bytes) none)
      ∙ ap (λ line. line ∷ []) (take-append-drop seen bytes);
}

-- what is handed out for a line that goes on
longer : Cut → List ℕ → Cut
longer (Line line) more = cut_of (line ++ more)
longer TooLong more = TooLong

-- what is handed out once these lines come behind, the first of which goes on in the last line before
grown : Cut → List (List ℕ) → List Cut
grown cut [] = cut ∷ []
grown cut (line ∷ lines) = longer cut line ∷ map cut_of lines

fed : List Cut → List (List ℕ) → List Cut
fed [] lines = []
fed (cut ∷ []) lines = grown cut lines
fed (cut ∷ next ∷ rest) lines = cut ∷ fed (next ∷ rest) lines

longer-cut_of-by : (b : Bool) (line more : List ℕ) → nat_lt most_line_bytes (length line) ≡ b
    → longer (if b then TooLong else Line line) more ≡ cut_of (line ++ more)
unfolding longer
longer-cut_of-by false line more is = refl
longer-cut_of-by true line more is =
    let long : most_line_bytes < length (line ++ more) =
    omega (arith, ltb-true most_line_bytes (length line) is, length-append line more) in
    ap (λ b. if b then TooLong else Line (line ++ more)) (sym (lt-ltb most_line_bytes (length (line ++ more)) long))

longer-cut_of : (line more : List ℕ) → longer (cut_of line) more ≡ cut_of (line ++ more)
longer-cut_of line more = longer-cut_of-by (nat_lt most_line_bytes (length line)) line more refl

fed-cuts : (lines later : List (List ℕ)) → HasLine lines → HasLine later → map cut_of (joined lines later)
    ≡ fed (map cut_of lines) later
unfolding fed grown
fed-cuts [] later h h' = absurd h
fed-cuts (line ∷ []) [] h h' = absurd h'
fed-cuts (line ∷ []) (more ∷ later) h h' = ap (λ cut. cut ∷ map cut_of later) (sym (longer-cut_of line more))
fed-cuts (line ∷ next ∷ rest) later h h' = ap (λ cuts. cut_of line ∷ cuts) (fed-cuts (next ∷ rest) later tt h')

fed-over_first : (over : Bool) (cuts : List Cut) (later : List (List ℕ)) → HasLine later
    → over_first over (fed cuts later) ≡ fed (over_first over cuts) later
unfolding fed grown longer
fed-over_first over [] later h = refl
fed-over_first over (cut ∷ []) [] h = absurd h
fed-over_first true (cut ∷ []) (more ∷ later) h = refl
fed-over_first false (cut ∷ []) (more ∷ later) h = refl
fed-over_first over (cut ∷ next ∷ rest) later h = refl

fed-append : (front cuts : List Cut) (later : List (List ℕ)) → HasCut cuts → fed (front ++ cuts) later
    ≡ front ++ fed cuts later
unfolding fed
fed-append [] cuts later h = refl
fed-append (cut ∷ []) [] later h = absurd h
fed-append (cut ∷ []) (next ∷ rest) later h = refl
fed-append (cut ∷ next ∷ rest) cuts later h = ap (λ cuts. cut ∷ cuts) (fed-append (next ∷ rest) cuts later h)

pending-has-by : (over : Bool) (lines : List (List ℕ)) → HasLine lines → HasCut (over_first over (map cut_of lines))
pending-has-by over [] h = absurd h
pending-has-by over (line ∷ rest) h = tt

pub pending-has : (over : Bool) (left : List ℕ) → HasCut (pending over left)
pending-has over left = pending-has-by over (lines_of left) (lines_of-has left)

-- whatever a call answers
pub on_ok : {T E P : Type 0} (r : Result T E) → P → OnOk r P
on_ok (Ok t) p = p
on_ok (Err e) p = tt

cuts_of-fed : (bytes piece : List ℕ) → cuts_of (bytes ++ piece) ≡ fed (cuts_of bytes) (lines_of piece)
cuts_of-fed bytes piece =
    ap (map cut_of) (lines_of-append bytes piece)
    ∙ fed-cuts (lines_of bytes) (lines_of piece) (lines_of-has bytes) (lines_of-has piece)

pending-fed : (over : Bool) (left piece : List ℕ) → pending over (left ++ piece)
    ≡ fed (pending over left) (lines_of piece)
pending-fed over left piece =
    ap (over_first over) (cuts_of-fed left piece)
    ∙ fed-over_first over (cuts_of left) (lines_of piece) (lines_of-has piece)

-- what was handed out and what is left are the lines of all bytes fed: also once a piece more was fed
pub feed-stream : (over : Bool) (left piece : List ℕ) (cuts : List Cut) → cuts ≡ pending over left
    → (handed_out : List Cut) (bytes : List ℕ) → handed_out ++ cuts ≡ cuts_of bytes
    → handed_out ++ pending over (left ++ piece) ≡ cuts_of (bytes ++ piece)
feed-stream over left piece cuts is handed_out bytes h =
    ap (λ cuts. handed_out ++ cuts) (pending-fed over left piece)
    ∙ sym (fed-append handed_out (pending over left) (lines_of piece)
    (pending-has-by over (lines_of left) (lines_of-has left)))
    ∙ ap (λ cuts. fed cuts (lines_of piece)) (ap (λ cuts. handed_out ++ cuts) (sym is) ∙ h)
    ∙ sym (cuts_of-fed bytes piece)

over_first-true : (lines : List (List ℕ)) → HasLine lines → over_first true (map cut_of ([] ∷ drop 1 lines))
    ≡ over_first true (map cut_of lines)
over_first-true [] h = absurd h
over_first-true (line ∷ rest) h = refl

-- of a line that is too long already only its LF and what follows is kept
pub pending-kept : (kept piece : List ℕ) → lines_of kept ≡ [] ∷ drop 1 (lines_of piece) → pending true kept
    ≡ pending true piece
pending-kept kept piece is = ap (λ lines. over_first true (map cut_of lines)) is
    ∙ over_first-true (lines_of piece) (lines_of-has piece)

either-too_long : (over : Bool) (cut : Cut) → cut ≡ TooLong → (if over then TooLong else cut) ≡ TooLong
either-too_long true cut is = refl
either-too_long false cut is = is

-- a line that is too long is let go
pub pending-let_go : (over : Bool) (left : List ℕ) → IsOneLine left → most_line_bytes < length left
    → pending over left ≡ pending true []
pending-let_go over left one long =
    ap (λ lines. over_first over (map cut_of lines)) one.alone
    ∙ ap (λ cut. cut ∷ []) (either-too_long over (cut_of left)
    (ap (λ b. if b then TooLong else Line left) (lt-ltb most_line_bytes (length left) long)))

over_first-false : (cuts : List Cut) → over_first false cuts ≡ cuts
over_first-false [] = refl
over_first-false (cut ∷ rest) = refl

first_cut-more : (cut : Cut) (cuts : List Cut) (ended : Bool) → HasCut cuts → first_cut (cut ∷ cuts) ended
    ≡ Some (cut, record { cuts = cuts; ended = ended })
first_cut-more cut [] ended h = absurd h
first_cut-more cut (next ∷ rest) ended h = refl

-- the line up to an LF is the next one
pub next-line : (over ended : Bool) (left rest : List ℕ) (at : ℕ) (cut : Cut) → EndsLine left at → rest
    ≡ drop (at + 1) left
    → cut ≡ (if over then TooLong else cut_of (take at left))
    → first_cut (pending over left) ended ≡ Some (cut, record { cuts = pending false rest; ended = ended })
next-line over ended left rest at cut ends is made =
    let lines : pending over left ≡ cut ∷ pending false rest =
    ap (λ lines. over_first over (map cut_of lines)) (ends.split ∙ ap (λ bytes. take at left ∷ lines_of bytes) (sym is))
    ∙ ap (λ c. c ∷ cuts_of rest) (sym made) ∙ ap (λ cuts. cut ∷ cuts) (sym (over_first-false (cuts_of rest))) in
    ap (λ cuts. first_cut cuts ended) lines ∙ first_cut-more cut (pending false rest) ended
    (pending-has-by false (lines_of rest) (lines_of-has rest))

-- the piece was added, or what is kept of it
pub feed-done : {T E : Type 0} (r : Result T E) (over : Bool) (start : ℕ) (now left kept piece : List ℕ)
    (cuts : List Cut)
    → start ≡ 0 → now ≡ (if is_ok r then left ++ kept else left) → cuts ≡ pending over left
    → pending over (left ++ kept) ≡ pending over (left ++ piece)
    → OnOk r ((handed_out : List Cut) (bytes : List ℕ) → handed_out ++ cuts ≡ cuts_of bytes
    → handed_out ++ pending over (drop start now) ≡ cuts_of (bytes ++ piece))
feed-done (Err e) over start now left kept piece cuts front after is same = tt
feed-done (Ok t) over start now left kept piece cuts front after is same = λ handed_out bytes h.
    ap (λ xs. handed_out ++ pending over xs) (ap (λ n. drop n now) front ∙ after) ∙ ap (λ cuts. handed_out ++ cuts) same
    ∙ feed-stream over left piece cuts is handed_out bytes h

pub feed-first : {T E : Type 0} (r : Result T E) (over : Bool) (left piece : List ℕ) (cuts : List Cut)
    → OnOk r ((handed_out : List Cut) (bytes : List ℕ) → handed_out ++ cuts ≡ cuts_of bytes
    → handed_out ++ pending over left ≡ cuts_of (bytes ++ piece))
    → OnOk r ((bytes : List ℕ) → cuts ≡ cuts_of bytes → pending over left ≡ cuts_of (bytes ++ piece))
feed-first (Err e) over left piece cuts h = tt
feed-first (Ok t) over left piece cuts h = λ bytes is. h [] bytes is
