-- A batch whose edits are in range and in order, and the size of the text that it makes.
use Rattle.std.proofs.Common.{◌≡◌, ℕ, zero, suc, ◌+◌, ◌-◌, ◌<◌, ◌≤◌, inl, inr, Option, Some, None, List, [], ◌∷◌}
use Rattle.std.proofs.Common.{◌++◌, length, get_or, take, drop, Bool, true, false, cond, refl, ap, subst, sym, ◌∙◌}
use Rattle.std.proofs.Common.{arith, append_assoc}
use Rattle.std.specs.Prelude.{sum_by}
use Rattle.std.proofs.lemmas.Bool.{and_parts, and_from, not-true, cases_lt, ne_eqb, lt-ltb, le-leb}
use Rattle.std.proofs.lemmas.List.{length-append, length-drop, length-take-le, append-nil, drop_more}
use Rattle.std.proofs.lemmas.List.Sums.{sum_by-cons, sum_by_more, sum_by-take-le}
use Rattle.text_pos.specs.declared.length.Pos.{Pos}
use Rattle.text_pos.specs.declared.length.Span.{Span}
use Rattle.text_defs.specs.Text.{norm, lines_of, line_of, line_in, line_count}
use Rattle.text_defs.specs.Place.{offset_of, holds, is_before}
use Rattle.text_defs.specs.Batch.{TextEdit, BatchRefusal, edit_fault, first_fault, is_in_range, is_in_order, replaced}
use Rattle.text_defs.specs.Batch.{edited, counted}
use Rattle.line_text.specs.declared.size.Size.{Size}
use Rattle.line_text.specs.Sizes.{IsSizeOf}
use Rattle.line_text.specs.Lines.{HasNoLf, HaveNoLf}
use Rattle.line_text.proofs.JoinedLines.{line_in-HasNoLf, HasNoLf-take, HasNoLf-drop}
use Rattle.line_text.proofs.CountedSizes.{line_count-append, line_count-cons, line_count-pos}
use Rattle.line_text.proofs.Places.{start, start_mono, piece, piece_part, piece_line, IsPlace, IsFrom, later_line}
use Rattle.line_text.proofs.Places.{same_line, IsPlace-holds, IsFrom-is_before, offset_le, offset_within}
use Rattle.line_text.proofs.Places.{joined-lines_of, HaveNoLf-lines_of, IsFrom-lines, IsFrom-cols}
use Rattle.line_text.proofs.Places.{lines_of-drop_place, is_before-origin}

-- an edit that may come where the one before it ends at a place
pub record IsNext (lines : List (List ℕ)) (at : Pos) (e : TextEdit) : Type 0 where
  pub from : IsPlace lines e.span.from
  pub to : IsPlace lines e.span.to
  pub behind : IsFrom at e.span.from
  pub forward : IsFrom e.span.from e.span.to

abbrev pub AreValid : List (List ℕ) → Pos → List TextEdit → Type 0
AreValid lines at [] = Unit {0}
AreValid lines at (e ∷ es) = IsNext lines at e × AreValid lines e.span.to es

first_fault-None : (in_range in_order : Bool) (n : ℕ) (later : Option BatchRefusal)
    → first_fault in_range in_order n later ≡ None → (in_range ≡ true) × (in_order ≡ true) × (later ≡ None)
first_fault-None true true n later h = (refl, refl, h)
first_fault-None true false n later h = absurd (cc)
first_fault-None false in_order n later h = absurd (cc)

pub AreValid-edit_fault : (text : List ℕ) (at : Pos) (n : ℕ) (es : List TextEdit) → edit_fault text (Some at) n es
    ≡ None → AreValid (lines_of text) at es
AreValid-edit_fault text at n [] h = tt
AreValid-edit_fault text at n (e ∷ es) h =
    let parts = first_fault-None (is_in_range text e) (is_in_order (Some at) e) n
    (edit_fault text (Some e.span.to) (suc n) es) h in
    let range = and_parts _ _ parts.0 in
    let places = and_parts _ _ range.0 in (
      record {
        from = IsPlace-holds text e.span.from places.0;
        to = IsPlace-holds text e.span.to places.1;
        behind = IsFrom-is_before at e.span.from (not-true _ parts.1);
        forward = IsFrom-is_before e.span.from e.span.to (not-true _ range.1);
      },
      AreValid-edit_fault text e.span.to (suc n) es parts.2,
    )

-- where every text begins
abbrev pub origin : Pos
origin = record { line = 0; col = 0 }

pub IsFrom-origin : (at : Pos) → IsFrom origin at
IsFrom-origin at =
    elim (cases_lt 0 at.line) [
      | inl l ↦ later_line l
      | inr z ↦ same_line (omega arith) (omega arith)
    ]

pub IsPlace-origin : (text : List ℕ) → IsPlace (lines_of text) origin
IsPlace-origin text = record { line = line_count-pos text; col = omega arith }

-- a batch without a faulty edit
pub AreValid-origin : (text : List ℕ) (n : ℕ) (es : List TextEdit) → edit_fault text None n es ≡ None
    → AreValid (lines_of text) origin es
AreValid-origin text n [] h = tt
AreValid-origin text n (e ∷ es) h =
    let parts = first_fault-None (is_in_range text e) true n (edit_fault text (Some e.span.to) (suc n) es) h in
    let range = and_parts _ _ parts.0 in
    let places = and_parts _ _ range.0 in (
      record {
        from = IsPlace-holds text e.span.from places.0;
        to = IsPlace-holds text e.span.to places.1;
        behind = IsFrom-origin e.span.from;
        forward = IsFrom-is_before e.span.from e.span.to (not-true _ range.1);
      },
      AreValid-edit_fault text e.span.to (suc n) es parts.2,
    )

-- the offset of a place
abbrev pub offset : List (List ℕ) → Pos → ℕ
offset lines at = start lines at.line + at.col

abbrev pub removed : List (List ℕ) → TextEdit → ℕ
removed lines e = offset lines e.span.to - offset lines e.span.from

abbrev pub added : TextEdit → ℕ
added e = length (norm e.text)

pub length-replaced : (text : List ℕ) (at : Pos) (es : List TextEdit) → IsPlace (lines_of text) at
    → AreValid (lines_of text) at es → length (replaced text (offset (lines_of text) at) es) + sum_by
    (removed (lines_of text)) es + offset (lines_of text) at ≡ length text + sum_by added es
length-replaced text at [] p v =
    omega (
      arith,
      length-drop (offset (lines_of text) at) text,
      offset_within (lines_of text) at p,
      ap length
          (joined-lines_of text),
    )
length-replaced text at (e ∷ es) p v =
    let lines = lines_of text in
    let rest = replaced text (offset lines e.span.to) es in
    let front = take (offset lines e.span.from - offset lines at) (drop (offset lines at) text) in
    let within : offset lines e.span.from ≤ length text =
    omega (arith, offset_within lines e.span.from v.0.from, ap length (joined-lines_of text)) in
    let front_length : length front ≡ offset lines e.span.from - offset lines at =
    length-take-le _ _ (omega (arith, length-drop (offset lines at) text)) in
    omega (
      arith,
      length-replaced text e.span.to es v.0.to v.1,
      front_length,
      length-append front (norm e.text ++ rest),
      length-append (norm e.text) rest,
      sum_by-cons (removed lines) e es,
      sum_by-cons added e es,
      offset_le lines at e.span.from p v.0.from v.0.behind,
      offset_le lines e.span.from e.span.to v.0.from v.0.to v.0.forward,
    )

-- the spans don't overlap, so no more is removed than there is
pub removed_le : (text : List ℕ) (at : Pos) (es : List TextEdit) → IsPlace (lines_of text) at
    → AreValid (lines_of text) at es → sum_by (removed (lines_of text)) es + offset (lines_of text) at ≤ length text
removed_le text at [] p v = omega (arith, offset_within (lines_of text) at p, ap length (joined-lines_of text))
removed_le text at (e ∷ es) p v =
    let lines = lines_of text in
    omega (
      arith,
      removed_le text e.span.to es v.0.to v.1,
      sum_by-cons (removed lines) e es,
      offset_le
          lines at e.span.from p v.0.from v.0.behind,
      offset_le lines e.span.from e.span.to v.0.from v.0.to v.0.forward,
    )

-- the lines of a piece

pub line_count-line : (line rest : List ℕ) → HasNoLf line → line_count (line ++ rest) ≡ line_count rest
line_count-line [] rest h = refl
line_count-line (c ∷ cs) rest h = omega (
  arith,
  line_count-cons c (cs ++ rest),
  line_count-line cs rest h.1,
  ap
      {B = ℕ} (λ (b : Bool). cond b 1 0) (ne_eqb c 10 h.0),
)

line_count-one : (line : List ℕ) → HasNoLf line → line_count line ≡ 1
line_count-one line h = rw (← append-nil line) (line_count-line line [] h)

pub line_count-piece : (lines : List (List ℕ)) (gap n col m to : ℕ) → HaveNoLf lines → n + gap ≡ m → m < length lines
    → to ≤ length (line_in lines m) → (gap ≡ 0 → col ≤ to) → col ≤ length (line_in lines n)
    → line_count (piece lines n col (start lines m + to)) ≡ suc gap
line_count-piece lines zero n col m to h e l i j k =
    let q : m ≡ n = omega arith in
    let i' : to ≤ length (line_in lines n) = omega (arith, ap (λ (x : ℕ). length (line_in lines x)) q) in
    let part = drop col (line_in lines n) in
    rw (q, piece_part lines n col to (omega arith) (j refl) i')
    (line_count-one (take (to - col) part) (HasNoLf-take (to - col) part
    (HasNoLf-drop col (line_in lines n) (line_in-HasNoLf lines n h))))
line_count-piece lines (suc gap) n col m to h e l i j k =
    let rest = piece lines (suc n) 0 (start lines m + to) in
    let below : start lines (suc n) ≤ start lines m + to = omega (arith, start_mono lines (suc n) m (omega arith)) in
    rw (
      piece_line lines n col (start lines m + to) (omega arith) k below,
      line_count-line
          (drop col (line_in lines n)) (10 ∷ rest) (HasNoLf-drop col (line_in lines n) (line_in-HasNoLf lines n h)),
    )
    (omega (
      arith,
      line_count-cons 10 rest,
      line_count-piece lines gap (suc n) 0 m to h (omega arith) l i
          (λ _. omega arith) (omega arith),
    ))

-- the lines of a batch's text

abbrev pub removed_lines : TextEdit → ℕ
removed_lines e = e.span.to.line - e.span.from.line

abbrev pub added_lines : TextEdit → ℕ
added_lines e = line_count (norm e.text) - 1

pub line_count-replaced : (text : List ℕ) (at : Pos) (es : List TextEdit) → IsPlace (lines_of text) at
    → AreValid (lines_of text) at es → line_count (replaced text (offset (lines_of text) at) es) + sum_by
    removed_lines es + at.line ≡ line_count text + sum_by added_lines es
line_count-replaced text at [] p v =
    let lines = lines_of text in
    let e = ap (length {A = List ℕ}) (rw (joined-lines_of text) at (lines_of-drop_place lines at.line at.col
    (HaveNoLf-lines_of text) p.line p.col)) in
    omega (arith, p.line, e, length-drop (suc at.line) lines)
line_count-replaced text at (e ∷ es) p v =
    let lines = lines_of text in
    let from = e.span.from in
    let rest = replaced text (offset lines e.span.to) es in
    let front = take (offset lines from - offset lines at) (drop (offset lines at) text) in
    let rises = IsFrom-lines at from v.0.behind in
    let counted = line_count-piece lines (from.line - at.line) at.line at.col from.line from.col
    (HaveNoLf-lines_of text) (omega arith) v.0.from.line v.0.from.col (IsFrom-cols at from v.0.behind) p.col in
    let front_lines : line_count front ≡ suc (from.line - at.line) = rw (joined-lines_of text) at counted in
    omega (
      arith,
      line_count-replaced text e.span.to es v.0.to v.1,
      front_lines,
      line_count-append front (norm e.text ++ rest),
      line_count-append (norm e.text) rest,
      line_count-pos (norm e.text),
      sum_by-cons removed_lines e es,
      sum_by-cons added_lines e es,
      IsFrom-lines from e.span.to v.0.forward,
    )

-- nor are more lines removed than there are
pub removed_lines_le : (text : List ℕ) (at : Pos) (es : List TextEdit) → IsPlace (lines_of text) at
    → AreValid (lines_of text) at es → sum_by removed_lines es + at.line < line_count text
removed_lines_le text at [] p v = omega (arith, p.line)
removed_lines_le text at (e ∷ es) p v =
    omega (
      arith,
      removed_lines_le text e.span.to es v.0.to v.1,
      sum_by-cons removed_lines e es,
      IsFrom-lines at e.span.from v.0.behind,
      IsFrom-lines e.span.from e.span.to v.0.forward,
    )

-- each edit of a valid batch is in range
pub is_in_range-get_or : (text : List ℕ) (before : Option Pos) (n : ℕ) (es : List TextEdit) (i : ℕ) (d : TextEdit)
    → edit_fault text before n es ≡ None → i < length es → is_in_range text (get_or es i d) ≡ true
is_in_range-get_or text before n [] i d h l = absurd (omega arith)
is_in_range-get_or text before n (e ∷ es) zero d h l =
    (first_fault-None (is_in_range text e) (is_in_order before e) n (edit_fault text (Some e.span.to) (suc n) es) h).0
is_in_range-get_or text before n (e ∷ es) (suc i) d h l =
    is_in_range-get_or text (Some e.span.to) (suc n) es i d
    ((first_fault-None (is_in_range text e) (is_in_order before e) n (edit_fault text (Some e.span.to) (suc n) es)
    h).2) (omega arith)

-- what a loop over a valid batch knows at its edit number i
pub record AtEdit (text : List ℕ) (es : List TextEdit) (i : ℕ) (span : Span) (cs : List ℕ) : Type 0 where
  pub from : holds text span.from ≡ true
  pub to : holds text span.to ≡ true
  pub forward : is_before span.to span.from ≡ false
  pub lines_rise : span.from.line ≤ span.to.line
  pub offsets_rise : offset_of text span.from ≤ offset_of text span.to
  pub chars_removed : sum_by (removed (lines_of text)) (take (i + 1) es)
      ≡ sum_by (removed (lines_of text)) (take i es) + (offset_of text span.to - offset_of text span.from)
  pub chars_left : sum_by (removed (lines_of text)) (take (i + 1) es) ≤ length text
  pub lines_removed : sum_by removed_lines (take (i + 1) es)
      ≡ sum_by removed_lines (take i es) + (span.to.line - span.from.line)
  pub lines_left : sum_by removed_lines (take (i + 1) es) < line_count text
  pub chars_added : sum_by added (take (i + 1) es) ≡ sum_by added (take i es) + length (norm cs)
  pub lines_added : sum_by added_lines (take (i + 1) es) ≡ sum_by added_lines (take i es) + (line_count (norm cs) - 1)

at_get_or : (text : List ℕ) (es : List TextEdit) (i : ℕ) (d : TextEdit) → edit_fault text None 0 es ≡ None
    → i < length es → AtEdit text es i (get_or es i d).span (get_or es i d).text
at_get_or text es i d h l =
    let e = get_or es i d in
    let lines = lines_of text in
    let valid = AreValid-origin text 0 es h in
    let start_place = IsPlace-origin text in
    let range = and_parts _ _ (is_in_range-get_or text None 0 es i d h l) in
    let places = and_parts _ _ range.0 in
    let from = IsPlace-holds text e.span.from places.0 in
    let to = IsPlace-holds text e.span.to places.1 in
    let not_before = not-true _ range.1 in
    let forward = IsFrom-is_before e.span.from e.span.to not_before in
    record {
      from = places.0;
      to = places.1;
      forward = not_before;
      lines_rise = IsFrom-lines e.span.from e.span.to forward;
      offsets_rise = offset_le lines e.span.from e.span.to from to forward;
      chars_removed = sum_by_more (removed lines) es i d l;
      chars_left = omega (
        arith,
        sum_by-take-le (removed lines) es (i + 1),
        removed_le text origin es start_place
            valid,
      );
      lines_removed = sum_by_more removed_lines es i d l;
      lines_left = omega (
        arith,
        sum_by-take-le removed_lines es (i + 1),
        removed_lines_le text origin es start_place
            valid,
      );
      chars_added = sum_by_more added es i d l;
      lines_added = sum_by_more added_lines es i d l;
    }

pub at_edit : (text : List ℕ) (es : List TextEdit) (i : ℕ) (e : TextEdit) (span : Span) → edit_fault text None 0 es
    ≡ None → i < length es → e ≡ get_or es i e → span ≡ e.span → AtEdit text es i span e.text
at_edit text es i e span h l is same =
    rw same (subst (λ x. AtEdit text es i x.span x.text) (sym is) (at_get_or text es i e h l))

-- the size of the text after a valid batch
pub IsSizeOf-edited : (text : List ℕ) (es : List TextEdit) (size : Size)
    (kept_chars kept_lines added_chars added_line_ends : ℕ) → edit_fault text None 0 es ≡ None
    → kept_chars + sum_by (removed (lines_of text)) es ≡ length text → kept_lines + sum_by removed_lines es
    ≡ line_count text
    → added_chars ≡ counted (sum_by added es) → added_line_ends ≡ counted (sum_by added_lines es)
    → size.chars ≡ counted (kept_chars + added_chars) → size.lines ≡ counted (kept_lines + added_line_ends)
    → IsSizeOf (edited text es) size
IsSizeOf-edited text es size kept_chars kept_lines added_chars added_line_ends h k l m n c d =
    let valid = AreValid-origin text 0 es h in
    record {
      chars = omega (arith, length-replaced text origin es (IsPlace-origin text) valid);
      lines = omega (arith, line_count-replaced text origin es (IsPlace-origin text) valid);
    }

-- what a loop that goes from span to span knows at its edit number i, where the edit before it ends at `at`
pub record AtSpan (text : List ℕ) (at : Pos) (es : List TextEdit) (i : ℕ) (span : Span) (cs : List ℕ) : Type 0 where
  pub from : holds text span.from ≡ true
  pub to : holds text span.to ≡ true
  pub behind : is_before span.from at ≡ false
  pub later : edit_fault text (Some span.to) 0 (drop (i + 1) es) ≡ None
  pub replaces : replaced text (offset_of text at) (drop i es)
      ≡ take (offset_of text span.from - offset_of text at) (drop (offset_of text at) text)
      ++ (norm cs ++ replaced text (offset_of text span.to) (drop (i + 1) es))

edit_fault-renumbered : (text : List ℕ) (before : Option Pos) (m n : ℕ) (es : List TextEdit)
    → edit_fault text before m es ≡ None → edit_fault text before n es ≡ None
edit_fault-renumbered text before m n [] h = refl
edit_fault-renumbered text before m n (e ∷ es) h =
    let parts = first_fault-None (is_in_range text e) (is_in_order before e) m
    (edit_fault text (Some e.span.to) (suc m) es) h in
    let later = edit_fault-renumbered text (Some e.span.to) (suc m) (suc n) es parts.2 in
    rw (parts.0, parts.1) later

at_drop : (text : List ℕ) (at : Pos) (es : List TextEdit) (i : ℕ) (d : TextEdit)
    → edit_fault text (Some at) 0 (drop i es) ≡ None → i < length es
    → AtSpan text at es i (get_or es i d).span (get_or es i d).text
at_drop text at es i d h l =
    let e = get_or es i d in
    let split = drop_more es i d l in
    let parts = first_fault-None (is_in_range text e) (is_in_order (Some at) e) 0
    (edit_fault text (Some e.span.to) 1 (drop (i + 1) es)) (rw split at h) in
    let range = and_parts _ _ parts.0 in
    let places = and_parts _ _ range.0 in
    record {
      from = places.0;
      to = places.1;
      behind = not-true _ parts.1;
      later = edit_fault-renumbered text (Some e.span.to) 1 0 (drop (i + 1) es) parts.2;
      replaces = ap (replaced text (offset_of text at)) split;
    }

pub at_span : (text : List ℕ) (at : Pos) (es : List TextEdit) (i : ℕ) (e : TextEdit) (span : Span)
    → edit_fault text (Some at) 0 (drop i es) ≡ None → i < length es → e ≡ get_or es i e → span ≡ e.span
    → AtSpan text at es i span e.text
at_span text at es i e span h l is same =
    rw same (subst (λ x. AtSpan text at es i x.span x.text) (sym is) (at_drop text at es i e h l))

-- the first edit has nothing before it
pub edit_fault-origin : (text : List ℕ) (n : ℕ) (es : List TextEdit) → edit_fault text None n es ≡ None
    → edit_fault text (Some origin) n es ≡ None
edit_fault-origin text n [] h = refl
edit_fault-origin text n (e ∷ es) h = rw (is_before-origin e.span.from) h

pub holds-origin : (text : List ℕ) → holds text origin ≡ true
holds-origin text = and_from _ _ (lt-ltb 0 (line_count text) (line_count-pos text))
    (le-leb 0 (length (line_of text 0)) (omega arith))

-- a piece was copied and a text added
pub built_step : (draft copied added piece text rest left whole : List ℕ) → copied ≡ draft ++ piece → added
    ≡ copied ++ text → left ≡ piece ++ (text ++ rest) → draft ++ left ≡ whole → added ++ rest ≡ whole
built_step draft copied added piece text rest left whole c a l h =
    ap (λ (xs : List ℕ). xs ++ rest) (a ∙ ap (λ (xs : List ℕ). xs ++ text) c)
    ∙ append_assoc (draft ++ piece) text rest ∙ append_assoc draft piece (text ++ rest)
    ∙ ap (λ (xs : List ℕ). draft ++ xs) (sym l) ∙ h
