-- An edit of the generator is in range of its text, and adds at most a character and a line.
use Rattle.std.proofs.Common.{◌≡◌, ℕ, zero, suc, ◌+◌, ◌*◌, ◌-◌, ◌<◌, ◌≤◌, List, [], ◌∷◌, ◌++◌, length, take, drop, Bool, true, false, cond}
use Rattle.std.proofs.Common.{refl, ap, ◌∙◌, arith, Some, None, ltb, add-one}
use Rattle.std.proofs.lemmas.Bool.{and_parts, and_from, and_right, or_from, not_from_false, ltb-true, lt-ltb, le-ltb, le-leb}
use Rattle.std.proofs.lemmas.List.{length-append}
use Rattle.text_defs.specs.Text.{norm, line_count, line_of, most_chars, most_lines}
use Rattle.text_defs.specs.Place.{holds, is_before, offset_of}
use Rattle.text_defs.specs.Batch.{TextEdit, range, too_many_chars, too_many_lines, counted, is_in_range, edited, size_fault, or_else, batch_refusal}
use Rattle.line_text.proofs.CountedSizes.{line_count-append, line_count-cons, line_count-pos}
use Rattle.line_text.proofs.FileTexts.{length-norm, line_count_le}
use Rattle.generator_defs.specs.GeneratedText.{deletion, insertion, inserted, is_deletion, edit_line, edit_column, generated_edit, text_after}
use Rattle.text_maker.proofs.GeneratedTexts.{length-generated_text, line_count-generated_text}

-- an edit of a text that is in range, and puts at most one character in
pub record IsSmallEdit (text : List ℕ) (e : TextEdit) : Type 0 where
  pub in_range : is_in_range text e ≡ true
  pub forward : offset_of text e.span.from ≤ offset_of text e.span.to
  pub one : length e.text ≤ 1

-- ---- edits

holds-from : (text : List ℕ) (row col : ℕ) → row < line_count text → col ≤ length (line_of text row)
    → holds text (record { line = row; col = col }) ≡ true
holds-from text row col h i = and_from _ _ (lt-ltb _ _ h) (le-leb _ _ i)

not_before : (row from to : ℕ) → from ≤ to
    → is_before (record { line = row; col = to }) (record { line = row; col = from }) ≡ false
not_before row from to h = or_from _ _ (le-ltb row row (omega arith)) (and_right _ _ (le-ltb to from h))

deletion-IsSmallEdit : (text : List ℕ) (row col : ℕ) → row < line_count text → col < length (line_of text row)
    → IsSmallEdit text (deletion (record { line = row; col = col }))
deletion-IsSmallEdit text row col h i = record {
  in_range = and_from _ _ (and_from _ _ (holds-from text row col h (omega arith)) (holds-from text row (col + 1) h (omega arith)))
      (not_from_false _ (not_before row col (col + 1) (omega arith)));
  forward = omega arith;
  one = omega arith;
}

insertion-IsSmallEdit : (text : List ℕ) (row col c : ℕ) → row < line_count text → col ≤ length (line_of text row)
    → IsSmallEdit text (insertion (record { line = row; col = col }) c)
insertion-IsSmallEdit text row col c h i = record {
  in_range = and_from _ _ (and_from _ _ (holds-from text row col h i) (holds-from text row col h i))
      (not_from_false _ (not_before row col col (omega arith)));
  forward = omega arith;
  one = omega arith;
}

edit-IsSmallEdit : (text : List ℕ) (n j row : ℕ) (b : Bool) → is_deletion j (line_of text row) ≡ b → row < line_count text
    → IsSmallEdit text (cond b (deletion (record { line = row; col = edit_column j (line_of text row) }))
    (insertion (record { line = row; col = edit_column j (line_of text row) }) (inserted n j)))
edit-IsSmallEdit text n j row true e h =
    deletion-IsSmallEdit text row (edit_column j (line_of text row)) h (ltb-true _ _ (and_parts _ _ e).1)
edit-IsSmallEdit text n j row false e h =
    insertion-IsSmallEdit text row (edit_column j (line_of text row)) (inserted n j) h (omega arith)

pub IsSmallEdit-generated_edit : (text : List ℕ) (n j : ℕ) → IsSmallEdit text (generated_edit n j text)
unfolding generated_edit
IsSmallEdit-generated_edit text n j =
    let some : 0 < line_count text = line_count-pos text in
    let there : edit_line j text < line_count text = omega arith in
    edit-IsSmallEdit text n j (edit_line j text) (is_deletion j (line_of text (edit_line j text))) refl there

-- ---- texts

chars_around : (a b : ℕ) (cs : List ℕ) → a ≤ b → length (take a cs) + length (drop b cs) ≤ length cs
chars_around zero zero cs h = omega arith
chars_around zero (suc b) [] h = omega arith
chars_around zero (suc b) (c ∷ cs) h = omega (arith, chars_around zero b cs (omega arith))
chars_around (suc a) zero cs h = absurd (omega arith)
chars_around (suc a) (suc b) [] h = omega arith
chars_around (suc a) (suc b) (c ∷ cs) h = omega (arith, chars_around a b cs (omega arith))

lines_around : (a b : ℕ) (cs : List ℕ) → a ≤ b → line_count (take a cs) + line_count (drop b cs) ≤ line_count cs + 1
lines_around zero zero cs h = omega arith
lines_around zero (suc b) [] h = omega arith
lines_around zero (suc b) (c ∷ cs) h = omega (arith, lines_around zero b cs (omega arith), line_count-cons c cs)
lines_around (suc a) zero cs h = absurd (omega arith)
lines_around (suc a) (suc b) [] h = omega arith
lines_around (suc a) (suc b) (c ∷ cs) h =
    omega (arith, lines_around a b cs (omega arith), line_count-cons c cs, line_count-cons c (take a cs))

pub edited_chars : (text : List ℕ) (e : TextEdit) → IsSmallEdit text e → length (edited text (e ∷ [])) ≤ length text + 1
edited_chars text e h =
    let a = offset_of text e.span.from in
    let b = offset_of text e.span.to in
    let none : a - 0 ≡ a = omega arith in
    rw none (omega (
      arith,
      length-append (take a text) (norm e.text ++ drop b text),
      length-append (norm e.text) (drop b text),
      chars_around a b text h.forward,
      length-norm e.text,
      h.one,
    ))

pub edited_lines : (text : List ℕ) (e : TextEdit) → IsSmallEdit text e
    → line_count (edited text (e ∷ [])) ≤ line_count text + 1
edited_lines text e h =
    let a = offset_of text e.span.from in
    let b = offset_of text e.span.to in
    let none : a - 0 ≡ a = omega arith in
    rw none (omega (
      arith,
      line_count-append (take a text) (norm e.text ++ drop b text),
      line_count-append (norm e.text) (drop b text),
      lines_around a b text h.forward,
      line_count_le (norm e.text),
      length-norm e.text,
      h.one,
    ))

accepted : (text : List ℕ) (e : TextEdit) → IsSmallEdit text e → length text < most_chars → line_count text < most_lines
    → batch_refusal text (e ∷ []) ≡ None
accepted text e h few_chars few_lines =
    let new = edited text (e ∷ []) in
    let chars_fit : ltb most_chars (length new) ≡ false = le-ltb most_chars (length new) (omega (arith, edited_chars text e h)) in
    let lines_fit : ltb most_lines (line_count new) ≡ false = le-ltb most_lines (line_count new) (omega (arith, edited_lines text e h)) in
    ap (λ (b : Bool). or_else (cond b None (Some (range 0))) (size_fault new)) h.in_range
    ∙ ap (λ (b : Bool). cond b (Some (too_many_chars (counted (length new))))
    (cond (ltb most_lines (line_count new)) (Some (too_many_lines (counted (line_count new)))) None)) chars_fit
    ∙ ap (λ (b : Bool). cond b (Some (too_many_lines (counted (line_count new)))) None) lines_fit

pub text_after-small : (n j : ℕ) → 1 ≤ n → (length (text_after n j) ≤ 13 * n + j) × (line_count (text_after n j) ≤ n + j)
unfolding text_after
text_after-small n zero h = (omega (arith, length-generated_text n h), omega (arith, line_count-generated_text n h))
text_after-small n (suc j) h =
    let text = text_after n j in
    let e = generated_edit n (suc j) text in
    let small = IsSmallEdit-generated_edit text n (suc j) in
    let before = text_after-small n j h in
    (omega (arith, edited_chars text e small, before.0), omega (arith, edited_lines text e small, before.1))

pub made_edit-accepted : (n j : ℕ) → 1 ≤ n → n ≤ 100000 → j < 200
    → batch_refusal (text_after n j) (generated_edit n (j + 1) (text_after n j) ∷ []) ≡ None
made_edit-accepted n j some few few_edits =
    let text = text_after n j in
    let small = text_after-small n j some in
    accepted text (generated_edit n (j + 1) text) (IsSmallEdit-generated_edit text n (j + 1))
    (omega (arith, small.0)) (omega (arith, small.1))

-- the text after one more edit
pub text_after-next : (n j : ℕ) → text_after n (j + 1) ≡ edited (text_after n j) (generated_edit n (j + 1) (text_after n j) ∷ [])
unfolding text_after
text_after-next n j = rw add-one refl
