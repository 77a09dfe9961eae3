-- The places of a text are those of its offsets.
use Rattle.std.proofs.Common.{◌≡◌, ℕ, zero, suc, ◌+◌, ◌<◌, ◌≤◌, inl, inr, List, [], ◌∷◌, length, take, Bool, true}
use Rattle.std.proofs.Common.{false, cond, ap, ap₂, arith, eqb, lt-ltb, le-leb}
use Rattle.std.proofs.lemmas.Bool.{cases_lt, and_from}
use Rattle.text_pos.specs.declared.length.Pos.{Pos}
use Rattle.text_defs.specs.Text.{lines_of, line_of, line_count, onto_first, all_but_last, last_line}
use Rattle.text_defs.specs.Place.{holds, offset_of, place_of}
use Rattle.line_text.specs.PlaceLaws.{EachOffsetHasItsPlace, EachPlaceHasItsOffset}
use Rattle.line_text.proofs.CountedSizes.{line_count-pos}
use Rattle.line_text.proofs.Places.{IsPlace, IsPlace-holds, joined-lines_of, offset_within, start, start_cons}
use Rattle.line_text.proofs.Places.{start_mono, start_step}

-- the place behind the last of these lines
abbrev end_of : List (List ℕ) → Pos
end_of front = record { line = length (all_but_last front); col = length (last_line front) }

-- the lines of a text's front end at a place of the text, which has this offset
record EndsAt (front lines : List (List ℕ)) (offset : ℕ) : Type 0 where
  pub some_line : 0 < length front
  pub place : IsPlace lines (end_of front)
  pub counted : start lines (length (all_but_last front)) + length (last_line front) ≡ offset

EndsAt-lf : (front lines : List (List ℕ)) (offset : ℕ) → EndsAt front lines offset
    → EndsAt ([] ∷ front) ([] ∷ lines) (suc offset)
EndsAt-lf [] lines offset h = absurd (omega (arith, h.some_line))
EndsAt-lf (line ∷ front) lines offset h = record {
  some_line = omega arith;
  place = record { line = omega (arith, h.place.line); col = h.place.col };
  counted = omega (arith, h.counted, start_cons [] lines (length (all_but_last (line ∷ front))));
}

EndsAt-other : (c : ℕ) (front lines : List (List ℕ)) (offset : ℕ) → EndsAt front lines offset
    → EndsAt (onto_first c front) (onto_first c lines) (suc offset)
EndsAt-other c [] lines offset h = absurd (omega (arith, h.some_line))
EndsAt-other c (line ∷ front) [] offset h = absurd (omega (arith, h.place.line))
EndsAt-other c (line ∷ []) (whole ∷ lines) offset h = record {
  some_line = omega arith;
  place = record { line = omega arith; col = omega (arith, h.place.col) };
  counted = omega (arith, h.counted);
}
EndsAt-other c (line ∷ next ∷ front) (whole ∷ lines) offset h =
    let n = length (all_but_last (next ∷ front)) in
    record {
      some_line = omega arith;
      place = record { line = omega (arith, h.place.line); col = h.place.col };
      counted = omega (arith, h.counted, start_cons whole lines n, start_cons (c ∷ whole) lines n);
    }

EndsAt-before : (c : ℕ) (b : Bool) (front lines : List (List ℕ)) (offset : ℕ) → EndsAt front lines offset
    → EndsAt (cond b ([] ∷ front) (onto_first c front)) (cond b ([] ∷ lines) (onto_first c lines)) (suc offset)
EndsAt-before c true front lines offset h = EndsAt-lf front lines offset h
EndsAt-before c false front lines offset h = EndsAt-other c front lines offset h

ends_at : (text : List ℕ) (offset : ℕ) → offset ≤ length text
    → EndsAt (lines_of (take offset text)) (lines_of text) offset
ends_at text zero h = record {
  some_line = omega arith;
  place = record { line = omega (arith, line_count-pos text); col = omega arith };
  counted = omega arith;
}
ends_at [] (suc offset) h = absurd (omega arith)
ends_at (c ∷ cs) (suc offset) h = EndsAt-before c (eqb c 10) (lines_of (take offset cs)) (lines_of cs) offset
    (ends_at cs offset (omega arith))

holds-IsPlace : (text : List ℕ) (at : Pos) → IsPlace (lines_of text) at → holds text at ≡ true
holds-IsPlace text at h = and_from _ _ (lt-ltb at.line (line_count text) h.line)
    (le-leb at.col (length (line_of text at.line)) h.col)

pub each_offset_has_its_place : EachOffsetHasItsPlace
each_offset_has_its_place text offset h =
    let end = ends_at text offset h in
    (holds-IsPlace text (place_of text offset) end.place, end.counted)

-- a place on an earlier line has another offset
offset_lt : (lines : List (List ℕ)) (a b : Pos) → IsPlace lines a → a.line < b.line
    → start lines a.line + a.col < start lines b.line + b.col
offset_lt lines a b p l = omega (
  arith,
  p.col,
  start_step lines a.line p.line,
  start_mono lines (suc a.line) b.line
      (omega arith),
)

-- two places with one offset are one place
same_place : (lines : List (List ℕ)) (a b : Pos) → IsPlace lines a → IsPlace lines b → start lines a.line + a.col
    ≡ start lines b.line + b.col → a ≡ b
same_place lines a b p q e =
    elim (cases_lt a.line b.line) [
      | inl l ↦ absurd (omega (arith, e, offset_lt lines a b p l))
      | inr m ↦ elim (cases_lt b.line a.line) [
        | inl l ↦ absurd (omega (arith, e, offset_lt lines b a q l))
        | inr n ↦
            let line : a.line ≡ b.line = omega arith in
            let col : a.col ≡ b.col = omega (arith, e, ap (start lines) line) in
            ap₂ pos line col
      ]
    ]
  where
    pos : ℕ → ℕ → Pos
    pos line col = record { line = line; col = col }

pub each_place_has_its_offset : EachPlaceHasItsOffset
each_place_has_its_offset text at h =
    let place = IsPlace-holds text at h in
    let within : offset_of text at ≤ length text =
    omega (arith, offset_within (lines_of text) at place, ap length (joined-lines_of text)) in
    let end = ends_at text (offset_of text at) within in
    (within, same_place (lines_of text) (place_of text (offset_of text at)) at end.place place end.counted)
