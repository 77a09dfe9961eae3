-- Counting a text character by character.
use Rattle.std.proofs.Common.{◌≡◌, ℕ, ◌+◌, ◌<◌, List, [], ◌∷◌, ◌++◌, Bool, true, false, length, refl, ◌∙◌, arith, eqb}
use Rattle.std.proofs.Common.{cond}
use Rattle.std.proofs.lemmas.List.{length-append}
use Rattle.text_defs.specs.Text.{lines_of, line_count, onto_first}
use Rattle.text_defs.specs.Batch.{counted}
use Rattle.line_text.specs.declared.size.Size.{Size}
use Rattle.line_text.specs.Sizes.{IsSizeOf}

-- how many lines more a character makes
abbrev pub ends_line : ℕ → ℕ
ends_line c = cond (eqb c 10) 1 0

length-onto_first : (c : ℕ) (lines : List (List ℕ)) → 0 < length lines → length (onto_first c lines) ≡ length lines
length-onto_first c [] h = absurd (omega arith)
length-onto_first c (line ∷ lines) h = refl

length-before_lines : (b : Bool) (c : ℕ) (lines : List (List ℕ)) → 0 < length lines
    → length (cond b ([] ∷ lines) (onto_first c lines)) ≡ cond b 1 0 + length lines
length-before_lines true c lines h = omega arith
length-before_lines false c lines h = length-onto_first c lines h ∙ omega arith

pos-before_lines : (b : Bool) (c : ℕ) (lines : List (List ℕ)) → 0 < length (cond b ([] ∷ lines) (onto_first c lines))
pos-before_lines true c lines = omega arith
pos-before_lines false c [] = omega arith
pos-before_lines false c (line ∷ lines) = omega arith

pub line_count-pos : (cs : List ℕ) → 0 < line_count cs
line_count-pos [] = omega arith
line_count-pos (c ∷ cs) = pos-before_lines (eqb c 10) c (lines_of cs)

pub line_count-cons : (c : ℕ) (cs : List ℕ) → line_count (c ∷ cs) ≡ ends_line c + line_count cs
line_count-cons c cs = length-before_lines (eqb c 10) c (lines_of cs) (line_count-pos cs)

pub line_count-append : (xs ys : List ℕ) → line_count (xs ++ ys) + 1 ≡ line_count xs + line_count ys
line_count-append [] ys = omega arith
line_count-append (x ∷ xs) ys = omega (
  arith,
  line_count-append xs ys,
  line_count-cons x (xs ++ ys),
  line_count-cons x
      xs,
)

pub line_count-push : (xs : List ℕ) (c : ℕ) → line_count (xs ++ c ∷ []) ≡ line_count xs + ends_line c
line_count-push xs c = omega (arith, line_count-append xs (c ∷ []), line_count-cons c [])

lines_counted : (b : Bool) (old new had : ℕ) → 0 < had → old ≡ counted had → new ≡ cond b (counted (old + 1)) old
    → new ≡ counted (had + cond b 1 0)
lines_counted true old new had h e f = omega arith
lines_counted false old new had h e f = omega arith

-- one character more is counted
pub IsSizeOf-push : (text : List ℕ) (c : ℕ) (old new : Size) → IsSizeOf text old → new.chars ≡ counted (old.chars + 1)
    → new.lines ≡ cond (eqb c 10) (counted (old.lines + 1)) old.lines → IsSizeOf (text ++ c ∷ []) new
IsSizeOf-push text c old new h e f = record {
  chars = omega (arith, h.chars, length-append text (c ∷ []));
  lines = f';
}
  where
    f' : new.lines ≡ counted (line_count (text ++ c ∷ []))
    f' = rw (line_count-push text c) (lines_counted (eqb c 10) old.lines new.lines (line_count text)
        (line_count-pos text) h.lines f)

pub IsSizeOf-nil : IsSizeOf [] (record { chars = 0; lines = 1 })
IsSizeOf-nil = record { chars = refl; lines = refl }
