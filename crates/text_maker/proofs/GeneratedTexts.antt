-- A generated text is ASCII without CRs, so that its bytes as a file stand for it, and how large it is.
use Rattle.std.proofs.Common.{◌≡◌, ◌≢◌, ℕ, zero, suc, ◌+◌, ◌*◌, ◌%◌, ◌<◌, ◌≤◌, List, [], ◌∷◌, ◌++◌, map, length, get_or, true, cond}
use Rattle.std.proofs.Common.{refl, ap, sym, ◌∙◌, arith, append_assoc}
use Rattle.std.specs.List.{join_with_byte, range_with_len}
use Rattle.std.specs.Str.{IsAscii}
use Rattle.std.proofs.lemmas.Bool.{ne_eqb, and_from, le-leb}
use Rattle.std.proofs.lemmas.List.{length-append}
use Rattle.std.proofs.lemmas.List.FromFn.{length-map-range_with_len, map-range_with_len_more}
use Rattle.std.proofs.lemmas.Str.{chars-IsAscii, IsUtf8-from_ascii}
use Rattle.std.proofs.lemmas.Str.Ascii.{IsAscii-nil, IsAscii-cons}
use Rattle.text_defs.specs.Text.{norm, without_bom, text_of, is_text, begins_with, line_count}
use Rattle.line_text.proofs.CountedSizes.{line_count-append, line_count-cons, ends_line}
use Rattle.line_text.proofs.FileTexts.{is_utf8-true}
use Rattle.generator_defs.specs.GeneratedText.{pieces, piece, generated_line, generated_text}

-- ---- characters

pub record IsPiece (c : ℕ) : Type 0 where
  pub ascii : c < 128
  pub no_lf : c ≢ 10
  pub no_cr : c ≢ 13

abbrev pub ArePieces : List ℕ → Type 0
ArePieces [] = Unit {0}
ArePieces (c ∷ cs) = IsPiece c × ArePieces cs

-- there are eight, and behind them the default stands
piece_at : (m : ℕ) → IsPiece (get_or pieces m 0)
piece_at zero = record { ascii = omega arith; no_lf = λ e. omega arith; no_cr = λ e. omega arith }
piece_at (suc zero) = record { ascii = omega arith; no_lf = λ e. omega arith; no_cr = λ e. omega arith }
piece_at (suc (suc zero)) = record { ascii = omega arith; no_lf = λ e. omega arith; no_cr = λ e. omega arith }
piece_at (suc (suc (suc zero))) = record { ascii = omega arith; no_lf = λ e. omega arith; no_cr = λ e. omega arith }
piece_at (suc (suc (suc (suc zero)))) = record { ascii = omega arith; no_lf = λ e. omega arith; no_cr = λ e. omega arith }
piece_at (suc (suc (suc (suc (suc zero))))) = record { ascii = omega arith; no_lf = λ e. omega arith; no_cr = λ e. omega arith }
piece_at (suc (suc (suc (suc (suc (suc zero)))))) = record { ascii = omega arith; no_lf = λ e. omega arith; no_cr = λ e. omega arith }
piece_at (suc (suc (suc (suc (suc (suc (suc zero))))))) = record { ascii = omega arith; no_lf = λ e. omega arith; no_cr = λ e. omega arith }
piece_at (suc (suc (suc (suc (suc (suc (suc (suc m)))))))) = record { ascii = omega arith; no_lf = λ e. omega arith; no_cr = λ e. omega arith }

pub IsPiece-piece : (k : ℕ) → IsPiece (piece k)
unfolding piece
IsPiece-piece k = piece_at (k % 8)

pieces_map : (f : ℕ → ℕ) → ((k : ℕ) → IsPiece (f k)) → (ks : List ℕ) → ArePieces (map f ks)
pieces_map f h [] = tt
pieces_map f h (k ∷ ks) = (h k, pieces_map f h ks)

-- ---- lines

-- a line as the generator makes them
pub record IsLine (line : List ℕ) : Type 0 where
  pub pieces : ArePieces line
  pub long : length line ≡ 12

pub IsLine-generated_line : (n i : ℕ) → IsLine (generated_line n i)
unfolding generated_line
IsLine-generated_line n i = record {
  pieces = pieces_map (λ p. piece (3 * i + 5 * p + i * p + n)) (λ p. IsPiece-piece (3 * i + 5 * p + i * p + n)) (range_with_len 0 12);
  long = refl;
}

line_count-pieces : (cs : List ℕ) → ArePieces cs → line_count cs ≡ 1
line_count-pieces [] h = refl
line_count-pieces (c ∷ cs) h =
    let one : ends_line c ≡ 0 = ap (λ b. cond b 1 0) (ne_eqb c 10 h.0.no_lf) in
    omega (arith, line_count-cons c cs, line_count-pieces cs h.1)

abbrev pub AreLines : List (List ℕ) → Type 0
AreLines [] = Unit {0}
AreLines (line ∷ lines) = IsLine line × AreLines lines

lines_map : (n : ℕ) (ks : List ℕ) → AreLines (map (generated_line n) ks)
lines_map n [] = tt
lines_map n (k ∷ ks) = (IsLine-generated_line n k, lines_map n ks)

-- ---- texts

pub record IsPart (c : ℕ) : Type 0 where
  pub ascii : c < 128
  pub no_cr : c ≢ 13

abbrev pub AreParts : List ℕ → Type 0
AreParts [] = Unit {0}
AreParts (c ∷ cs) = IsPart c × AreParts cs

parts_behind : (line rest : List ℕ) → ArePieces line → AreParts rest → AreParts (line ++ rest)
parts_behind [] rest h i = i
parts_behind (c ∷ cs) rest h i = (record { ascii = h.0.ascii; no_cr = h.0.no_cr }, parts_behind cs rest h.1 i)

parts_of_pieces : (line : List ℕ) → ArePieces line → AreParts line
parts_of_pieces [] h = tt
parts_of_pieces (c ∷ cs) h = (record { ascii = h.0.ascii; no_cr = h.0.no_cr }, parts_of_pieces cs h.1)

parts_of_lines : (lines : List (List ℕ)) → AreLines lines → AreParts (join_with_byte 10 lines)
parts_of_lines [] h = tt
parts_of_lines (line ∷ []) h = parts_of_pieces line h.0.pieces
parts_of_lines (line ∷ next ∷ lines) h =
    parts_behind line (10 ∷ join_with_byte 10 (next ∷ lines)) h.0.pieces
    (record { ascii = omega arith; no_cr = λ e. omega arith }, parts_of_lines (next ∷ lines) h.1)

AreParts-generated_text : (n : ℕ) → AreParts (generated_text n)
unfolding generated_text
AreParts-generated_text n = parts_of_lines (map (generated_line n) (range_with_len 0 n)) (lines_map n (range_with_len 0 n))

IsAscii-parts : (cs : List ℕ) → AreParts cs → IsAscii cs
IsAscii-parts [] h = IsAscii-nil
IsAscii-parts (c ∷ cs) h = IsAscii-cons c cs h.0.ascii (IsAscii-parts cs h.1)

norm-parts : (cs : List ℕ) → AreParts cs → norm cs ≡ cs
norm-parts [] h = refl
norm-parts (c ∷ cs) h =
    ap (λ b. cond b (cond (begins_with 10 cs) (norm cs) (10 ∷ norm cs)) (c ∷ norm cs)) (ne_eqb c 13 h.0.no_cr)
    ∙ ap (λ (xs : List ℕ). c ∷ xs) (norm-parts cs h.1)

without_bom-parts : (cs : List ℕ) → AreParts cs → without_bom cs ≡ cs
without_bom-parts [] h = refl
without_bom-parts (c ∷ cs) h =
    let below : c < 128 = h.0.ascii in
    ap (λ b. cond b cs (c ∷ cs)) (ne_eqb c 65279 (λ e. omega arith))

-- the bytes of the text as a file stand for it
pub text_of-generated_text : (n : ℕ) → text_of (generated_text n) ≡ generated_text n
text_of-generated_text n =
    let text = generated_text n in
    let parts : AreParts text = AreParts-generated_text n in
    ap (λ (cs : List ℕ). norm (without_bom cs)) (chars-IsAscii text (IsAscii-parts text parts))
    ∙ ap norm (without_bom-parts text parts) ∙ norm-parts text parts

-- ---- sizes

length-lines : (line : List ℕ) (lines : List (List ℕ)) → AreLines (line ∷ lines)
    → length (join_with_byte 10 (line ∷ lines)) + 1 ≡ 13 * length (line ∷ lines)
length-lines line [] h = omega (arith, h.0.long)
length-lines line (next ∷ lines) h = omega (
  arith,
  h.0.long,
  length-append line (10 ∷ join_with_byte 10 (next ∷ lines)),
  length-lines next lines h.1,
)

line_count-lines : (line : List ℕ) (lines : List (List ℕ)) → AreLines (line ∷ lines)
    → line_count (join_with_byte 10 (line ∷ lines)) ≡ length (line ∷ lines)
line_count-lines line [] h = line_count-pieces line h.0.pieces
line_count-lines line (next ∷ lines) h = omega (
  arith,
  line_count-pieces line h.0.pieces,
  line_count-append line (10 ∷ join_with_byte 10 (next ∷ lines)),
  line_count-cons 10 (join_with_byte 10 (next ∷ lines)),
  line_count-lines next lines h.1,
)

pub length-generated_text : (n : ℕ) → 1 ≤ n → length (generated_text n) + 1 ≡ 13 * n
unfolding generated_text
length-generated_text zero h = absurd (omega arith)
length-generated_text (suc m) h = omega (
  arith,
  length-lines (generated_line (suc m) 0) (map (generated_line (suc m)) (range_with_len (0 + 1) m)) (lines_map (suc m) (range_with_len 0 (suc m))),
  length-map-range_with_len (generated_line (suc m)) (0 + 1) m,
)

pub line_count-generated_text : (n : ℕ) → 1 ≤ n → line_count (generated_text n) ≡ n
unfolding generated_text
line_count-generated_text zero h = absurd (omega arith)
line_count-generated_text (suc m) h = omega (
  arith,
  line_count-lines (generated_line (suc m) 0) (map (generated_line (suc m)) (range_with_len (0 + 1) m)) (lines_map (suc m) (range_with_len 0 (suc m))),
  length-map-range_with_len (generated_line (suc m)) (0 + 1) m,
)

pub is_text-generated_text : (n : ℕ) → 1 ≤ n → n ≤ 100000 → is_text (generated_text n) ≡ true
is_text-generated_text n some few =
    let text = generated_text n in
    let same : text_of text ≡ text = text_of-generated_text n in
    let few_chars : length (text_of text) ≤ 4194304 = omega (arith, ap (length {A = ℕ}) same, length-generated_text n some) in
    let few_lines : line_count (text_of text) ≤ 262144 = omega (arith, ap line_count same, line_count-generated_text n some) in
    and_from _ _ (is_utf8-true text (IsUtf8-from_ascii text (IsAscii-parts text (AreParts-generated_text n))))
    (and_from _ _ (le-leb _ _ few_chars) (le-leb _ _ few_lines))

-- ---- as they are made

pub pieces_more : (f : ℕ → ℕ) (old now new : List ℕ) (p c : ℕ) → now ≡ old ++ map f (range_with_len 0 p) → c ≡ f p
    → new ≡ now ++ c ∷ [] → new ≡ old ++ map f (range_with_len 0 (p + 1))
pieces_more f old now new p c h is_piece pushed =
    let so_far = map f (range_with_len 0 p) in
    pushed ∙ ap (λ (xs : List ℕ). xs ++ c ∷ []) h ∙ append_assoc old so_far (c ∷ [])
    ∙ ap (λ (xs : List ℕ). old ++ xs) (ap (λ (x : ℕ). so_far ++ x ∷ []) is_piece ∙ sym (map-range_with_len_more f 0 p p (omega arith)))

pub pieces_all : (n i : ℕ) (old now : List ℕ) (p : ℕ) → p ≡ 12
    → now ≡ old ++ map (λ q. piece (3 * i + 5 * q + i * q + n)) (range_with_len 0 p) → now ≡ old ++ generated_line n i
unfolding generated_line
pieces_all n i old now p e h = h ∙ ap (λ (k : ℕ). old ++ map (λ q. piece (3 * i + 5 * q + i * q + n)) (range_with_len 0 k)) e

join_more : (lines : List (List ℕ)) (line : List ℕ) → 0 < length lines
    → join_with_byte 10 (lines ++ line ∷ []) ≡ join_with_byte 10 lines ++ 10 ∷ line
join_more [] line h = absurd (omega arith)
join_more (first ∷ []) line h = refl
join_more (first ∷ next ∷ lines) line h =
    ap (λ (xs : List ℕ). first ++ 10 ∷ xs) (join_more (next ∷ lines) line (omega arith))
    ∙ sym (append_assoc first (10 ∷ join_with_byte 10 (next ∷ lines)) (10 ∷ line))

pub lines_more : (n i : ℕ) (now pushed new : List ℕ) → 0 < i → now ≡ join_with_byte 10 (map (generated_line n) (range_with_len 0 i))
    → pushed ≡ now ++ 10 ∷ [] → new ≡ pushed ++ generated_line n i
    → new ≡ join_with_byte 10 (map (generated_line n) (range_with_len 0 (i + 1)))
lines_more n i now pushed new some h is_pushed is_new =
    let so_far = map (generated_line n) (range_with_len 0 i) in
    let line = generated_line n i in
    let many : 0 < length so_far = omega (arith, length-map-range_with_len (generated_line n) 0 i) in
    is_new ∙ ap (λ (xs : List ℕ). xs ++ line) (is_pushed ∙ ap (λ (xs : List ℕ). xs ++ 10 ∷ []) h)
    ∙ append_assoc (join_with_byte 10 so_far) (10 ∷ []) line ∙ sym (join_more so_far line many)
    ∙ ap (join_with_byte 10) (sym (map-range_with_len_more (generated_line n) 0 i i (omega arith)))

pub lines_all : (n i : ℕ) (now : List ℕ) → i ≡ n → now ≡ join_with_byte 10 (map (generated_line n) (range_with_len 0 i))
    → now ≡ generated_text n
unfolding generated_text
lines_all n i now e h = h ∙ ap (λ (k : ℕ). join_with_byte 10 (map (generated_line n) (range_with_len 0 k))) e
