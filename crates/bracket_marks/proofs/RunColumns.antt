-- What is found at a column goes by the columns from there on.
use Rattle.std.proofs.Common.{◌≡◌, ℕ, zero, suc, ◌+◌, ◌-◌, ◌<◌, ◌≤◌, Bool, true, List, [], ◌∷◌}
use Rattle.std.proofs.Common.{length, Option, refl, ap, arith}
use Rattle.std.specs.List.{filter}
use Rattle.pairing_defs.specs.declared.BracketText.{BracketText}
use Rattle.pairing_defs.specs.Marks.{all_count, stands_at, longest, bracket_at, further}
use Rattle.pairing_defs.specs.Marks.{marks_from}

-- a column that counts leaves it to those behind it
pub all_count-more : (counts : ℕ → Bool) (column many n : ℕ) → n < many → counts (column + n) ≡ true
    → all_count counts (column + (n + 1)) (many - (n + 1)) ≡ all_count counts (column + n) (many - n)
all_count-more counts column many n below passes =
    let left : many - n ≡ suc (many - (n + 1)) = omega arith in
    let at : column + (n + 1) ≡ column + n + 1 = omega arith in
    rw (left, passes) (ap (λ k. all_count counts k (many - (n + 1))) at)

module _ (f g : ℕ → Bool) where
  all_count-same : (column n : ℕ) → ((k : ℕ) → column ≤ k → f k ≡ g k) → all_count f column n ≡ all_count g column n
  all_count-same column zero same = refl
  all_count-same column (suc n) same =
      rw (same column (omega arith), all_count-same (column + 1) n (λ k h. same k (omega arith))) refl

  stands-same : (line : List ℕ) (column : ℕ) (b : BracketText) → ((k : ℕ) → column ≤ k → f k ≡ g k)
      → stands_at f line column b ≡ stands_at g line column b
  stands-same line column b same = rw (all_count-same column (length b.text) same) refl

  standing-same : (texts : List BracketText) (line : List ℕ) (column : ℕ) → ((k : ℕ) → column ≤ k → f k ≡ g k)
      → filter (stands_at f line column) texts ≡ filter (stands_at g line column) texts
  standing-same [] line column same = refl
  standing-same (b ∷ texts) line column same =
      rw (stands-same line column b same, standing-same texts line column same) refl

  bracket-same : (texts : List BracketText) (line : List ℕ) (column : ℕ) → ((k : ℕ) → column ≤ k → f k ≡ g k)
      → bracket_at texts f line column ≡ bracket_at texts g line column
  bracket-same texts line column same = ap longest (standing-same texts line column same)

module _ (f g : ℕ → Option BracketText) where
  marks-same : (left taken column : ℕ) → ((k : ℕ) → column ≤ k → f k ≡ g k)
      → marks_from f taken column left ≡ marks_from g taken column left
  marks-same zero taken column same = refl
  marks-same (suc left) (suc taken) column same = marks-same left taken (column + 1) (λ k h. same k (omega arith))
  marks-same (suc left) zero column same =
      let rest = marks-same left (further (g column)) (column + 1) (λ k h. same k (omega arith)) in
      rw (same column (omega arith), rest) refl

-- the marks from a column on go by what counts from there on
pub marks_from-same : (f g : ℕ → Bool) (texts : List BracketText) (line : List ℕ) (column left : ℕ)
    → ((k : ℕ) → column ≤ k → f k ≡ g k)
    → marks_from (bracket_at texts f line) 0 column left ≡ marks_from (bracket_at texts g line) 0 column left
marks_from-same f g texts line column left same =
    marks-same (bracket_at texts f line) (bracket_at texts g line) left 0 column
    (λ k low. bracket-same f g texts line k (λ n h. same n (omega arith)))
