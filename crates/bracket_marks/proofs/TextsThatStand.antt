-- The texts that stand at a place, and the longest of them.
use Rattle.std.proofs.Common.{◌≡◌, ℕ, zero, suc, ◌+◌, ◌-◌, ◌≤◌, Bool, true}
use Rattle.std.proofs.Common.{List, []}
use Rattle.std.proofs.Common.{◌∷◌, ◌++◌, length, take, drop, Option, Some, None, refl, sym, ap, ◌∙◌, arith, inl, inr}
use Rattle.std.proofs.Common.{nat_eq}
use Rattle.std.specs.Prelude.{slice_get, slice_range}
use Rattle.std.specs.List.{filter, starts_with}
use Rattle.std.proofs.lemmas.Bool.{and_parts, cases_lt, cases_Bool, lt-ltb, le-ltb, true≢false}
use Rattle.std.proofs.lemmas.Bool.Decides.{Decides-eqb}
use Rattle.std.proofs.lemmas.List.{take-append-drop, take_at}
use Rattle.std.proofs.lemmas.Slice.Eq.{starts_is}
use Rattle.pairing_defs.specs.declared.BracketText.{BracketText}
use Rattle.pairing_defs.specs.Marks.{all_count, cuts_no_word, stands_at, longer, longest, bracket_at}
use Rattle.bracket_marks.specs.MarkLaws.{IsOneOf, Stands, EachCounts}
use Rattle.bracket_marks.proofs.LongestText.{longest_passes, not_empty, stands_by}

-- ---- a text stands where it is sliced
starts : (rest text : List ℕ) → starts_with nat_eq rest text ≡ true → take (length text) rest ≡ text
starts rest text front =
    let split : rest ≡ text ++ drop (length text) rest = (starts_is Decides-eqb rest text true (sym front)).0 refl in
    ap (take (length text)) split ∙ take_at text (drop (length text) rest) (length text) refl

as_slice : (line text : List ℕ) (column : ℕ) → slice_range line column (column + length text)
    ≡ take (length text) (drop column line)
as_slice line text column =
    let many : column + length text - column ≡ length text = omega arith in
    ap (λ n. take n (drop column line)) many

-- ---- columns that count
each_counts : (counts : ℕ → Bool) (column n : ℕ) → all_count counts column n ≡ true
    → EachCounts counts column (column + n)
each_counts counts column zero all k low high = absurd (omega arith)
each_counts counts column (suc n) all k low high =
    let both = and_parts (counts column) (all_count counts (column + 1) n) all in
    elim (cases_lt column k) [
      | inl behind ↦ each_counts counts (column + 1) n both.1 k (omega arith) (omega arith)
      | inr here ↦ let same : k ≡ column = omega arith in ap counts same ∙ both.0
    ]

all_counted : (counts : ℕ → Bool) (column n : ℕ) → EachCounts counts column (column + n)
    → all_count counts column n ≡ true
all_counted counts column zero each = refl
all_counted counts column (suc n) each =
    let first : counts column ≡ true = each column (omega arith) (omega arith) in
    let rest = all_counted counts (column + 1) n (λ k low high. each k (omega arith) (omega arith)) in
    rw (first, rest) refl

-- ---- where a text stands
pub slice_from : (counts : ℕ → Bool) (line : List ℕ) (column to : ℕ) (b : BracketText) → to ≡ column + length b.text
    → stands_at counts line column b ≡ true
    → (slice_range line column to ≡ b.text) × EachCounts counts column to
    × (cuts_no_word line column b.text ≡ true)
slice_from counts line column to b e stands =
    let is = stands_by line column (drop column line) b.text (all_count counts column (length b.text)) stands in
    rw e (
      as_slice line b.text column ∙ starts (drop column line) b.text is.1,
      each_counts counts column
          (length b.text) is.2,
      is.3,
    )

pub stands_from : (counts : ℕ → Bool) (line : List ℕ) (column : ℕ) (b : BracketText) → Stands counts line column b.text
    → stands_at counts line column b ≡ true
stands_from counts line column b stands =
    let rest = drop column line in
    let front : take (length b.text) rest ≡ b.text = sym (as_slice line b.text column) ∙ stands.is in
    let split : rest ≡ b.text ++ drop (length b.text) rest =
    sym (take-append-drop (length b.text) rest) ∙ ap (λ text. text ++ drop (length b.text) rest) front in
    let first : starts_with nat_eq rest b.text ≡ true =
    (starts_is Decides-eqb rest b.text (starts_with nat_eq rest b.text) refl).1 (drop (length b.text) rest) split in
    rw (not_empty (length b.text) stands.some, first, all_counted counts column (length b.text) stands.counted)
    stands.whole_words

-- ---- the longest
-- what is found where one of the texts passes
pub record LongestOf (p : BracketText → Bool) (texts : List BracketText) (b : BracketText) : Type 0 where
  pub text : BracketText
  pub is : longest (filter p texts) ≡ Some text
  pub at_least : length b.text ≤ length text.text

longest_here : (p : BracketText → Bool) (texts : List BracketText) (b : BracketText) (found : Option BracketText)
    → p b ≡ true → longest (filter p texts) ≡ found → LongestOf p (b ∷ texts) b
longest_here p texts b None passes is = record { text = b; is = rw (passes, is) refl; at_least = omega arith }
longest_here p texts b (Some a) passes is = elim (cases_lt (length b.text) (length a.text)) [
  | inl less ↦ record {
    text = a;
    is = rw (passes, is, lt-ltb (length b.text) (length a.text) less) refl;
    at_least = omega arith;
  }
  | inr more ↦ record {
    text = b;
    is = rw (passes, is, le-ltb (length b.text) (length a.text) more) refl;
    at_least = omega arith;
  }
]

longest_more : (p : BracketText → Bool) (t : BracketText) (texts : List BracketText) (b : BracketText)
    → LongestOf p texts b → LongestOf p (t ∷ texts) b
longest_more p t texts b l = elim (cases_Bool (p t)) [
  | inl passes ↦ elim (cases_lt (length t.text) (length l.text.text)) [
    | inl less ↦ record {
      text = l.text;
      is = rw (passes, l.is, lt-ltb (length t.text) (length l.text.text) less) refl;
      at_least = l.at_least;
    }
    | inr more ↦ record {
      text = t;
      is = rw (passes, l.is, le-ltb (length t.text) (length l.text.text) more) refl;
      at_least = (let some = l.at_least in omega arith);
    }
  ]
  | inr fails ↦ record { text = l.text; is = rw fails l.is; at_least = l.at_least }
]

longest_of : (p : BracketText → Bool) (texts : List BracketText) (k : ℕ) (b : BracketText) → slice_get texts k
    ≡ Some b → p b ≡ true → LongestOf p texts b
longest_of p [] k b there passes = absurd (cc)
longest_of p (t ∷ texts) zero b there passes =
    let same : b ≡ t = cc in
    rw same (longest_here p texts t (longest (filter p texts)) (rw same at passes) refl)
longest_of p (t ∷ texts) (suc k) b there passes = longest_more p t texts b (longest_of p texts k b there passes)

pub some_longest : (texts : List BracketText) (counts : ℕ → Bool) (line : List ℕ) (column : ℕ) (b : BracketText)
    → IsOneOf b texts → Stands counts line column b.text → LongestOf (stands_at counts line column) texts b
some_longest texts counts line column b listed stands =
    longest_of (stands_at counts line column) texts listed.place b listed.there
    (stands_from counts line column b stands)

-- ---- the first of the longest
-- the text is one of these, and none before it passes that is as long
pub record FirstOf (p : BracketText → Bool) (texts : List BracketText) (b : BracketText) : Type 0 where
  pub place : ℕ
  pub there : slice_get texts place ≡ Some b
  pub first : (k : ℕ) (other : BracketText) → slice_get texts k ≡ Some other → p other ≡ true → length other.text
      ≡ length b.text → place ≤ k

first_here : (p : BracketText → Bool) (t : BracketText) (texts : List BracketText) (b : BracketText) → t ≡ b
    → FirstOf p (t ∷ texts) b
first_here p t texts b same = record {
  place = 0;
  there = ap (λ x. Some x) same;
  first = λ k other there passes as_long. omega arith;
}

none_before : (p : BracketText → Bool) (t : BracketText) (texts : List BracketText) (b : BracketText)
    (f : FirstOf p texts b) → (p t ≡ true → length t.text ≡ length b.text → ⊥)
    → (k : ℕ) (other : BracketText) → slice_get (t ∷ texts) k ≡ Some other → p other ≡ true → length other.text
    ≡ length b.text → suc f.place ≤ k
none_before p t texts b f differs zero other there passes as_long =
    let same : other ≡ t = cc in
    absurd (differs (rw same at passes) (rw same at as_long))
none_before p t texts b f differs (suc k) other there passes as_long = let before =
    f.first k other there passes as_long in omega arith

first_later : (p : BracketText → Bool) (t : BracketText) (texts : List BracketText) (b : BracketText)
    → FirstOf p texts b → (p t ≡ true → length t.text ≡ length b.text → ⊥) → FirstOf p (t ∷ texts) b
first_later p t texts b f differs = record
    { place = suc f.place; there = f.there; first = none_before p t texts b f differs }

first_by : (p : BracketText → Bool) (t : BracketText) (texts : List BracketText) (b : BracketText)
    (found : Option BracketText) → longest (filter p texts) ≡ found → longer t found ≡ Some b
    → (longest (filter p texts) ≡ Some b → FirstOf p texts b) → FirstOf p (t ∷ texts) b
first_by p t texts b None is e later = first_here p t texts b (cc)
first_by p t texts b (Some a) is e later = elim (cases_lt (length t.text) (length a.text)) [
  | inl less ↦
      let taken : Some a ≡ Some b = rw (lt-ltb (length t.text) (length a.text) less) at e in
      let same : length a.text ≡ length b.text = (let this : a ≡ b = cc in ap (λ x. length x.text) this) in
      first_later p t texts b (later (is ∙ taken)) (λ passes as_long. omega arith)
  | inr more ↦
      let taken : Some t ≡ Some b = rw (le-ltb (length t.text) (length a.text) more) at e in
      first_here p t texts b (cc)
]

first_of : (p : BracketText → Bool) (texts : List BracketText) (b : BracketText) → longest (filter p texts) ≡ Some b
    → FirstOf p texts b
first_of p [] b e = absurd (cc)
first_of p (t ∷ texts) b e = elim (cases_Bool (p t)) [
  | inl passes ↦ first_by p t texts b (longest (filter p texts)) refl (rw passes at e) (first_of p texts b)
  | inr fails ↦ first_later p t texts b (first_of p texts b (rw fails at e))
      (λ passes as_long. true≢false (sym passes ∙ fails))
]

module _ (texts : List BracketText) (counts : ℕ → Bool) (line : List ℕ) (column : ℕ) (b : BracketText) where
  pub found_first : bracket_at texts counts line column ≡ Some b → FirstOf (stands_at counts line column) texts b
  found_first e = first_of (stands_at counts line column) texts b e

  pub found_stands : bracket_at texts counts line column ≡ Some b → stands_at counts line column b ≡ true
  found_stands e = longest_passes (stands_at counts line column) texts b e
