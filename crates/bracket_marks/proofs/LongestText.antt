-- The longest text that stands at a place.
use Rattle.std.proofs.Common.{◌≡◌, ℕ, ◌+◌, ◌<◌, ◌≤◌, ◌==◌, ◌⊎◌, ◌&&◌, Bool, true, false, if◌then◌else◌, ltb, List, []}
use Rattle.std.proofs.Common.{◌∷◌}
use Rattle.std.proofs.Common.{◌++◌, length, take, drop, get_or, Option, Some, None, refl, sym, ap, arith, inl, inr}
use Rattle.std.proofs.Common.{length-append, add-one, subst, nat_eq}
use Rattle.std.specs.List.{filter, starts_with}
use Rattle.std.proofs.lemmas.Bool.{and_parts, cases_lt, cases_Bool, cases_cond, lt-ltb, le-ltb, false≢true}
use Rattle.std.proofs.lemmas.Bool.Decides.{Decides-eqb, nat_tests}
use Rattle.std.proofs.lemmas.List.Elements.{filter-append}
use Rattle.std.proofs.lemmas.List.{append-nil}
use Rattle.std.proofs.lemmas.Slice.Eq.{starts_is}
use Rattle.std.proofs.Math.Seq.{take-suc}
use Rattle.pairing_defs.specs.declared.BracketText.{BracketText}
use Rattle.pairing_defs.specs.Marks.{all_count, and_cuts_no_word, cuts_no_word, stands_at, longer, longest}
use Rattle.pairing_defs.specs.Marks.{bracket_at}
use Rattle.bracket_marks.specs.Longest.{or_longer}

-- of three lengths
longer-or_longer-Some : (x a b : BracketText) → longer x (or_longer (Some a) b) ≡ or_longer (longer x (Some a)) b
longer-or_longer-Some x a b = elim (cases_lt (length a.text) (length b.text)) [
  | inl p ↦ elim (cases_lt (length x.text) (length a.text)) [
    | inl q ↦ rw (
      lt-ltb (length a.text) (length b.text) p,
      lt-ltb (length x.text) (length a.text) q,
      lt-ltb
          (length x.text) (length b.text) (omega arith),
      lt-ltb (length a.text) (length b.text) p,
    ) refl
    | inr q ↦ rw (lt-ltb (length a.text) (length b.text) p, le-ltb (length x.text) (length a.text) q) refl
  ]
  | inr p ↦ elim (cases_lt (length x.text) (length a.text)) [
    | inl q ↦ rw (
      le-ltb (length a.text) (length b.text) p,
      lt-ltb (length x.text) (length a.text) q,
      le-ltb
          (length a.text) (length b.text) p,
    ) refl
    | inr q ↦ rw (
      le-ltb (length a.text) (length b.text) p,
      le-ltb (length x.text) (length a.text) q,
      le-ltb
          (length x.text) (length b.text) (omega arith),
    ) refl
  ]
]

longer-or_longer : (x : BracketText) (o : Option BracketText) (b : BracketText) → longer x (or_longer o b)
    ≡ or_longer (longer x o) b
longer-or_longer x None b = refl
longer-or_longer x (Some a) b = longer-or_longer-Some x a b

longest-push : (xs : List BracketText) (b : BracketText) → longest (xs ++ b ∷ []) ≡ or_longer (longest xs) b
longest-push [] b = refl
longest-push (x ∷ xs) b = rw (longest-push xs b) (longer-or_longer x (longest xs) b)

filter-push : (p : BracketText → Bool) (xs : List BracketText) (i : ℕ) (b : BracketText) → i < length xs → b
    ≡ get_or xs i b
    → filter p (take (i + 1) xs) ≡ filter p (take i xs) ++ (if p b then (b ∷ []) else [])
filter-push p xs i b below is = rw (add-one i, take-suc xs i b below, ← is, filter-append p (take i xs) (b ∷ [])) refl

pub longest_yes : (p : BracketText → Bool) (xs : List BracketText) (i : ℕ) (b : BracketText) → i < length xs → b
    ≡ get_or xs i b → p b ≡ true
    → longest (filter p (take (i + 1) xs)) ≡ or_longer (longest (filter p (take i xs))) b
longest_yes p xs i b below is passes = rw (filter-push p xs i b below is, passes)
    (longest-push (filter p (take i xs)) b)

pub longest_no : (p : BracketText → Bool) (xs : List BracketText) (i : ℕ) (b : BracketText) → i < length xs → b
    ≡ get_or xs i b → p b ≡ false
    → longest (filter p (take (i + 1) xs)) ≡ longest (filter p (take i xs))
longest_no p xs i b below is fails = rw (filter-push p xs i b below is, fails, append-nil (filter p (take i xs))) refl

-- the longest of the texts that pass passes
longer_is : (x : BracketText) (o : Option BracketText) (b : BracketText) → longer x o ≡ Some b → (x ≡ b) ⊎ (o ≡ Some b)
longer_is x None b e = inl (cc)
longer_is x (Some a) b e = elim (cases_cond (ltb (length x.text) (length a.text)) (Some a) (Some x) (Some b) (sym e)) [
  | inl later ↦ inr (sym later)
  | inr here ↦ inl (cc)
]

pub longest_passes : (p : BracketText → Bool) (xs : List BracketText) (b : BracketText) → longest (filter p xs)
    ≡ Some b → p b ≡ true
longest_passes p [] b e = cc
longest_passes p (x ∷ xs) b e = elim (cases_Bool (p x)) [
  | inl passes ↦ elim (longer_is x (longest (filter p xs)) b (rw passes at e)) [
    | inl same ↦ subst (λ y. p y ≡ true) same passes
    | inr later ↦ longest_passes p xs b later
  ]
  | inr fails ↦ longest_passes p xs b (rw fails at e)
]

-- a text that stands at the front isn't empty, and fits into what is left of the line
starts_fits : (rest text : List ℕ) → starts_with nat_eq rest text ≡ true → length text ≤ length rest
starts_fits rest text e =
    let split : rest ≡ text ++ drop (length text) rest = (starts_is Decides-eqb rest text true (sym e)).0 refl in
    let total = length-append text (drop (length text) rest) in
    omega (arith, ap length split, total)

pub not_empty : (n : ℕ) → 0 < n → (n == 0) ≡ false
not_empty n h = grind (arith, nat_tests)

-- a text that passes isn't empty, stands at the front, counts and cuts no word
both_hold : (b : Bool) (line : List ℕ) (column : ℕ) (text : List ℕ) → and_cuts_no_word b line column text ≡ true
    → (b ≡ true) × (cuts_no_word line column text ≡ true)
both_hold false line column text e = absurd (false≢true e)
both_hold true line column text e = (refl, e)

pub stands_by : (line : List ℕ) (column : ℕ) (rest text : List ℕ) (counted : Bool)
    → (if length text == 0 then false else and_cuts_no_word (starts_with nat_eq rest text && counted) line column text)
    ≡ true
    → (0 < length text) × (starts_with nat_eq rest text ≡ true) × (counted ≡ true)
    × (cuts_no_word line column text ≡ true)
stands_by line column rest [] counted e = absurd (false≢true e)
stands_by line column rest (c ∷ cs) counted e =
    let some : 0 < length (c ∷ cs) = omega arith in
    let all = both_hold (starts_with nat_eq rest (c ∷ cs) && counted) line column (c ∷ cs)
    (rw (not_empty (length (c ∷ cs)) some) at e) in
    let both = and_parts (starts_with nat_eq rest (c ∷ cs)) counted all.0 in
    (some, both.0, both.1, all.1)

pub bracket_fits : (texts : List BracketText) (counts : ℕ → Bool) (line : List ℕ) (column : ℕ) (b : BracketText)
    → bracket_at texts counts line column ≡ Some b → (0 < length b.text) × (length b.text ≤ length (drop column line))
bracket_fits texts counts line column b e =
    let stands = stands_by line column (drop column line) b.text (all_count counts column (length b.text))
    (longest_passes (stands_at counts line column) texts b e) in
    (stands.0, starts_fits (drop column line) b.text stands.1)
