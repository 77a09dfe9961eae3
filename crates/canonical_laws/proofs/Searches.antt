-- Searches over patterns and over their canonical forms: the same pair decides, by the same attempt.
use Rattle.std.proofs.Common.{◌≡◌, ℕ, ◌+◌, ◌-◌, List, [], ◌∷◌, ◌++◌, length, map, refl, ap, ◌∙◌, sym}
use Rattle.std.specs.Prelude.{Bool, true, false, Option, Some, None, cond, option_map}
use Rattle.std.specs.List.{flat_map}
use Rattle.std.proofs.lemmas.List.{map-append}
use Rattle.pattern_defs.specs.declared.outcomes.Flags.{Flags}
use Rattle.pattern_defs.specs.Patterns.{Tree}
use Rattle.pattern_defs.specs.Attempt.{Ran, Hit, Miss, Spent, Captures, last_hit_captures}
use Rattle.pattern_defs.specs.FirstMatch.{Pair, pairs_at, places, pairs, tried, is_no_miss, first_of, first_pair}
use Rattle.pattern_defs.specs.FirstMatch.{answer_by, found_at, first_match, captures_at, captures_after}
use Rattle.canonical_patterns.specs.Canonical.{AreCodes, canonical}
use Rattle.canonical_laws.specs.Pairs.{canonical_pair}
use Rattle.canonical_laws.proofs.Alike.{attempt-canonical}

pub tried-canonical : (text : List ℕ) (flags : Flags) (budget : ℕ) (pair : Pair) → AreCodes text →
    tried text flags budget (canonical_pair pair) ≡ tried text flags budget pair
tried-canonical text flags budget pair codes = attempt-canonical pair.tree text pair.place flags budget codes

-- ---- all pairs

pairs_at-canonical : (index : ℕ) (trees : List Tree) (place : ℕ) →
    pairs_at index (map canonical trees) place ≡ map canonical_pair (pairs_at index trees place)
pairs_at-canonical index [] place = refl
pairs_at-canonical index (tree ∷ trees) place =
    ap (λ rest. canonical_pair (record { place = place; index = index; tree = tree }) ∷ rest)
    (pairs_at-canonical (index + 1) trees place)

pairs_over-canonical : (trees : List Tree) (all : List ℕ) →
    flat_map (pairs_at 0 (map canonical trees)) all ≡ map canonical_pair (flat_map (pairs_at 0 trees) all)
pairs_over-canonical trees [] = refl
pairs_over-canonical trees (place ∷ all) =
    ap (λ here. here ++ flat_map (pairs_at 0 (map canonical trees)) all) (pairs_at-canonical 0 trees place)
    ∙ ap (λ rest. map canonical_pair (pairs_at 0 trees place) ++ rest) (pairs_over-canonical trees all)
    ∙ sym (map-append canonical_pair (pairs_at 0 trees place) (flat_map (pairs_at 0 trees) all))

pairs-canonical : (trees : List Tree) (text : List ℕ) (from : ℕ) →
    pairs (map canonical trees) text from ≡ map canonical_pair (pairs trees text from)
pairs-canonical trees text from = pairs_over-canonical trees (places from (length text + 1 - from))

-- ---- the first that decides

first_of-canonical : (text : List ℕ) (flags : Flags) (budget : ℕ) (all : List Pair) → AreCodes text →
    first_of (map canonical_pair all) text flags budget ≡ option_map canonical_pair (first_of all text flags budget)
first_of-canonical text flags budget [] codes = refl
first_of-canonical text flags budget (pair ∷ all) codes =
    ap
    (λ ran. cond (is_no_miss ran) (Some (canonical_pair pair)) (first_of (map canonical_pair all) text flags budget))
    (tried-canonical text flags budget pair codes)
    ∙ by_ran (is_no_miss (tried text flags budget pair)) (first_of-canonical text flags budget all codes)
  where
    by_ran : (b : Bool) → first_of (map canonical_pair all) text flags budget
        ≡ option_map canonical_pair (first_of all text flags budget)
        → cond b (Some (canonical_pair pair)) (first_of (map canonical_pair all) text flags budget)
        ≡ option_map canonical_pair (cond b (Some pair) (first_of all text flags budget))
    by_ran true later = refl
    by_ran false later = later

pub first_pair-canonical : (trees : List Tree) (text : List ℕ) (from : ℕ) (flags : Flags) (budget : ℕ) →
    AreCodes text → first_pair (map canonical trees) text from flags budget
    ≡ option_map canonical_pair (first_pair trees text from flags budget)
first_pair-canonical trees text from flags budget codes =
    ap (λ all. first_of all text flags budget) (pairs-canonical trees text from)
    ∙ first_of-canonical text flags budget (pairs trees text from) codes

-- ---- what is answered

answer_by-canonical : (pair : Pair) (ran : Ran) → answer_by (canonical_pair pair) ran ≡ answer_by pair ran
answer_by-canonical pair (Hit at captures left) = refl
answer_by-canonical pair (Miss left) = refl
answer_by-canonical pair Spent = refl

found_at-canonical : (text : List ℕ) (flags : Flags) (budget : ℕ) (o : Option Pair) → AreCodes text →
    found_at text flags budget (option_map canonical_pair o) ≡ found_at text flags budget o
found_at-canonical text flags budget None codes = refl
found_at-canonical text flags budget (Some pair) codes =
    ap (answer_by (canonical_pair pair)) (tried-canonical text flags budget pair codes)
    ∙ answer_by-canonical pair (tried text flags budget pair)

pub first_match-canonical : (trees : List Tree) (text : List ℕ) (from : ℕ) (flags : Flags) (budget : ℕ) →
    AreCodes text → first_match (map canonical trees) text from flags budget
    ≡ first_match trees text from flags budget
first_match-canonical trees text from flags budget codes =
    ap (found_at text flags budget) (first_pair-canonical trees text from flags budget codes)
    ∙ found_at-canonical text flags budget (first_pair trees text from flags budget) codes

captures_at-canonical : (text : List ℕ) (flags : Flags) (budget : ℕ) (o : Option Pair) (last : Captures) →
    AreCodes text → captures_at text flags budget (option_map canonical_pair o) last
    ≡ captures_at text flags budget o last
captures_at-canonical text flags budget None last codes = refl
captures_at-canonical text flags budget (Some pair) last codes =
    ap (λ ran. last_hit_captures ran last) (tried-canonical text flags budget pair codes)

pub captures_after-canonical : (trees : List Tree) (text : List ℕ) (from : ℕ) (flags : Flags) (budget : ℕ)
    (last : Captures) → AreCodes text → captures_after (map canonical trees) text from flags budget last
    ≡ captures_after trees text from flags budget last
captures_after-canonical trees text from flags budget last codes =
    ap (λ o. captures_at text flags budget o last) (first_pair-canonical trees text from flags budget codes)
    ∙ captures_at-canonical text flags budget (first_pair trees text from flags budget) last codes
