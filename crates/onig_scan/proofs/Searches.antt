-- Searches, pair by pair and place by place.
use Rattle.std.proofs.Common.{◌≡◌, ℕ, suc, ◌+◌, ◌-◌, ◌≤◌, List, ◌++◌, length, Option}
use Rattle.std.proofs.Common.{Some, None, sym, ap, ◌∙◌, arith}
use Rattle.std.specs.Prelude.{IsSomeAnd}
use Rattle.std.specs.List.{flat_map}
use Rattle.std.specs.Option.{option_or}
use Rattle.std.proofs.lemmas.List.Folds.{find-append}
use Rattle.std.proofs.lemmas.List.Concat.{flat_map-cons}
use Rattle.pattern_defs.specs.declared.outcomes.Flags.{Flags}
use Rattle.pattern_defs.specs.declared.outcomes.Found.{Found}
use Rattle.pattern_defs.specs.declared.outcomes.Found.TheVariants as found
use Rattle.pattern_defs.specs.declared.outcomes.Found.TheVariants.{At, Nowhere}
use Rattle.pattern_defs.specs.declared.outcomes.Place.{Place}
use Rattle.pattern_defs.specs.Patterns.{Tree}
use Rattle.pattern_defs.specs.FirstMatch.{Pair, pairs_at, places, pairs, tried, is_no_miss, first_of, first_pair}
use Rattle.onig_scan.specs.Answers.{IsAmong, IfAt}

-- places, one after the other

-- the places from one on are that one and those behind it
pub first_pair-step : (trees : List Tree) (text : List ℕ) (at : ℕ) (flags : Flags) (budget : ℕ) → at ≤ length text
    → first_pair trees text at flags budget ≡ option_or (first_of (pairs_at 0 trees at) text flags budget)
    (first_pair trees text (at + 1) flags budget)
first_pair-step trees text at flags budget h =
    let count : length text + 1 - at ≡ suc (length text + 1 - (at + 1)) = omega arith in
    let split : pairs trees text at ≡ pairs_at 0 trees at ++ pairs trees text (at + 1) =
    ap (λ n. flat_map (pairs_at 0 trees) (places at n)) count
    ∙ flat_map-cons (pairs_at 0 trees) at (places (at + 1) (length text + 1 - (at + 1))) in
    ap (λ all. first_of all text flags budget) split
    ∙ find-append (λ pair. is_no_miss (tried text flags budget pair)) (pairs_at 0 trees at)
    (pairs trees text (at + 1))

-- where a place decides, the search is over
pub first_pair-decided : (trees : List Tree) (text : List ℕ) (from at : ℕ) (flags : Flags) (budget : ℕ) (pair : Pair)
    → at ≤ length text
    → first_pair trees text at flags budget ≡ first_pair trees text from flags budget
    → first_of (pairs_at 0 trees at) text flags budget ≡ Some pair
    → first_of (pairs_at 0 trees at) text flags budget ≡ first_pair trees text from flags budget
first_pair-decided trees text from at flags budget pair h missed is =
    is ∙ sym (sym missed ∙ first_pair-step trees text at flags budget h
    ∙ ap (λ o. option_or o (first_pair trees text (at + 1) flags budget)) is)

-- where it doesn't, the search goes on behind it
pub first_pair-missed : (trees : List Tree) (text : List ℕ) (from at : ℕ) (flags : Flags) (budget : ℕ)
    → at ≤ length text
    → first_pair trees text at flags budget ≡ first_pair trees text from flags budget
    → first_of (pairs_at 0 trees at) text flags budget ≡ None
    → first_pair trees text (at + 1) flags budget ≡ first_pair trees text from flags budget
first_pair-missed trees text from at flags budget h missed none =
    sym (sym missed ∙ first_pair-step trees text at flags budget h
    ∙ ap (λ o. option_or o (first_pair trees text (at + 1) flags budget)) none)

-- what is known of the answer at one place holds of a search that goes by this place

pub IsAmong-widen : (patterns from at to : ℕ) (result : Found) → from ≤ at → at ≤ to → IsAmong patterns at at result →
    IsAmong patterns from to result
IsAmong-widen patterns from at to (At index) low high is = is
IsAmong-widen patterns from at to Nowhere low high is = tt
IsAmong-widen patterns from at to (found.Spent index place) low high is = (is.0, omega (arith, is), omega (arith, is))

begins_later : (from at : ℕ) (taken : Option Place) → from ≤ at → IsSomeAnd taken (λ place. place.from ≡ at) →
    IsSomeAnd taken (λ place. from ≤ place.from)
begins_later from at None low begins = absurd begins
begins_later from at (Some place) low begins = omega (arith, begins)

pub whole-widen : (from at : ℕ) (result : Found) (taken : Option Place) → from ≤ at →
    IfAt result (λ _. IsSomeAnd taken (λ place. place.from ≡ at))
    → IfAt result (λ _. IsSomeAnd taken (λ place. from ≤ place.from))
whole-widen from at (At index) taken low begins = begins_later from at taken low begins
whole-widen from at Nowhere taken low begins = tt
whole-widen from at (found.Spent index place) taken low begins = tt
