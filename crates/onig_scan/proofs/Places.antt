-- A search at one place, pattern by pattern.
use Rattle.std.proofs.Common.{◌≡◌, ℕ, zero, suc, ◌+◌, ◌-◌, ◌<◌, ◌≤◌, true, false, List}
use Rattle.std.proofs.Common.{[], ◌∷◌, length, drop, get_or, Option, Some, None, refl, sym, ap, ◌∙◌, subst}
use Rattle.std.proofs.Common.{arith, inl, inr}
use Rattle.std.proofs.lemmas.List.{drop_more, drop_all}
use Rattle.std.proofs.lemmas.Option.{slice_get_cases, slice_get-get_or}
use Rattle.std.specs.Int.{bit_at}
use Rattle.std.specs.Prelude.{slice_get, is_some, IfSome, IfNone, IsSomeAnd}
use Rattle.std.proofs.lemmas.Bool.{true≢false}
use Rattle.pattern_defs.specs.declared.outcomes.Flags.{Flags}
use Rattle.pattern_defs.specs.declared.outcomes.Found.{Found}
use Rattle.pattern_defs.specs.declared.outcomes.Found.TheVariants as found
use Rattle.pattern_defs.specs.declared.outcomes.Outcome.TheVariants as outcomes
use Rattle.pattern_defs.specs.Patterns.{Tree}
use Rattle.pattern_defs.specs.Attempt.{Ran, Hit, Miss, Spent, attempt, outcome_of, last_hit_captures, capture_of}
use Rattle.pattern_defs.specs.FirstMatch.{pairs_at, is_no_miss, first_of, answer_by}
use Rattle.onig_match.specs.Works.{Worked, IsPart}
use Rattle.onig_scan.specs.Rows.{IsMissed, IsWordHere, first_from, IsDecided, GoesOn, IsPassed}

-- the pattern of a number, and those behind it
at_tree : (trees : List Tree) (index at : ℕ) (text : List ℕ) (flags : Flags) (budget : ℕ) (tree : Tree)
    → index < length trees → get_or trees index tree ≡ tree →
    first_from trees index at text flags budget
    ≡ first_of (record { place = at; index = index; tree = tree } ∷ pairs_at (index + 1) (drop (index + 1) trees) at)
    text flags budget
at_tree trees index at text flags budget tree low is =
    let here : drop index trees ≡ tree ∷ drop (index + 1) trees =
    drop_more trees index tree low ∙ ap (λ t. t ∷ drop (index + 1) trees) is in
    ap (λ all. first_of (pairs_at index all at) text flags budget) here

pub misses_on : (trees : List Tree) (index at : ℕ) (text : List ℕ) (flags : Flags) (budget : ℕ) (tree : Tree)
    → index < length trees → get_or trees index tree ≡ tree →
    is_no_miss (attempt tree text at flags budget) ≡ false → first_from trees (index + 1) at text flags budget
    ≡ first_from trees index at text flags budget
misses_on trees index at text flags budget tree low is missed =
    sym (at_tree trees index at text flags budget tree low is ∙ rw missed refl)

pub decides_at : (trees : List Tree) (index at : ℕ) (text : List ℕ) (flags : Flags) (budget : ℕ) (tree : Tree)
    → index < length trees → get_or trees index tree ≡ tree →
    is_no_miss (attempt tree text at flags budget) ≡ true → first_from trees index at text flags budget
    ≡ Some (record { place = at; index = index; tree = tree })
decides_at trees index at text flags budget tree low is told =
    at_tree trees index at text flags budget tree low is ∙ rw told refl

-- a pattern that is spared, or none
spared_on : (trees : List Tree) (index at : ℕ) (text : List ℕ) (flags : Flags) (budget cost : ℕ) → cost ≤ budget →
    IfSome (slice_get trees index) (λ tree. IsMissed tree text at cost)
    → first_from trees (index + 1) at text flags budget ≡ first_from trees index at text flags budget
spared_on trees index at text flags budget cost enough spared =
    elim (slice_get_cases trees index).1 [ inl c ↦ there c.0 c.1 c.2 c.3 | inr c ↦ past c.0 ]
  where
    there : (tree : Tree) → index < length trees → slice_get trees index ≡ Some tree → get_or trees index tree ≡ tree →
        first_from trees (index + 1) at text flags budget ≡ first_from trees index at text flags budget
    there tree low is same =
        let one : IsMissed tree text at cost = rw is at spared in
        let missed : (rest : ℕ) × (attempt tree text at flags budget ≡ Miss rest) =
        one.misses flags budget enough in
        misses_on trees index at text flags budget tree low same (ap is_no_miss missed.1)

    past : length trees ≤ index → first_from trees (index + 1) at text flags budget
        ≡ first_from trees index at text flags budget
    past high =
        let none : drop index trees ≡ [] = drop_all index trees high in
        let none' : drop (index + 1) trees ≡ [] = drop_all (index + 1) trees (omega arith) in
        rw (none, none') refl

-- several of them
pub spared_run : (trees : List Tree) (first at : ℕ) (text : List ℕ) (flags : Flags) (budget cost count : ℕ)
    → cost ≤ budget →
    ((j : ℕ) → j < count → IfSome (slice_get trees (first + j)) (λ tree. IsMissed tree text at cost)) →
    first_from trees (first + count) at text flags budget ≡ first_from trees first at text flags budget
spared_run trees first at text flags budget cost zero enough spared = let e : first + 0 ≡ first =
    omega arith in rw e refl
spared_run trees first at text flags budget cost (suc count) enough spared =
    let e : first + suc count ≡ (first + count) + 1 = omega arith in
    rw e (spared_on trees (first + count) at text flags budget cost enough (spared count (omega arith))
    ∙ spared_run trees first at text flags budget cost count enough (λ j low. spared j (omega arith)))

-- by the bits of a word
pub spared_bits : (trees : List Tree) (first from count at : ℕ) (text : List ℕ) (flags : Flags)
    (budget cost word : ℕ) → cost ≤ budget → IsWordHere trees text at first cost word → from + count ≤ 64 → ((j : ℕ) → j < count → bit_at word (from + j) ≡ 0) →
    first_from trees (first + from + count) at text flags budget ≡ first_from trees (first + from) at text flags budget
spared_bits trees first from count at text flags budget cost word enough is within zeros =
    spared_run trees (first + from) at text flags budget cost count enough (λ j low.
    let e : first + from + j ≡ first + (from + j) = omega arith in
    rw e (is.spares (from + j) (omega arith) (zeros j low)))

-- where all are passed
pub none_from : (trees : List Tree) (index at : ℕ) (text : List ℕ) (flags : Flags) (budget : ℕ) → length trees ≤ index
    → first_from trees index at text flags budget ≡ None
none_from trees index at text flags budget high = let none : drop index trees ≡ [] =
    drop_all index trees high in rw none refl

pub passed : (trees : List Tree) (index at : ℕ) (text : List ℕ) (flags : Flags) (old new : Worked)
    → length trees ≤ index → GoesOn trees 0 index at text flags old new → IsPassed trees at text flags old new
passed trees index at text flags old new high on =
    record { missed = sym on.missed ∙ none_from trees index at text flags old.budget high; same = on.same }

-- what one attempt decides

outcome_told : (ran : Ran) → outcome_of ran ≡ outcomes.Miss → is_no_miss ran ≡ false
outcome_told (Hit at captures left) e = cc
outcome_told (Miss left) e = refl
outcome_told Spent e = cc

pub goes_on_by : (trees : List Tree) (index at : ℕ) (text : List ℕ) (flags : Flags) (old new : Worked) (tree : Tree)
    → index < length trees → get_or trees index tree ≡ tree →
    outcome_of (attempt tree text at flags old.budget) ≡ outcomes.Miss →
    new ≡ record old { hit = last_hit_captures (attempt tree text at flags old.budget) old.hit } →
    GoesOn trees index (index + 1) at text flags old new
goes_on_by trees index at text flags old new tree low is miss work =
    record {
      missed = misses_on trees index at text flags old.budget tree low is
          (outcome_told (attempt tree text at flags old.budget) miss);
      same =
          by_ran (attempt tree text at flags old.budget) miss work;
    }
  where
    by_ran : (ran : Ran) → outcome_of ran ≡ outcomes.Miss → new ≡ record old { hit = last_hit_captures ran old.hit }
        → new ≡ old
    by_ran (Hit at captures left) e w = cc
    by_ran (Miss left) e w = w
    by_ran Spent e w = cc

pub hits_by : (trees : List Tree) (index at : ℕ) (text : List ℕ) (flags : Flags) (old new : Worked) (tree : Tree)
    → index < length trees → get_or trees index tree ≡ tree →
    outcome_of (attempt tree text at flags old.budget) ≡ outcomes.Hit →
    new ≡ record old { hit = last_hit_captures (attempt tree text at flags old.budget) old.hit } →
    length new.hit ≡ tree.groups + 1 → ((n : ℕ) → IfSome (capture_of new.hit n) (IsPart (length text)))
    → IsSomeAnd (capture_of new.hit 0) (λ place. place.from ≡ at) →
    IsDecided trees index at text flags old new (found.At index)
hits_by trees index at text flags old new tree low is hit work groups parts whole =
    let decides : first_from trees index at text flags old.budget
    ≡ Some (record { place = at; index = index; tree = tree }) =
    decides_at trees index at text flags old.budget tree low is (told (attempt tree text at flags old.budget) hit) in
    let there : slice_get trees index ≡ Some tree = slice_get-get_or trees index tree low ∙ ap Some is in
    record {
      pair = record { place = at; index = index; tree = tree };
      decides = decides;
      found = rw decides (found_told (attempt tree text at flags old.budget) hit);
      work = rw decides work;
      names = low;
      groups = rw there groups;
      captures = parts;
      whole = whole;
    }
  where
    told : (ran : Ran) → outcome_of ran ≡ outcomes.Hit → is_no_miss ran ≡ true
    told (Hit at captures left) e = refl
    told (Miss left) e = cc
    told Spent e = refl

    found_told : (ran : Ran) → outcome_of ran ≡ outcomes.Hit → found.At index
        ≡ answer_by (record { place = at; index = index; tree = tree }) ran
    found_told (Hit to captures left) e = refl
    found_told (Miss left) e = cc
    found_told Spent e = cc

pub spent_by : (trees : List Tree) (index at : ℕ) (text : List ℕ) (flags : Flags) (old new : Worked) (tree : Tree)
    → index < length trees → get_or trees index tree ≡ tree →
    outcome_of (attempt tree text at flags old.budget) ≡ outcomes.Spent →
    new ≡ record old { hit = last_hit_captures (attempt tree text at flags old.budget) old.hit } →
    IsDecided trees index at text flags old new (found.Spent index at)
spent_by trees index at text flags old new tree low is spent work =
    let decides : first_from trees index at text flags old.budget
    ≡ Some (record { place = at; index = index; tree = tree }) =
    decides_at trees index at text flags old.budget tree low is (told (attempt tree text at flags old.budget) spent) in
    record {
      pair = record { place = at; index = index; tree = tree };
      decides = decides;
      found = rw decides (found_told (attempt tree text at flags old.budget) spent);
      work = rw decides work;
      names = (low, omega arith, omega arith);
      groups = tt;
      captures = tt;
      whole = tt;
    }
  where
    told : (ran : Ran) → outcome_of ran ≡ outcomes.Spent → is_no_miss ran ≡ true
    told (Hit at captures left) e = refl
    told (Miss left) e = cc
    told Spent e = refl

    found_told : (ran : Ran) → outcome_of ran ≡ outcomes.Spent → found.Spent index at
        ≡ answer_by (record { place = at; index = index; tree = tree }) ran
    found_told (Hit to captures left) e = cc
    found_told (Miss left) e = cc
    found_told Spent e = refl

-- one behind the other

pub on_behind : (trees : List Tree) (first index next at : ℕ) (text : List ℕ) (flags : Flags) (old mid new : Worked) →
    GoesOn trees first index at text flags old mid → GoesOn trees index next at text flags mid new
    → GoesOn trees first next at text flags old new
on_behind trees first index next at text flags old mid new one other =
    let Other : Worked → Type 0 = λ w. first_from trees next at text flags w.budget
    ≡ first_from trees index at text flags w.budget in
    record { missed = subst Other one.same other.missed ∙ one.missed; same = other.same ∙ one.same }

pub decided_behind : (trees : List Tree) (first index at : ℕ) (text : List ℕ) (flags : Flags) (old mid new : Worked)
    (result : Found) →
    GoesOn trees first index at text flags old mid → IsDecided trees index at text flags mid new result
    → IsDecided trees first at text flags old new result
decided_behind trees first index at text flags old mid new result on is =
    let Is : Worked → Type 0 = λ w. IsDecided trees index at text flags w new result in
    let now : IsDecided trees index at text flags old new result = subst Is on.same is in
    record {
      pair = now.pair;
      decides = sym on.missed ∙ now.decides;
      found = rw (← on.missed) now.found;
      work = rw (← on.missed) now.work;
      names = now.names;
      groups = now.groups;
      captures = now.captures;
      whole = now.whole;
    }

-- patterns that are spared are passed
pub skip_on : (trees : List Tree) (first index count at : ℕ) (text : List ℕ) (flags : Flags) (old now : Worked)
    (cost word : ℕ) →
    cost ≤ old.budget → IsWordHere trees text at first cost word → first ≤ index
    → (index - first) + count ≤ 64 →
    ((j : ℕ) → j < count → bit_at word ((index - first) + j) ≡ 0) → GoesOn trees first index at text flags old now →
    GoesOn trees first (index + count) at text flags old now
skip_on trees first index count at text flags old now cost word enough is low within zeros on =
    let e : first + (index - first) ≡ index = omega arith in
    let run : first_from trees (first + (index - first) + count) at text flags old.budget
    ≡ first_from trees (first + (index - first)) at text flags old.budget =
    spared_bits trees first (index - first) count at text flags old.budget cost word
    enough is within zeros in
    record { missed = (rw e at run) ∙ on.missed; same = on.same }

-- behind the last pattern all numbers are alike
pub end_on : (trees : List Tree) (first index next at : ℕ) (text : List ℕ) (flags : Flags) (old now : Worked)
    → length trees ≤ index → length trees ≤ next →
    GoesOn trees first index at text flags old now → GoesOn trees first next at text flags old now
end_on trees first index next at text flags old now high high' on =
    record {
      missed = none_from trees next at text flags old.budget high'
          ∙ sym (none_from trees index at text flags old.budget high) ∙ on.missed;
      same = on.same;
    }

pub on_if_none : (P : Type 0) (o : Option Found) → is_some o ≡ false → IfNone o P → P
on_if_none P None e p = p
on_if_none P (Some x) e p = absurd (true≢false e)

pub if_decided : (P Q : Found → Type 0) (o : Option Found) → ((f : Found) → P f → Q f) → IfSome o P → IfSome o Q
if_decided P Q None f p = tt
if_decided P Q (Some x) f p = f x p
