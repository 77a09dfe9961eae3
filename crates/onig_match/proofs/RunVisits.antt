-- How many visits a greedy repeat of a single character takes, and where it goes on: so many iterations take two each.
use Rattle.std.proofs.Common.{◌≡◌, ℕ, zero, suc, ◌+◌, ◌-◌, ◌<◌, ◌≤◌, ◌==◌, List, [], ◌∷◌, cond, refl}
use Rattle.std.proofs.Common.{◌∙◌, arith}
use Rattle.std.specs.Prelude.{Bool, true, false, nat_lt, ◌&&◌, Option, Some, None, slice_get}
use Rattle.std.proofs.lemmas.Bool.{lt-ltb, le-ltb, ltb-true, ltb-false}
use Rattle.char_sets.specs.Ranges.{in_set}
use Rattle.char_sets.specs.declared.char_set.CharRange.{CharRange}
use Rattle.pattern_defs.specs.declared.nodes.ListId.{ListId}
use Rattle.pattern_defs.specs.declared.nodes.PatNode.TheVariants.{One}
use Rattle.pattern_defs.specs.Patterns.{nodes_of, AreBounds}
use Rattle.pattern_defs.specs.Attempt.{Subject, Captures, Todo, Node, Again, Ran, Hit, Miss, Spent, Going, before}
use Rattle.pattern_defs.specs.Attempt.{or_else, is_char, is_greatest, repeats}
use Rattle.onig_match.specs.Goes.{goes}
use Rattle.onig_match.specs.Machine.{given_back}
use Rattle.onig_match.specs.Sound.{IsRun}
use Rattle.onig_match.proofs.VisitCounts.{goes-zero, goes-act}
use Rattle.onig_match.proofs.VisitSteps.{or_else_miss, or_else_two}
use Rattle.onig_match.proofs.ReturnSteps.{or_else-next}

-- one place more to go back to, below the others

or_else-joined : (ran : Ran) (f g : ℕ → Ran) → or_else (or_else ran f) g ≡ or_else ran (λ left. or_else (f left) g)
or_else-joined (Hit at captures left) f g = refl
or_else-joined (Miss left) f g = refl
or_else-joined Spent f g = refl

given_back-more : (go : Going) (todo : List Todo) (more at low : ℕ) (captures : Captures) (left : ℕ) →
    at ≡ low + suc more →
    or_else (given_back go todo more at captures left) (λ rest. go todo low captures rest)
    ≡ given_back go todo (suc more) at captures left
given_back-more go todo zero at low captures left e = let under : at - 1 ≡ low = omega arith in rw under refl
given_back-more go todo (suc more) at low captures left e =
    or_else-joined (go todo at captures left) (λ rest. given_back go todo more (at - 1) captures rest)
    (λ rest. go todo low captures rest)
    ∙ or_else-next (go todo at captures left)
    (λ rest. or_else (given_back go todo more (at - 1) captures rest) (λ last. go todo low captures last))
    (λ rest. given_back go todo (suc more) (at - 1) captures rest)
    (λ rest. given_back-more go todo more (at - 1) low captures rest (omega arith))

-- a run begun after some iterations
pub record Runs (p : ℕ → Bool) (text : List ℕ) (most : Option ℕ) (count at taken : ℕ) : Type 0 where
  pub all : (k : ℕ) → k < taken → is_char p (slice_get text (at + k)) ≡ true
  pub may : (k : ℕ) → k < taken → is_greatest most (count + k) ≡ false
  pub ends : is_greatest most (count + taken) ≡ false → is_char p (slice_get text (at + taken)) ≡ false

runs-next : (p : ℕ → Bool) (text : List ℕ) (most : Option ℕ) (count at taken : ℕ) →
    Runs p text most count at (suc taken) → Runs p text most (count + 1) (at + 1) taken
runs-next p text most count at taken run =
    let further : (n k : ℕ) → n + 1 + k ≡ n + suc k = λ n k. omega arith in
    record {
      all = λ k low. rw (further at k) (run.all (suc k) (omega arith));
      may = λ k low. rw (further count k) (run.may (suc k) (omega arith));
      ends = rw (further at taken, further count taken) run.ends;
    }

-- the looks at which a run ended: one, where it is not at its greatest number
abbrev pub last_look : Option ℕ → ℕ → ℕ
last_look most taken = cond (is_greatest most taken) 0 1

later_number : (n : ℕ) → (n + 1 == n) ≡ false
later_number n = grind arith

never : (b : Bool) → (b && false) ≡ false
never true = refl
never false = refl

-- whether the last iteration took nothing
abbrev pub is_stuck : ℕ → ℕ → ℕ → Bool
is_stuck count begun at = nat_lt 0 count && (at == begun)

-- a single character never takes nothing
moves : (count at : ℕ) → is_stuck (count + 1) at (at + 1) ≡ false
moves count at = rw (later_number at) (never (nat_lt 0 (count + 1)))

-- a number below the least isn't the greatest
pub not_greatest : (least : ℕ) (most : Option ℕ) (taken : ℕ) → AreBounds least most → taken < least →
    is_greatest most taken ≡ false
not_greatest least None taken bounds low = refl
not_greatest least (Some most) taken bounds low = grind arith

pub runs_first : (p : ℕ → Bool) (text : List ℕ) (most : Option ℕ) (at taken : ℕ) → IsRun p text at most taken →
    Runs p text most 0 at taken
runs_first p text most at taken run =
    let from : (n : ℕ) → 0 + n ≡ n = λ n. omega arith in
    record {
      all = run.all;
      may = λ k low. rw (from k) (run.may k low);
      ends = rw (from taken) run.ends;
    }

-- for a list of one single character, and a way to go on behind its repeat
module _ (s : Subject) (set : List CharRange) (body : ListId) (least : ℕ) (most : Option ℕ) (rest : List Todo)
    (captures : Captures) (is : nodes_of s.lists body ≡ One set ∷ []) where
  -- whether a character of the set stands at a place
  abbrev pub stands : ℕ → Bool
  stands at = is_char (in_set set) (slice_get s.text at)

  -- what is done at the repeat after some iterations, of which the last began at a place
  abbrev pub repeated : ℕ → ℕ → ℕ → ℕ → Ran
  repeated count begun at left = repeats s (goes s) body least most true count begun rest at captures left

  -- one iteration more
  abbrev iterated : ℕ → ℕ → ℕ → Ran
  iterated count at left =
      goes s (before s.lists body (Again body least most true (count + 1) at ∷ rest)) at captures left

  abbrev goes_behind : ℕ → ℕ → Ran
  goes_behind at left = goes s rest at captures left

  iterated-zero : (count at : ℕ) → iterated count at 0 ≡ Spent
  iterated-zero count at = goes-zero s _ at captures

  iterated-none : (count at left : ℕ) → stands at ≡ false → iterated count at (suc left) ≡ Miss left
  iterated-none count at left ends =
      let again : List Todo = Again body least most true (count + 1) at ∷ rest in
      rw (is, goes-act s (Node (One set)) again at captures left, ends) refl

  iterated-one : (count at left : ℕ) → stands at ≡ true →
      iterated count at (suc left) ≡ goes s (Again body least most true (count + 1) at ∷ rest) (at + 1) captures left
  iterated-one count at left there =
      let again : List Todo = Again body least most true (count + 1) at ∷ rest in
      rw (is, goes-act s (Node (One set)) again at captures left, there) refl

  iterated-short : (count at : ℕ) → stands at ≡ true → iterated count at 1 ≡ Spent
  iterated-short count at there = iterated-one count at 0 there ∙ goes-zero s _ (at + 1) captures

  iterated-more : (count at left : ℕ) → stands at ≡ true →
      iterated count at (suc (suc left)) ≡ repeated (count + 1) at (at + 1) left
  iterated-more count at left there =
      iterated-one count at (suc left) there
      ∙ goes-act s (Again body least most true (count + 1) at) rest (at + 1) captures left

  -- what is done at a repeat whose last iteration took something
  repeated-below : (count begun at left : ℕ) → is_stuck count begun at ≡ false → count < least →
      repeated count begun at left ≡ iterated count at left
  repeated-below count begun at left free low = rw (free, lt-ltb count least low) (or_else_miss _)

  repeated-done : (count begun at left : ℕ) → is_stuck count begun at ≡ false → least ≤ count →
      is_greatest most count ≡ true → repeated count begun at left ≡ goes_behind at left
  repeated-done count begun at left free low full = rw (free, le-ltb count least low, full) (or_else_miss _)

  repeated-on : (count begun at left : ℕ) → is_stuck count begun at ≡ false → least ≤ count →
      is_greatest most count ≡ false →
      repeated count begun at left ≡ or_else (iterated count at left) (λ rest. goes_behind at rest)
  repeated-on count begun at left free low more =
      rw (free, le-ltb count least low, more) (or_else_two (iterated count at left) (λ rest. goes_behind at rest))

  -- all that were taken were enough

  enough-none : (b : Bool) (count begun at left : ℕ) → is_greatest most count ≡ b →
      is_stuck count begun at ≡ false → least ≤ count → (is_greatest most count ≡ false → stands at ≡ false) →
      repeated count begun at (left + cond b 0 1) ≡ goes_behind at left
  enough-none true count begun at left full free low ends =
      let same : left + 0 ≡ left = omega arith in
      rw same (repeated-done count begun at left free low full)
  enough-none false count begun at left more free low ends =
      let one : left + 1 ≡ suc left = omega arith in
      rw one (repeated-on count begun at (suc left) free low more ∙ rw (iterated-none count at left (ends more)) refl)

  -- one that was taken, before those that follow it
  enough-next : (b : Bool) (taken count begun at more left : ℕ) → nat_lt count least ≡ b →
      is_stuck count begun at ≡ false → is_greatest most count ≡ false → stands at ≡ true →
      repeated (count + 1) at (at + 1) more
      ≡ given_back (goes s) rest (taken - (least - (count + 1))) (at + 1 + taken) captures left →
      repeated count begun at (suc (suc more))
      ≡ given_back (goes s) rest (suc taken - (least - count)) (at + suc taken) captures left
  enough-next true taken count begun at more left below free may here later =
      let low : count < least = ltb-true count least below in
      let places : taken - (least - (count + 1)) ≡ suc taken - (least - count) = omega arith in
      let end : at + 1 + taken ≡ at + suc taken = omega arith in
      repeated-below count begun at (suc (suc more)) free low ∙ iterated-more count at more here ∙ later
      ∙ rw (places, end) refl
  enough-next false taken count begun at more left below free may here later =
      let low : least ≤ count = ltb-false count least below in
      let places : taken - (least - (count + 1)) ≡ taken = omega arith in
      let all : suc taken - (least - count) ≡ suc taken = omega arith in
      let end : at + 1 + taken ≡ at + suc taken = omega arith in
      let later : repeated (count + 1) at (at + 1) more
      ≡ given_back (goes s) rest taken (at + suc taken) captures left = rw (places, end) at later in
      repeated-on count begun at (suc (suc more)) free low may
      ∙ rw (iterated-more count at more here, later, all)
      (given_back-more (goes s) rest taken (at + suc taken) at captures left refl)

  pub run-enough : (taken count begun at left : ℕ) → is_stuck count begun at ≡ false →
      Runs (in_set set) s.text most count at taken → least ≤ count + taken →
      repeated count begun at (left + (taken + taken + last_look most (count + taken)))
      ≡ given_back (goes s) rest (taken - (least - count)) (at + taken) captures left
  run-enough zero count begun at left free run low =
      let same : count + 0 ≡ count = omega arith in
      let here : at + 0 ≡ at = omega arith in
      let looks : 0 + 0 + last_look most count ≡ last_look most count = omega arith in
      let none : 0 - (least - count) ≡ 0 = omega arith in
      let ends : is_greatest most count ≡ false → stands at ≡ false = rw (same, here) at run.ends in
      rw (same, here, looks, none)
      (enough-none (is_greatest most count) count begun at left refl free (omega arith) ends)
  run-enough (suc taken) count begun at left free run low =
      let further : count + suc taken ≡ count + 1 + taken = omega arith in
      let visits : left + (suc taken + suc taken + last_look most (count + 1 + taken))
      ≡ suc (suc (left + (taken + taken + last_look most (count + 1 + taken)))) = omega arith in
      let first : at + 0 ≡ at = omega arith in
      let none : count + 0 ≡ count = omega arith in
      let here : stands at ≡ true = rw first at (run.all 0 (omega arith)) in
      let may : is_greatest most count ≡ false = rw none at (run.may 0 (omega arith)) in
      rw (further, visits)
      (enough-next (nat_lt count least) taken count begun at
      (left + (taken + taken + last_look most (count + 1 + taken))) left refl free may here
      (run-enough taken (count + 1) at (at + 1) left (moves count at)
      (runs-next (in_set set) s.text most count at taken run) (omega arith)))

  -- fewer were taken than there have to be

  pub run-few : (taken count begun at left : ℕ) → is_stuck count begun at ≡ false →
      Runs (in_set set) s.text most count at taken → count + taken < least →
      is_greatest most (count + taken) ≡ false →
      repeated count begun at (left + (taken + taken + 1)) ≡ Miss left
  run-few zero count begun at left free run low more =
      let same : count + 0 ≡ count = omega arith in
      let here : at + 0 ≡ at = omega arith in
      let one : left + (0 + 0 + 1) ≡ suc left = omega arith in
      let ends : stands at ≡ false = rw here at run.ends more in
      rw one
      (repeated-below count begun at (suc left) free (omega arith) ∙ iterated-none count at left ends)
  run-few (suc taken) count begun at left free run low more =
      let further : count + suc taken ≡ count + 1 + taken = omega arith in
      let visits : left + (suc taken + suc taken + 1) ≡ suc (suc (left + (taken + taken + 1))) = omega arith in
      let first : at + 0 ≡ at = omega arith in
      let here : stands at ≡ true = rw first at (run.all 0 (omega arith)) in
      rw visits
      (repeated-below count begun at (suc (suc (left + (taken + taken + 1)))) free (omega arith)
      ∙ iterated-more count at (left + (taken + taken + 1)) here
      ∙ run-few taken (count + 1) at (at + 1) left (moves count at)
      (runs-next (in_set set) s.text most count at taken run) (omega arith) (rw further at more))

  -- the visits end within the run

  repeated-spent : (b : Bool) (count begun at left : ℕ) → nat_lt count least ≡ b → is_stuck count begun at ≡ false →
      is_greatest most count ≡ false → iterated count at left ≡ Spent → repeated count begun at left ≡ Spent
  repeated-spent true count begun at left below free may none =
      repeated-below count begun at left free (ltb-true count least below) ∙ none
  repeated-spent false count begun at left below free may none =
      repeated-on count begun at left free (ltb-false count least below) may ∙ rw none refl

  looks_none : (b : Bool) (left : ℕ) → left < 0 + 0 + cond b 0 1 → (b ≡ false) × (left ≡ 0)
  looks_none true left low = absurd (omega arith)
  looks_none false left low = (refl, omega arith)

  pub run-spent : (taken count begun at left : ℕ) → is_stuck count begun at ≡ false →
      Runs (in_set set) s.text most count at taken → left < taken + taken + last_look most (count + taken) →
      repeated count begun at left ≡ Spent
  run-spent zero count begun at left free run low =
      let same : count + 0 ≡ count = omega arith in
      let none : (is_greatest most count ≡ false) × (left ≡ 0) =
      looks_none (is_greatest most count) left (rw same at low) in
      rw none.1 (repeated-spent (nat_lt count least) count begun at 0 refl free none.0 (iterated-zero count at))
  run-spent (suc taken) count begun at zero free run low =
      let none : count + 0 ≡ count = omega arith in
      repeated-spent (nat_lt count least) count begun at 0 refl free (rw none at (run.may 0 (omega arith)))
      (iterated-zero count at)
  run-spent (suc taken) count begun at (suc zero) free run low =
      let none : count + 0 ≡ count = omega arith in
      let first : at + 0 ≡ at = omega arith in
      repeated-spent (nat_lt count least) count begun at 1 refl free (rw none at (run.may 0 (omega arith)))
      (iterated-short count at (rw first at (run.all 0 (omega arith))))
  run-spent (suc taken) count begun at (suc (suc left)) free run low =
      let none : count + 0 ≡ count = omega arith in
      let first : at + 0 ≡ at = omega arith in
      let further : count + suc taken ≡ count + 1 + taken = omega arith in
      let here : stands at ≡ true = rw first at (run.all 0 (omega arith)) in
      let fewer : left < taken + taken + last_look most (count + 1 + taken) =
      omega (
        arith,
        (let l : suc (suc left) < suc taken + suc taken + last_look most (count + 1 + taken) =
            rw further at low in l),
      ) in
      repeated-spent (nat_lt count least) count begun at (suc (suc left)) refl free
      (rw none at (run.may 0 (omega arith)))
      (iterated-more count at left here
      ∙ run-spent taken (count + 1) at (at + 1) left (moves count at)
      (runs-next (in_set set) s.text most count at taken run) fewer)
