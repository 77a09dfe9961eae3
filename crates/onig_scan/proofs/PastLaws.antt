-- What can stand before a place where nodes match, by cases on the first of them.
use Rattle.std.proofs.Common.{◌≡◌, ℕ, zero, suc, ◌+◌, ◌-◌, ◌<◌, ◌≤◌, Bool, true, false, List, [], ◌∷◌, ◌++◌, map, length, get_or}
use Rattle.std.proofs.Common.{Option, Some, None, refl, sym, ap, ◌∙◌, subst, arith}
use Rattle.std.proofs.lemmas.Bool.{false≢true, lt-ltb}
use Rattle.std.proofs.lemmas.Bool.Decides.{nat_tests}
use Rattle.std.specs.Prelude.{replicate, slice_get, nat_lt, nat_le, IfSome, IsSomeAnd, not, ◌==◌, ◌&&◌, ◌||◌}
use Rattle.char_sets.specs.Named.{is_word}
use Rattle.char_sets.specs.Ranges.{in_set, IsSetOf}
use Rattle.char_sets.specs.declared.char_set.CharRange.{CharRange}
use Rattle.pattern_defs.specs.declared.nodes.ListId.{ListId}
use Rattle.pattern_defs.specs.declared.nodes.Arm.{Arm}
use Rattle.pattern_defs.specs.declared.nodes.Anchor.{Anchor}
use Rattle.pattern_defs.specs.declared.nodes.Anchor.TheVariants.{LineStart, WordEdge}
use Rattle.pattern_defs.specs.declared.nodes.PatNode.{PatNode}
use Rattle.pattern_defs.specs.declared.nodes.PatNode.TheVariants.{One, At, Choice, Group, Repeat, Ahead, Behind, Atomic}
use Rattle.pattern_defs.specs.declared.outcomes.Flags.{Flags}
use Rattle.pattern_defs.specs.Patterns.{NodeLists, Tree, nodes_of}
use Rattle.pattern_defs.specs.Attempt.{Subject, Todo, Node, Close, Again, Captures, Ran, Hit, Miss, Spent, Going}
use Rattle.pattern_defs.specs.Attempt.{go_on, before, with_whole, is_char, char_before, holds_at, is_word_edge}
use Rattle.pattern_defs.specs.Attempt.{repeat_ways, is_greatest, arms_run, looked, where_holds, or_else}
use Rattle.onig_scan.specs.declared.front.Front.{Front}
use Rattle.onig_scan.specs.Runs.{EndsWith, EndsFrom, AllEnd, Nowhere}
use Rattle.onig_scan.specs.Bounds.{subject_of, IsBound, AreArmBounds}
use Rattle.onig_scan.specs.Fronts.{IsWithin, IsWider}
use Rattle.onig_scan.specs.Pasts.{may_precede, IsUnfit, IsPast, ArePasts, IsPassing, IsPastOfAll}
use Rattle.onig_scan.proofs.Runs.{at_more, ends_else, ends_where, ends_looked, ends_unseen, from_act, misses_now}
use Rattle.onig_scan.proofs.Runs.{go_on-step, go_on-empty, ends_At, ends_Group, ends_Choice, ends_Ahead}
use Rattle.onig_scan.proofs.Runs.{ends_Repeat, ends_needed, ends_whole, ends_narrow}
use Rattle.onig_scan.proofs.BoundLaws.{own_bound, arms_bound}
use Rattle.onig_scan.proofs.FrontLaws.{if_found, more_front}

-- a smaller set is unfit where a larger one is

unfit_within : (small large : List CharRange) (begins ends : Bool) → IsWithin small large
    → (begins ≡ true → ends ≡ true) → (o : Option ℕ) → IfSome o (λ c. c < 1_114_112) → may_precede large ends o ≡ false
    → may_precede small begins o ≡ false
unfit_within small large false ends within wider None scalar none = refl
unfit_within small large true ends within wider None scalar none =
    let there : ends ≡ true = wider refl in
    absurd (false≢true (sym none ∙ there))
unfit_within small large begins ends within wider (Some c) scalar none = by_test (in_set small c) refl
  where
    by_test : (b : Bool) → in_set small c ≡ b → b ≡ false
    by_test false is = refl
    by_test true is = absurd (false≢true (sym none ∙ within c scalar is))

pub IsPast-wider : (inside : Bool) (lists : NodeLists) (nodes : List PatNode) (small large : Front) (cost : ℕ)
    → IsWider small large → IsPast inside lists nodes small cost → IsPast inside lists nodes large cost
IsPast-wider inside lists nodes small large cost wider is =
    record {
      past = λ text flags rest. ends_narrow (map Node nodes ++ rest) cost
          (λ at unfit. record {
            scalar = unfit.scalar;
            unfit = unfit_within small.set large.set small.stays large.stays wider.set wider.stays
                (char_before text at) unfit.scalar unfit.unfit;
            asked = unfit.asked;
          })
          (λ to there. there) (is.past text flags rest);
    }

pub ArePasts-wider : (inside : Bool) (lists : NodeLists) (ids : List ListId) (small large : Front) (cost : ℕ)
    → IsWider small large → ArePasts inside lists ids small cost → ArePasts inside lists ids large cost
ArePasts-wider inside lists [] small large cost wider are = tt
ArePasts-wider inside lists (id ∷ ids) small large cost wider are = (
  are.0,
  are.1,
  are.2,
  IsPast-wider inside lists (nodes_of lists id) small large are.0 wider are.3,
  ArePasts-wider inside lists ids small large are.1 wider are.4,
)

pub ArePasts-push : (inside : Bool) (lists : NodeLists) (ids : List ListId) (id : ListId) (f : Front)
    (cost last all : ℕ) → all ≡ cost + last → ArePasts inside lists ids f cost
    → IsPast inside lists (nodes_of lists id) f last → ArePasts inside lists (ids ++ id ∷ []) f all
ArePasts-push inside lists [] id f cost last all sum are is = (last, 0, omega arith, is, tt)
ArePasts-push inside lists (i ∷ ids) id f cost last all sum are is =
    let fits : are.0 + are.1 ≤ cost = are.2 in (
      are.0,
      are.1 + last,
      omega arith,
      are.3,
      ArePasts-push inside lists ids id f are.1 last (are.1 + last) refl are.4 is,
    )

-- what the first node tells, and what those behind it tell

pub past_first : (inside : Bool) (lists : NodeLists) (node : PatNode) (nodes : List PatNode) (f : Front) (cost : ℕ)
    → IsPast inside lists (node ∷ []) f cost → IsPast inside lists (node ∷ nodes) f cost
past_first inside lists node nodes f cost is =
    record { past = λ text flags rest. is.past text flags (map Node nodes ++ rest) }

-- the number of its visits is no part of what it says
pub IsPast-cost : (inside : Bool) (lists : NodeLists) (nodes : List PatNode) (f : Front) (visits cost : ℕ)
    → IsPast inside lists nodes f cost → IsPast inside lists nodes (record f { cost = visits }) cost
IsPast-cost inside lists nodes f visits cost is = record { past = is.past }

-- what is known of one is known of another at so many visits more
pub past_more : (inside : Bool) (lists : NodeLists) (nodes : List PatNode) (P : Front → Type 0) (visits : ℕ)
    (front more : Option Front) → ((f : Front) → P f → IsPast inside lists nodes f (f.cost + visits)) → IfSome front P →
    IfSome more (λ f. IsSomeAnd front (λ g. f ≡ record g { cost = g.cost + visits })) →
    IfSome more (λ f. IsPast inside lists nodes f f.cost)
past_more inside lists nodes P visits front more step is how =
    more_front (λ f cost. IsPast inside lists nodes f cost) visits front more (if_found _ _ front step is)
    (λ f cost one. IsPast-cost inside lists nodes f (f.cost + visits) cost one) how

-- nodes that hold a list

pub IsPast-Group : (inside : Bool) (lists : NodeLists) (number : ℕ) (body : ListId) (f : Front) (cost : ℕ)
    → IsPast inside lists (nodes_of lists body) f cost → IsPast inside lists (Group number body ∷ []) f (cost + 1)
IsPast-Group inside lists number body f cost is =
    record {
      past = λ text flags rest. ends_Group number body rest cost
          (λ at. is.past text flags (Close number at ∷ rest));
    }

pub IsPast-Atomic : (inside : Bool) (lists : NodeLists) (body : ListId) (f : Front) (cost : ℕ)
    → IsPast inside lists (nodes_of lists body) f cost → IsPast inside lists (Atomic body ∷ []) f (cost + 1)
IsPast-Atomic inside lists body f cost is =
    record { past = λ text flags rest. ends_whole body rest cost (is.past text flags []) }

pub IsPast-Ahead : (inside : Bool) (lists : NodeLists) (body : ListId) (f : Front) (cost : ℕ)
    → IsPast inside lists (nodes_of lists body) f cost → IsPast inside lists (Ahead body true ∷ []) f (cost + 1)
IsPast-Ahead inside lists body f cost is =
    record { past = λ text flags rest. ends_needed body rest cost (is.past text flags []) }

pub IsPast-Repeat : (inside : Bool) (lists : NodeLists) (body : ListId) (least : ℕ) (most : Option ℕ) (greedy : Bool)
    (f : Front) (cost : ℕ) → 0 < least → IsPast inside lists (nodes_of lists body) f cost
    → IsPast inside lists (Repeat body least most greedy ∷ []) f (cost + 1)
IsPast-Repeat inside lists body least most greedy f cost some is =
    record {
      past = λ text flags rest. ends_Repeat body least most greedy rest cost (λ at unfit.
          by_case (subject_of lists text flags) (IsUnfit inside f.set f.stays text)
          (before lists body (Again body least most greedy 1 at ∷ rest)) rest
          (is.past text flags (Again body least most greedy 1 at ∷ rest)) (nat_lt 0 least) (lt-ltb 0 least some)
          (is_greatest most 0) greedy);
    }
  where
    by_case : (s : Subject) (From : ℕ → Type 0) (more rest : List Todo) → EndsFrom s From Nowhere more cost
        → (below : Bool) → below ≡ true → (greatest kind : Bool) →
        AllEnd s From Nowhere (repeat_ways false below greatest kind more rest) cost
    by_case s From more rest one true is greatest kind = (cost, 0, omega arith, one, tt)
    by_case s From more rest one false is greatest kind = absurd (false≢true is)

all_past : (inside : Bool) (lists : NodeLists) (ids : List ListId) (f : Front) (cost : ℕ)
    → ArePasts inside lists ids f cost → (text : List ℕ) (flags : Flags) (rest : List Todo) →
    AllEnd (subject_of lists text flags) (IsUnfit inside f.set f.stays text) Nowhere
    (map (λ id. before lists id rest) ids) cost
all_past inside lists [] f cost are text flags rest = tt
all_past inside lists (id ∷ ids) f cost are text flags rest =
    (are.0, are.1, are.2, (are.3).past text flags rest, all_past inside lists ids f are.1 are.4 text flags rest)

pub IsPast-Choice : (inside : Bool) (lists : NodeLists) (ids : List ListId) (f : Front) (cost : ℕ)
    → ArePasts inside lists ids f cost → IsPast inside lists (Choice ids ∷ []) f (cost + 1)
IsPast-Choice inside lists ids f cost are =
    record { past = λ text flags rest. ends_Choice ids rest cost (all_past inside lists ids f cost are text flags rest) }

-- places that hold or don't

both_true : (a b : Bool) → (a && b) ≡ true → is_word_edge a b ≡ false
both_true true true is = refl
both_true true false is = absurd (false≢true is)
both_true false b is = absurd (false≢true is)

pub IsPast-edge : (lists : NodeLists) (f : Front) → IsPast true lists (At WordEdge ∷ []) f 1
IsPast-edge lists f =
    record {
      past = λ text flags rest. from_act (Node (At WordEdge)) rest 0 (λ fuel at captures left unfit enough fits.
          let none : holds_at WordEdge (subject_of lists text flags) at ≡ false =
          both_true (is_char is_word (char_before text at)) (is_char is_word (slice_get text at)) (unfit.asked refl) in
          ends_where (holds_at WordEdge (subject_of lists text flags) at) (go_on (subject_of lists text flags) fuel) rest
          at captures left 0 (λ holds. absurd (false≢true (sym none ∙ holds))));
    }

pub IsPast-line : (inside : Bool) (lists : NodeLists) (f : Front) → f.stays ≡ true
    → IsSetOf f.set (λ c. nat_le 10 c && nat_le c 10) → IsPast inside lists (At LineStart ∷ []) f 1
IsPast-line inside lists f begins set =
    record {
      past = λ text flags rest. from_act (Node (At LineStart)) rest 0 (λ fuel at captures left unfit enough fits.
          ends_where (holds_at LineStart (subject_of lists text flags) at) (go_on (subject_of lists text flags) fuel)
          rest at captures left 0
          (λ holds. absurd (false≢true (sym (none text flags at unfit.scalar unfit.unfit) ∙ holds))));
    }
  where
    no_feed : (o : Option ℕ) (rest : Bool) → IfSome o (λ c. c < 1_114_112) → may_precede f.set f.stays o ≡ false
        → (is_char (λ n. n == 10) o && rest) ≡ false
    no_feed None rest scalar unfit = refl
    no_feed (Some c) rest scalar unfit =
        let none : (nat_le 10 c && nat_le c 10) ≡ false = sym (set c scalar) ∙ unfit in
        let ne : (c == 10) ≡ false = not_ten c none in
        rw ne refl
      where
        not_ten : (c : ℕ) → (nat_le 10 c && nat_le c 10) ≡ false → (c == 10) ≡ false
        not_ten c none = grind (arith, nat_tests)

    none : (text : List ℕ) (flags : Flags) (at : ℕ) → IfSome (char_before text at) (λ c. c < 1_114_112)
        → may_precede f.set f.stays (char_before text at) ≡ false
        → holds_at LineStart (subject_of lists text flags) at ≡ false
    none text flags zero scalar unfit = absurd (false≢true (sym unfit ∙ begins))
    none text flags (suc at) scalar unfit =
        neither (suc at == 0) (is_char (λ n. n == 10) (slice_get text at) && nat_lt (suc at) (length text)) (some at)
        (no_feed (slice_get text at) (nat_lt (suc at) (length text)) scalar unfit)
      where
        some : (n : ℕ) → (suc n == 0) ≡ false
        some n = grind (arith, nat_tests)

        neither : (a b : Bool) → a ≡ false → b ≡ false → (a || b) ≡ false
        neither false b is other = other
        neither true b is other = absurd (false≢true (sym is))

-- lookbehinds of one character

-- an arm of one character, where it stands
one_hits : (s : Subject) (set : List CharRange) (fuel at : ℕ) (captures : Captures) (left : ℕ) →
    is_char (in_set set) (slice_get s.text at) ≡ true → 2 ≤ left → left ≤ fuel →
    go_on s fuel (Node (One set) ∷ []) at captures left ≡ Hit (at + 1) captures (left - 2)
one_hits s set zero at captures left there enough fits = absurd (omega arith)
one_hits s set (suc zero) at captures left there enough fits = absurd (omega arith)
one_hits s set (suc (suc fuel)) at captures zero there enough fits = absurd (omega arith)
one_hits s set (suc (suc fuel)) at captures (suc zero) there enough fits = absurd (omega arith)
one_hits s set (suc (suc fuel)) at captures (suc (suc left)) there enough fits =
    go_on-step s (suc fuel) (Node (One set)) [] at captures (suc left)
    ∙ rw there (go_on-empty s fuel (at + 1) captures left ∙ ap (Hit (at + 1) captures) (less left))
  where
    less : (n : ℕ) → n ≡ suc (suc n) - 2
    less n = omega arith

-- the arm begins one character before
one_back : (s : Subject) (go : Going) (arm : Arm) (set : List CharRange) (at : ℕ) (captures : Captures) (left : ℕ)
    → arm.length ≡ 1 → nodes_of s.lists arm.body ≡ One set ∷ [] →
    arms_run s go (arm ∷ []) (suc at) captures left
    ≡ or_else (go (Node (One set) ∷ []) at captures left) (λ l. Miss l)
one_back s go arm set at captures left one is =
    rw (one, is) (by_place (nat_le 1 (suc at)) (suc at - 1) (fits at) (less at))
  where
    fits : (n : ℕ) → nat_le 1 (suc n) ≡ true
    fits n = grind (arith, nat_tests)

    less : (n : ℕ) → suc n - 1 ≡ n
    less n = omega arith

    by_place : (b : Bool) (place : ℕ) → b ≡ true → place ≡ at →
        or_else (where_holds b go (Node (One set) ∷ []) place captures left) (λ l. Miss l)
        ≡ or_else (go (Node (One set) ∷ []) at captures left) (λ l. Miss l)
    by_place true place back same = rw same refl
    by_place false place back same = absurd (false≢true back)

-- a list of one arm
pub single_arm : (arms : List Arm) (d : Arm) → 1 ≤ length arms → length arms < 2 → arms ≡ get_or arms 0 d ∷ []
single_arm [] d some few = absurd (omega (arith, some))
single_arm (arm ∷ []) d some few = refl
single_arm (arm ∷ other ∷ arms) d some few = absurd (omega (arith, few))

pub IsPast-unwanted : (inside : Bool) (lists : NodeLists) (arm : Arm) (set : List CharRange) (f : Front)
    → arm.length ≡ 1 → nodes_of lists arm.body ≡ One set ∷ [] → f.stays ≡ true
    → IsSetOf f.set (λ c. not (in_set set c)) → IsPast inside lists (Behind (arm ∷ []) false ∷ []) f 3
IsPast-unwanted inside lists arm set f one is begins all =
    record {
      past = λ text flags rest. from_act (Node (Behind (arm ∷ []) false)) rest 2
          (λ fuel at captures left unfit enough fits.
          by_place text flags rest fuel at captures left unfit.scalar unfit.unfit enough fits);
    }
  where
    there : (o : Option ℕ) → IfSome o (λ c. c < 1_114_112) → may_precede f.set f.stays o ≡ false
        → is_char (in_set set) o ≡ true
    there None scalar unfit = absurd (false≢true (sym unfit ∙ begins))
    there (Some c) scalar unfit = by_test (in_set set c) (sym (all c scalar) ∙ unfit)
      where
        by_test : (b : Bool) → not b ≡ false → b ≡ true
        by_test true e = refl
        by_test false e = absurd (false≢true (sym e))

    seen : (ran : Ran) (s : Subject) (fuel at place : ℕ) (captures : Captures) (left : ℕ) (rest : List Todo)
        → ran ≡ Hit at captures (left - 2) → 2 ≤ left →
        EndsWith Nowhere (looked false (or_else ran (λ l. Miss l)) (go_on s fuel) rest place captures) left 2
    seen ran s fuel at place captures left rest e enough =
        rw e (record { ends = tt; fewer = omega arith; cheap = omega arith })

    by_place : (text : List ℕ) (flags : Flags) (rest : List Todo) (fuel at : ℕ) (captures : Captures) (left : ℕ)
        → IfSome (char_before text at) (λ c. c < 1_114_112)
        → may_precede f.set f.stays (char_before text at) ≡ false → 2 ≤ left → left ≤ fuel →
        EndsWith Nowhere (looked false (arms_run (subject_of lists text flags) (go_on (subject_of lists text flags) fuel)
        (arm ∷ []) at captures left) (go_on (subject_of lists text flags) fuel) rest at captures) left 2
    by_place text flags rest fuel zero captures left scalar unfit enough fits =
        absurd (false≢true (sym unfit ∙ begins))
    by_place text flags rest fuel (suc at) captures left scalar unfit enough fits =
        let s : Subject = subject_of lists text flags in
        let Ends : Ran → Type 0 = λ ran. EndsWith Nowhere (looked false ran (go_on s fuel) rest (suc at) captures) left
        2 in
        subst Ends (sym (one_back s (go_on s fuel) arm set at captures left one is))
        (seen (go_on s fuel (Node (One set) ∷ []) at captures left) s fuel (at + 1) (suc at) captures left rest
        (one_hits s set fuel at captures left (there (slice_get text at) scalar unfit) enough fits) enough)

pub IsPast-wanted : (inside : Bool) (lists : NodeLists) (arm : Arm) (f : Front) → arm.length ≡ 1
    → nodes_of lists arm.body ≡ One f.set ∷ [] → IsPast inside lists (Behind (arm ∷ []) true ∷ []) f 3
IsPast-wanted inside lists arm f one is =
    record {
      past = λ text flags rest. from_act (Node (Behind (arm ∷ []) true)) rest 2
          (λ fuel at captures left unfit enough fits.
          ends_unseen _ (go_on (subject_of lists text flags) fuel) rest at captures left 2
          (by_place text flags fuel at captures left unfit.scalar unfit.unfit enough fits));
    }
  where
    none : (o : Option ℕ) → may_precede f.set f.stays o ≡ false → is_char (in_set f.set) o ≡ false
    none None unfit = refl
    none (Some c) unfit = unfit

    misses : (s : Subject) (fuel at : ℕ) (captures : Captures) (left : ℕ) →
        is_char (in_set f.set) (slice_get s.text at) ≡ false → 2 ≤ left → left ≤ fuel →
        EndsWith Nowhere (go_on s fuel (Node (One f.set) ∷ []) at captures left) left 1
    misses s fuel at captures left without enough fits =
        let At : ℕ → Type 0 = λ p. is_char (in_set f.set) (slice_get s.text p) ≡ false in
        let ends : EndsFrom s At Nowhere (Node (One f.set) ∷ []) 1 =
        from_act (Node (One f.set)) [] 0 (λ fuel at captures left here enough fits.
        ends_where (is_char (in_set f.set) (slice_get s.text at)) (go_on s fuel) [] (at + 1) captures left 0
        (λ holds. absurd (false≢true (sym here ∙ holds)))) in
        ends.ends fuel at captures left without (omega arith) fits

    by_place : (text : List ℕ) (flags : Flags) (fuel at : ℕ) (captures : Captures) (left : ℕ)
        → IfSome (char_before text at) (λ c. c < 1_114_112)
        → may_precede f.set f.stays (char_before text at) ≡ false → 2 ≤ left → left ≤ fuel →
        EndsWith Nowhere (arms_run (subject_of lists text flags) (go_on (subject_of lists text flags) fuel) (arm ∷ []) at
        captures left) left 2
    by_place text flags fuel zero captures left scalar unfit enough fits = rw one (misses_now left 2)
    by_place text flags fuel (suc at) captures left scalar unfit enough fits =
        let s : Subject = subject_of lists text flags in
        let Ends : Ran → Type 0 = λ ran. EndsWith Nowhere ran left 2 in
        subst Ends (sym (one_back s (go_on s fuel) arm f.set at captures left one is))
        (at_more _ left 1 2 (omega arith)
        (ends_else (go_on s fuel (Node (One f.set) ∷ []) at captures left) (λ l. Miss l) left 1 0 (omega arith)
        (misses s fuel at captures left (none (slice_get text at) unfit) enough fits)
        (λ l enough' below. misses_now l 0)))

-- nodes that take nothing

pub IsPassing-At : (lists : NodeLists) (anchor : Anchor) → IsPassing lists (At anchor) 1
IsPassing-At lists anchor =
    record {
      passes = λ inside nodes f cost is. record {
        past = λ text flags rest. ends_At anchor (map Node nodes ++ rest) cost (is.past text flags rest);
      };
    }

pub IsPassing-Ahead : (lists : NodeLists) (body : ListId) (wanted : Bool) (visits : ℕ)
    → IsBound lists (nodes_of lists body) 1 visits → IsPassing lists (Ahead body wanted) (visits + 1)
IsPassing-Ahead lists body wanted visits bound =
    record {
      passes = λ inside nodes f cost is. record {
        past = λ text flags rest. at_cost _ _ _ _ (visits + cost + 1) (cost + (visits + 1)) (omega arith)
            (ends_Ahead body wanted (map Node nodes ++ rest) visits cost
            (ends_narrow (before lists body []) visits (λ at unfit. tt) (λ to there. there)
            (own_bound lists body visits bound text flags)) (is.past text flags rest));
      };
    }
  where
    at_cost : (s : Subject) (From P : ℕ → Type 0) (todo : List Todo) (cost more : ℕ) → cost ≡ more
        → EndsFrom s From P todo cost → EndsFrom s From P todo more
    at_cost s From P todo cost more e is = let Ends : ℕ → Type 0 = λ n. EndsFrom s From P todo n in subst Ends e is

pub IsPassing-Behind : (lists : NodeLists) (arms : List Arm) (wanted : Bool) (visits : ℕ)
    → AreArmBounds lists arms visits → IsPassing lists (Behind arms wanted) (visits + 1)
IsPassing-Behind lists arms wanted visits bound =
    record {
      passes = λ inside nodes f cost is. record {
        past = λ text flags rest. at_cost _ _ _ _ (visits + cost + 1) (cost + (visits + 1)) (omega arith)
            (from_act (Node (Behind arms wanted)) (map Node nodes ++ rest) (visits + cost)
            (λ fuel at captures left unfit enough fits.
            ends_looked wanted _ (go_on (subject_of lists text flags) fuel) (map Node nodes ++ rest) at captures left
            visits cost enough
            (arms_bound lists text flags arms visits fuel at captures left bound (omega arith) fits)
            (λ seen l more below. (is.past text flags rest).ends fuel at seen l unfit more (omega arith))));
      };
    }
  where
    at_cost : (s : Subject) (From P : ℕ → Type 0) (todo : List Todo) (cost more : ℕ) → cost ≡ more
        → EndsFrom s From P todo cost → EndsFrom s From P todo more
    at_cost s From P todo cost more e is = let Ends : ℕ → Type 0 = λ n. EndsFrom s From P todo n in subst Ends e is

-- a whole pattern

pub past_of_tree : (inside : Bool) (tree : Tree) (f : Front) → IsPast inside tree.lists (nodes_of tree.lists tree.top) f f.cost
    → IsPastOfAll inside tree f
past_of_tree inside tree f is =
    record {
      misses = λ text at flags budget unfit enough.
          let unset : Captures = replicate (tree.groups + 1) None in
          let ran : Ran = go_on (subject_of tree.lists text flags) budget (before tree.lists tree.top []) at unset
          budget in
          by_ran at budget ran ((is.past text flags []).ends budget at unset budget unfit enough (omega arith));
    }
  where
    by_ran : (at budget : ℕ) (ran : Ran) → EndsWith Nowhere ran budget f.cost → (rest : ℕ)
        × (with_whole at ran ≡ Miss rest)
    by_ran at budget (Hit to captures left) e = absurd e.ends
    by_ran at budget (Miss left) e = (left, refl)
    by_ran at budget Spent e = absurd e.ends
