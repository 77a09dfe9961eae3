-- What injections find, number by number, and what a search with them finds.
use Rattle.std.proofs.Common.{◌≡◌, ℕ, zero, suc, ◌+◌, ◌<◌, ◌≤◌, List, [], ◌∷◌, ◌++◌, length, map, drop, get_or, refl, ap}
use Rattle.std.proofs.Common.{sym, ◌∙◌, arith, subst, cond}
use Rattle.std.specs.Prelude.{All, Bool, true, false, nat_lt, ◌==◌, ◌&&◌, ◌||◌, Option, Some, None, option_map, slice_get}
use Rattle.std.specs.Prelude.{unwrap_or, IsTrue}
use Rattle.std.proofs.lemmas.List.{drop_more}
use Rattle.std.proofs.lemmas.List.Elements.{All-nil, All-cons, All-get_or, All-weaker, All-head, All-tail}
use Rattle.std.proofs.lemmas.Option.{slice_get-map, slice_get-get_or, unwrap_or-slice_get}
use Rattle.pattern_defs.specs.Attempt.{Ran, Hit, Miss, Spent, Captures}
use Rattle.pattern_defs.specs.FirstMatch.{Pair, tried}
use Rattle.scope_defs.specs.Scopes.{Scopes}
use Rattle.rule_defs.specs.Rules.{Kind, BeginEnd, BeginWhile, Group, Rule, no_rule}
use Rattle.rule_defs.specs.Rules.{Match as MatchRule}
use Rattle.injection_defs.specs.Injections.{Listed, as_group, injections_of, rules_of}
use Rattle.line_defs.specs.Machine.{Machine}
use Rattle.line_defs.specs.Search.{Choice, Found, Nothing, OutOfBudget, At, Sight, Matched, found_as, found_of, found_by}
use Rattle.line_defs.specs.Search.{rule_choices, scan}
use Rattle.line_defs.specs.Injections.{Kept, Injected, InjectedSpent, Keeps, is_earlier, kept_then, weighed, after_one}
use Rattle.line_defs.specs.Injections.{injected, wins, decided, with_injections}
use Rattle.line_defs.specs.Injections.{scan_where as line_scan_where}
use Rattle.line_search.specs.declared.find.Match.{Match}
use Rattle.line_search.specs.declared.find.Find.{Find}
use Rattle.line_search.specs.declared.find.Find.TheVariants as find
use Rattle.line_search.specs.declared.injected.Ready.{Ready}
use Rattle.line_search.specs.declared.injected.Best.{Best}
use Rattle.line_search.specs.Finds.{owner_of, IfAt, IsPartFrom}
use Rattle.line_search.specs.Machines.{IsOf}
use Rattle.line_search.specs.Prepared.{HasInjections}
use Rattle.line_search.specs.Finds.{found_of as found_in}
use Rattle.line_search.specs.Lists.{early}
use Rattle.line_search.specs.Choices.{first_of, first_place}
use Rattle.line_search.specs.Prepared.{Prepared, prepared, all_prepared, group_choices, IsPrepared, ArePrepared, HasRoomFor}
use Rattle.line_search.specs.Prepared.{holds_of, holding, NoneHolds, none_prepared, prepared_at, found_by_numbers, scan_where}
use Rattle.line_search.specs.Prepared.{found_by_prepared}
use Rattle.line_search.specs.Asking.{prepared_of, IsReady, AreReady}
use Rattle.rule_table.specs.declared.injection.Injection.{Injection}
use Rattle.rule_table.specs.Views.{Table, listed_of}
use Rattle.line_search.specs.declared.injected.Step.TheVariants as step
use Rattle.line_search.specs.Bests.{kept_at, kept_of, step_by, beaten, IsFound, IsBest, IfSomeBest, IfNoBest, IfNone, IfStep, IfNext}
use Rattle.line_search.specs.declared.injected.Bests.{Bests}
use Rattle.line_search.specs.declared.injected.Bests.TheVariants as bests
use Rattle.line_search.specs.Bests.{starts_earlier, wins_over}
use Rattle.line_search.proofs.FrameLists.{rules_early}
use Rattle.line_search.proofs.Scans.{scan-again}
use Rattle.line_search.proofs.Tables.{early_room}

-- ---- a rule as a group

pub group_is : (rules : List Rule) (n : ℕ) (rule : Rule) → slice_get rules n ≡ Some rule → rule.kind ≡ Group →
    group_choices rules n ≡ rule_choices (early rules) rule.active
group_is rules n rule there kind =
    ap (λ o. rule_choices (early rules) (as_group (unwrap_or o no_rule).kind n (unwrap_or o no_rule).active)) there
    ∙ ap (λ k. rule_choices (early rules) (as_group k n rule.active)) kind

single : (kind : Kind) (n : ℕ) (active : List ℕ) → (kind ≡ Group → ⊥) → as_group kind n active ≡ n ∷ []
single MatchRule n active other = refl
single BeginEnd n active other = refl
single BeginWhile n active other = refl
single Group n active other = absurd (other refl)

pub single_is : (rules : List Rule) (n : ℕ) (rule : Rule) → slice_get rules n ≡ Some rule → (rule.kind ≡ Group → ⊥) →
    group_choices rules n ≡ rule_choices (early rules) (n ∷ [])
single_is rules n rule there other =
    ap (λ o. rule_choices (early rules) (as_group (unwrap_or o no_rule).kind n (unwrap_or o no_rule).active)) there
    ∙ ap (rule_choices (early rules)) (single rule.kind n rule.active other)

-- ---- one of some

pub prepared_at_is : (ready : List Ready) (n : ℕ) (d : Ready) → n < length ready →
    prepared_at (map prepared_of ready) n ≡ prepared_of (get_or ready n d)
prepared_at_is ready n d low =
    ap (λ o. unwrap_or o none_prepared)
    (slice_get-map prepared_of ready n ∙ ap (option_map prepared_of) (slice_get-get_or ready n d low))

pub room_at : (room : ℕ) (all : List Prepared) (n : ℕ) → n < length all → All (HasRoomFor room) all →
    HasRoomFor room (prepared_at all n)
room_at room all n low fit =
    subst (HasRoomFor room) (sym (unwrap_or-slice_get all n none_prepared))
    (All-get_or (HasRoomFor room) all n none_prepared low fit)

pub fit_at : (rules groups : ℕ) (all : List Prepared) (n : ℕ) → n < length all → ArePrepared rules groups all →
    IsPrepared rules groups (prepared_at all n)
fit_at rules groups all n low fit =
    subst (IsPrepared rules groups) (sym (unwrap_or-slice_get all n none_prepared))
    (All-get_or (IsPrepared rules groups) all n none_prepared low fit)

pub all_room : (rules groups room : ℕ) (all : List Prepared) → ArePrepared rules groups all → groups ≤ room →
    All (HasRoomFor room) all
all_room rules groups room all fit enough =
    All-weaker (IsPrepared rules groups) (HasRoomFor room)
    (λ p is. early_room rules groups room p.choices is.choices enough) all fit

pub listed_at : (all : List Injection) (n : ℕ) (d : Injection) →
    get_or (map listed_of all) n (listed_of d) ≡ listed_of (get_or all n d)
listed_at [] n d = refl
listed_at (i ∷ all) zero d = refl
listed_at (i ∷ all) (suc n) d = listed_at all n d

pub ready-fit : (table : Table) (ready : List Ready) → AreReady table ready →
    ArePrepared (length table.rules) table.groups (map prepared_of ready)
ready-fit table [] fit = All-nil (IsPrepared (length table.rules) table.groups)
ready-fit table (r ∷ ready) fit =
    let one : IsReady table r = All-head (IsReady table) r ready fit in
    All-cons (IsPrepared (length table.rules) table.groups) (prepared_of r) (map prepared_of ready)
    (record { entry = one.entry; choices = one.fit })
    (ready-fit table ready (All-tail (IsReady table) r ready fit))

-- ---- those that hold

pub holding_next : (scopes : Scopes) (n : ℕ) (p : Prepared) (all : List Prepared) →
    holding scopes n (p ∷ []) ++ holding scopes (n + 1) all ≡ holding scopes n (p ∷ all)
holding_next scopes n p all = by (holds_of p scopes)
  where
    by : (b : Bool) → cond b (n ∷ []) [] ++ holding scopes (n + 1) all
        ≡ cond b (n ∷ holding scopes (n + 1) all) (holding scopes (n + 1) all)
    by true = refl
    by false = refl

holding_from : (scopes : Scopes) (n : ℕ) (all : List Prepared) (count : ℕ) → n + length all ≡ count →
    All (λ number. number < count) (holding scopes n all)
holding_from scopes n [] count whole = All-nil (λ number. number < count)
holding_from scopes n (p ∷ all) count whole =
    by (holds_of p scopes) (holding_from scopes (n + 1) all count (omega arith))
  where
    by : (b : Bool) → All (λ number. number < count) (holding scopes (n + 1) all) →
        All (λ number. number < count) (cond b (n ∷ holding scopes (n + 1) all) (holding scopes (n + 1) all))
    by true rest = All-cons (λ number. number < count) n (holding scopes (n + 1) all) (omega arith) rest
    by false rest = rest

pub holding_below : (scopes : Scopes) (all : List Prepared) →
    All (λ number. number < length all) (holding scopes 0 all)
holding_below scopes all = holding_from scopes 0 all (length all) (omega arith)

-- ---- where none holds

pub none_found : (s : Sight) (scopes : Scopes) (all : List Prepared) → NoneHolds scopes all
    → found_by_prepared s scopes all None ≡ Keeps None
none_found s scopes [] none = refl
none_found s scopes (p ∷ all) none =
    ap (λ b. after_one s (scan_where b s p.choices) p.first None (found_by_prepared s scopes all)) none.0
    ∙ none_found s scopes all none.1

-- ---- what they find

kept-same : (here : Bool) (kept : Option Kept) (f g : Option Kept → Injected) →
    ((k : Option Kept) → f k ≡ g k) → kept_then here kept f ≡ kept_then here kept g
kept-same true kept f g same = refl
kept-same false kept f g same = same kept

weighed-same : (earlier : Bool) (place : ℕ) (first : Bool) (m : Matched) (kept : Option Kept)
    (f g : Option Kept → Injected) → ((k : Option Kept) → f k ≡ g k) →
    weighed earlier place first m kept f ≡ weighed earlier place first m kept g
weighed-same true place first m kept f g same = kept-same (m.from == place) _ f g same
weighed-same false place first m kept f g same = same kept

after_one-same : (s : Sight) (found : Found) (first : Bool) (kept : Option Kept) (f g : Option Kept → Injected) →
    ((k : Option Kept) → f k ≡ g k) → after_one s found first kept f ≡ after_one s found first kept g
after_one-same s Nothing first kept f g same = same kept
after_one-same s OutOfBudget first kept f g same = refl
after_one-same s (At m) first kept f g same = weighed-same (is_earlier m kept) s.place first m kept f g same

-- by their numbers, where the first has the number n
by_numbers : (s : Sight) (scopes : Scopes) (all rest : List Prepared) (n : ℕ) →
    ((k : ℕ) → slice_get all (n + k) ≡ slice_get rest k) → (kept : Option Kept) →
    found_by_numbers s all (holding scopes n rest) kept ≡ found_by_prepared s scopes rest kept
by_numbers s scopes all [] n from kept = refl
by_numbers s scopes all (p ∷ rest) n from kept =
    by (holds_of p scopes)
    (by_numbers s scopes all rest (n + 1)
    (λ k. let e : n + 1 + k ≡ n + suc k = omega arith in ap (slice_get all) e ∙ from (suc k)))
  where
    there : prepared_at all n ≡ p
    there = let e : n ≡ n + 0 = omega arith in ap (λ o. unwrap_or o none_prepared) (ap (slice_get all) e ∙ from 0)

    by : (b : Bool) → ((k : Option Kept) →
        found_by_numbers s all (holding scopes (n + 1) rest) k ≡ found_by_prepared s scopes rest k) →
        found_by_numbers s all (cond b (n ∷ holding scopes (n + 1) rest) (holding scopes (n + 1) rest)) kept
        ≡ after_one s (scan_where b s p.choices) p.first kept (found_by_prepared s scopes rest)
    by true later =
        ap (λ q. after_one s (scan s q.choices) q.first kept (found_by_numbers s all (holding scopes (n + 1) rest)))
        there
        ∙ after_one-same s (scan s p.choices) p.first kept _ _ later
    by false later = later kept

pub numbers_tell : (s : Sight) (scopes : Scopes) (all : List Prepared) →
    found_by_numbers s all (holding scopes 0 all) None ≡ found_by_prepared s scopes all None
numbers_tell s scopes all = by_numbers s scopes all all 0 (λ k. let e : 0 + k ≡ k = omega arith in ap (slice_get all) e) None

-- those of a machine
scan-same : (b : Bool) (machine : Machine) (rules : List Rule) (s : Sight) (numbers : List ℕ) → machine.rules ≡ rules →
    line_scan_where b machine s numbers ≡ scan_where b s (rule_choices (early rules) numbers)
scan-same true machine rules s numbers same = ap (scan s) (rules_early machine rules numbers same)
scan-same false machine rules s numbers same = refl

injected_by : (machine : Machine) (rules : List Rule) (s : Sight) (scopes : Scopes) (all : List Listed) →
    machine.rules ≡ rules → (kept : Option Kept) →
    injected machine s scopes (injections_of rules all) kept ≡ found_by_prepared s scopes (all_prepared rules all) kept
injected_by machine rules s scopes [] same kept = refl
injected_by machine rules s scopes (i ∷ all) same kept =
    ap (λ f. after_one s f (prepared rules i).first kept (injected machine s scopes (injections_of rules all)))
    (scan-same (holds_of (prepared rules i) scopes) machine rules s (rules_of rules i) same)
    ∙ after_one-same s (scan_where (holds_of (prepared rules i) scopes) s (prepared rules i).choices)
    (prepared rules i).first kept _ _ (injected_by machine rules s scopes all same)

pub injected_is : (machine : Machine) (rules : List Rule) (s : Sight) (scopes : Scopes) (all : List Listed) →
    machine.rules ≡ rules → machine.injections ≡ injections_of rules all →
    injected machine s scopes machine.injections None ≡ found_by_prepared s scopes (all_prepared rules all) None
injected_is machine rules s scopes all same are =
    ap (λ is. injected machine s scopes is None) are ∙ injected_by machine rules s scopes all same None

-- ---- one step

module _ (s : Sight) (all : List Prepared) (n : ℕ) (best : Option Best) (next : Option Kept → Injected) where
  abbrev p : Prepared
  p = prepared_at all n

  abbrev stepped : Found → Injected
  stepped found = after_one s found p.first (kept_of s all best) next

  pub step-nothing : Nothing ≡ scan s p.choices → stepped (scan s p.choices) ≡ next (kept_of s all best)
  step-nothing is = ap stepped (sym is)

  pub step-spent : OutOfBudget ≡ scan s p.choices → stepped (scan s p.choices) ≡ InjectedSpent
  step-spent is = ap stepped (sym is)

  earlier-kept : (m : Match) (of : Matched) (one : Best) (found : Found) → of.from ≡ m.from → IsFound one.m found →
      is_earlier of (kept_at (prepared_at all one.number).first found) ≡ nat_lt m.from one.m.from
  earlier-kept m of one Nothing from is = absurd is
  earlier-kept m of one OutOfBudget from is = absurd is
  earlier-kept m of one (At other) from is =
      ap (λ k. nat_lt k other.from) from ∙ ap (nat_lt m.from) is.from

  earlier-is : (o : Option Best) (m : Match) (of : Matched) → of.from ≡ m.from → IfSomeBest o (IsBest s all) →
      is_earlier of (kept_of s all o) ≡ starts_earlier m o
  earlier-is None m of from is = refl
  earlier-is (Some one) m of from is =
      earlier-kept m of one (scan s (prepared_at all one.number).choices) from is.found

  weighed-is : (m : Match) (of : Matched) → of.from ≡ m.from → IfSomeBest best (IsBest s all) → At of ≡ scan s p.choices
      → stepped (scan s p.choices) ≡ weighed (starts_earlier m best) s.place p.first of (kept_of s all best) next
  weighed-is m of from is found =
      ap stepped (sym found)
      ∙ ap (λ b. weighed b s.place p.first of (kept_of s all best) next) (earlier-is best m of from is)

  pub step-later : (m : Match) (of : Matched) → of.from ≡ m.from → IfSomeBest best (IsBest s all) →
      At of ≡ scan s p.choices → starts_earlier m best ≡ false →
      stepped (scan s p.choices) ≡ next (kept_of s all best)
  step-later m of from is found later =
      weighed-is m of from is found
      ∙ ap (λ b. weighed b s.place p.first of (kept_of s all best) next) later

  kept-new : (m : Match) (of : Matched) → At of ≡ scan s p.choices →
      Some (record { matched = of; goes_first = p.first }) ≡ kept_of s all (Some (record { number = n; m = m }))
  kept-new m of found = ap (kept_at p.first) found

  new-by : (here : Bool) (m : Match) (of : Matched) → At of ≡ scan s p.choices → (m.from == s.place) ≡ here →
      kept_then here (Some (record { matched = of; goes_first = p.first })) next
      ≡ step_by s all (beaten n m s.place) next
  new-by true m of found at =
      ap Keeps (kept-new m of found)
      ∙ ap (λ b. step_by s all (cond b (step.Done (record { number = n; m = m }))
      (step.Next (Some (record { number = n; m = m })))) next) (sym at)
  new-by false m of found at =
      ap next (kept-new m of found)
      ∙ ap (λ b. step_by s all (cond b (step.Done (record { number = n; m = m }))
      (step.Next (Some (record { number = n; m = m })))) next) (sym at)

  pub step-beaten : (m : Match) (of : Matched) → of.from ≡ m.from → IfSomeBest best (IsBest s all) →
      At of ≡ scan s p.choices → starts_earlier m best ≡ true →
      stepped (scan s p.choices) ≡ step_by s all (beaten n m s.place) next
  step-beaten m of from is found first =
      weighed-is m of from is found
      ∙ ap (λ b. weighed b s.place p.first of (kept_of s all best) next) first
      ∙ ap (λ k. kept_then (k == s.place) (Some (record { matched = of; goes_first = p.first })) next) from
      ∙ new-by (m.from == s.place) m of found refl

pub beaten-best : (s : Sight) (all : List Prepared) (n : ℕ) (m : Match) → IsBest s all (record { number = n; m = m }) →
    IfStep (beaten n m s.place) (IsBest s all)
beaten-best s all n m is = by (m.from == s.place)
  where
    by : (b : Bool) → IfStep (cond b (step.Done (record { number = n; m = m }))
        (step.Next (Some (record { number = n; m = m })))) (IsBest s all)
    by true = is
    by false = is

pub beaten-next : (n : ℕ) (m : Match) (place : ℕ) (P : Type 0) → IfNext (beaten n m place) P
beaten-next n m place P = by (m.from == place)
  where
    by : (b : Bool) → IfNext (cond b (step.Done (record { number = n; m = m }))
        (step.Next (Some (record { number = n; m = m })))) P
    by true = tt
    by false = tt

-- no match so far, and the room for attempts as it was
pub stays-same : (best : Option Best) (P : Type 0) → P → IfNext (step.Next best) ((best ≡ None) × P)
stays-same None P p = (refl, p)
stays-same (Some best) P p = tt

pub stays-later : (m : Match) (best : Option Best) (P : Type 0) → starts_earlier m best ≡ false →
    IfNext (step.Next best) P
stays-later m None P later = absurd (cc)
stays-later m (Some best) P later = tt

pub stays-next : (next best : Option Best) (a b c : Captures) → IfNext (step.Next next) ((best ≡ None) × (a ≡ b)) →
    IfNoBest best (b ≡ c) → IfNoBest next (a ≡ c)
stays-next None best a b c here before = here.1 ∙ subst (λ o. IfNoBest o (b ≡ c)) here.0 before
stays-next (Some next) best a b c here before = tt

-- what is left to search begins with the next number
pub numbers-next : (s : Sight) (all : List Prepared) (numbers : List ℕ) (i d : ℕ) (kept : Option Kept) →
    i < length numbers → found_by_numbers s all (drop i numbers) kept
    ≡ after_one s (scan s (prepared_at all (get_or numbers i d)).choices) (prepared_at all (get_or numbers i d)).first
    kept (found_by_numbers s all (drop (i + 1) numbers))
numbers-next s all numbers i d kept low = ap (λ ns. found_by_numbers s all ns kept) (drop_more numbers i d low)

-- ---- where a match is found

place_as : (s : Sight) (cs : List Choice) (pair : Pair) (o : Option Choice) (m : Matched) → found_of s pair o ≡ At m →
    pair.place ≡ m.from
place_as s cs pair None m is = absurd (cc)
place_as s cs pair (Some choice) m is = by (tried s.text s.flags s.budget pair) is
  where
    by : (ran : Ran) → found_as choice.of pair.place ran ≡ At m → pair.place ≡ m.from
    by (Hit to captures left) is = cc
    by (Miss left) is = absurd (cc)
    by Spent is = absurd (cc)

place_by : (s : Sight) (cs : List Choice) (o : Option Pair) (m : Matched) → found_by s cs o ≡ At m →
    option_map (λ pair. pair.place) o ≡ Some m.from
place_by s cs None m is = absurd (cc)
place_by s cs (Some pair) m is = ap Some (place_as s cs pair (slice_get cs pair.index) m is)

pub scan-place : (s : Sight) (cs : List Choice) (m : Matched) → scan s cs ≡ At m → first_place s cs ≡ Some m.from
scan-place s cs m is = place_by s cs (first_of s cs) m is

-- a match that is made again at its place
pub again-same : (s : Sight) (cs : List Choice) (m : Matched) (place : ℕ) → s.place ≤ length s.text → m.from ≡ place →
    At m ≡ scan s cs → scan (record s { place = place }) cs ≡ scan s cs
again-same s cs m place inside at is = scan-again s cs place inside (scan-place s cs m (sym is) ∙ ap Some at)

found-at : (s : Sight) (cs : List Choice) (m : Match) (found : Found) → found ≡ scan s cs → IsFound m found →
    first_place s cs ≡ Some m.from
found-at s cs m Nothing same is = absurd is
found-at s cs m OutOfBudget same is = absurd is
found-at s cs m (At of) same is = scan-place s cs of (sym same) ∙ ap Some is.from

pub best-again : (s : Sight) (all : List Prepared) (best : Best) → s.place ≤ length s.text → IsBest s all best →
    scan (record s { place = best.m.from }) (prepared_at all best.number).choices
    ≡ scan s (prepared_at all best.number).choices
best-again s all best inside is =
    scan-again s (prepared_at all best.number).choices best.m.from inside
    (found-at s (prepared_at all best.number).choices best.m
    (scan s (prepared_at all best.number).choices) refl is.found)

-- ---- the choice

wins-at : (first : Bool) (best m : Match) (hit : Captures) (of : Matched) → of.from ≡ best.from →
    wins (record { matched = of; goes_first = first })
    (record { of = owner_of m.of; from = m.from; to = m.to; captures = hit }) ≡ wins_over first best (find.At m)
wins-at first best m hit of from = ap (λ k. nat_lt k m.from || (first && (k == m.from))) from

-- the ordinary match and the best of injections, where that wins and where it doesn't
chosen-by : (first : Bool) (best : Match) (ordinary : Find) (hit : Captures) (found : Found) → IsFound best found →
    (ordinary ≡ find.Spent → ⊥) → (b : Bool) → wins_over first best ordinary ≡ b →
    decided (found_in ordinary hit) (Keeps (kept_at first found)) ≡ cond b found (found_in ordinary hit)
chosen-by first best ordinary hit Nothing is other b won = absurd is
chosen-by first best ordinary hit OutOfBudget is other b won = absurd is
chosen-by first best find.Nothing hit (At of) is other true won = refl
chosen-by first best find.Nothing hit (At of) is other false won = absurd (cc)
chosen-by first best find.Spent hit (At of) is other b won = absurd (other refl)
chosen-by first best (find.At m) hit (At of) is other b won =
    ap (λ w. cond w (At of) (At (record { of = owner_of m.of; from = m.from; to = m.to; captures = hit })))
    (wins-at first best m hit of is.from ∙ won)

with_is : (machine : Machine) (s : Sight) (scopes : Scopes) (ordinary : Found) (inj : Injected) →
    (ordinary ≡ OutOfBudget → ⊥) → injected machine s scopes machine.injections None ≡ inj →
    with_injections machine s scopes ordinary ≡ decided ordinary inj
with_is machine s scopes Nothing inj other is = ap (decided Nothing) is
with_is machine s scopes OutOfBudget inj other is = absurd (other refl)
with_is machine s scopes (At m) inj other is = ap (decided (At m)) is

pub chosen-none : (machine : Machine) (s : Sight) (scopes : Scopes) (ordinary : Found) →
    injected machine s scopes machine.injections None ≡ Keeps None →
    with_injections machine s scopes ordinary ≡ ordinary
chosen-none machine s scopes Nothing is = ap (decided Nothing) is
chosen-none machine s scopes OutOfBudget is = refl
chosen-none machine s scopes (At m) is = ap (decided (At m)) is

pub chosen-spent : (machine : Machine) (s : Sight) (scopes : Scopes) (ordinary : Found) →
    injected machine s scopes machine.injections None ≡ InjectedSpent →
    with_injections machine s scopes ordinary ≡ OutOfBudget
chosen-spent machine s scopes Nothing is = ap (decided Nothing) is
chosen-spent machine s scopes OutOfBudget is = refl
chosen-spent machine s scopes (At m) is = ap (decided (At m)) is

pub chosen-best : (machine : Machine) (s : Sight) (scopes : Scopes) (all : List Prepared) (best : Best) (ordinary : Find)
    (hit : Captures) (b : Bool) →
    injected machine s scopes machine.injections None ≡ Keeps (kept_of s all (Some best)) → IsBest s all best →
    (ordinary ≡ find.Spent → ⊥) → wins_over (prepared_at all best.number).first best.m ordinary ≡ b →
    with_injections machine s scopes (found_in ordinary hit)
    ≡ cond b (scan s (prepared_at all best.number).choices) (found_in ordinary hit)
chosen-best machine s scopes all best ordinary hit b inj is other won =
    with_is machine s scopes (found_in ordinary hit) _ (not-spent ordinary other) inj
    ∙ chosen-by (prepared_at all best.number).first best.m ordinary hit
    (scan s (prepared_at all best.number).choices) is.found other b won
  where
    not-spent : (f : Find) → (f ≡ find.Spent → ⊥) → found_in f hit ≡ OutOfBudget → ⊥
    not-spent find.Nothing o e = absurd (cc)
    not-spent find.Spent o e = o refl
    not-spent (find.At m) o e = absurd (cc)

-- ---- a search

pub not-true : {b : Bool} → IsTrue b → b ≡ false → ⊥
not-true {b} is false_ = absurd (cc)

-- where nothing is kept, the room for attempts is as it was
pub hit-same : (b : Bests) (o : Option Best) (new old : Captures) → b ≡ bests.Kept o → o ≡ None →
    IfNone b (new ≡ old) → new ≡ old
hit-same b o new old is none stays =
    subst (λ x. IfNoBest x (new ≡ old)) none (subst (λ x. IfNone x (new ≡ old)) is stays)

module _ (table : Table) (machine : Machine) (s : Sight) (scopes : Scopes) (all : List Prepared)
    (is : IsOf table machine) (has : HasInjections table machine)
    (same : all ≡ all_prepared table.rules table.injections) where
  told : (inj : Injected) → found_by_prepared s scopes all None ≡ inj →
      injected machine s scopes machine.injections None ≡ inj
  told inj tells =
      injected_is machine table.rules s scopes table.injections is.rules has
      ∙ ap (λ ps. found_by_prepared s scopes ps None) (sym same) ∙ tells

  pub search-none : (ordinary : Found) → found_by_prepared s scopes all None ≡ Keeps None →
      with_injections machine s scopes ordinary ≡ ordinary
  search-none ordinary tells = chosen-none machine s scopes ordinary (told (Keeps None) tells)

  pub search-spent : (ordinary : Found) → found_by_prepared s scopes all None ≡ InjectedSpent →
      OutOfBudget ≡ with_injections machine s scopes ordinary
  search-spent ordinary tells = sym (chosen-spent machine s scopes ordinary (told InjectedSpent tells))

  pub search-best : (best : Best) (ordinary : Find) (hit : Captures) (found : Found) (b : Bool) →
      found_by_prepared s scopes all None ≡ Keeps (kept_of s all (Some best)) → IsBest s all best →
      (ordinary ≡ find.Spent → ⊥) → wins_over (prepared_at all best.number).first best.m ordinary ≡ b →
      found_in ordinary hit ≡ found →
      cond b (scan s (prepared_at all best.number).choices) found ≡ with_injections machine s scopes found
  search-best best ordinary hit found b tells best-is other won ord =
      ap (cond b (scan s (prepared_at all best.number).choices)) (sym ord)
      ∙ sym (chosen-best machine s scopes all best ordinary hit b (told _ tells) best-is other won)
      ∙ ap (with_injections machine s scopes) ord

-- a match that was made again at a place at or behind the place of the search
pub part-weaker : (from place chars : ℕ) (hit : Captures) (found : Find) → from ≤ place →
    IfAt found (IsPartFrom place chars hit) → IfAt found (IsPartFrom from chars hit)
part-weaker from place chars hit find.Nothing le part = tt
part-weaker from place chars hit find.Spent le part = tt
part-weaker from place chars hit (find.At m) le part = record {
  begins = omega (arith, le, part.begins);
  goes = part.goes;
  ends = part.ends;
  whole = part.whole;
  parts = part.parts;
}
