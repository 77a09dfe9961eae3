-- How a visit of a node leads on, and what is known of the nodes of a pattern.
use Rattle.std.proofs.Common.{◌≡◌, ℕ, zero, suc, ◌+◌, ◌-◌, ◌<◌, ◌≤◌, List, [], ◌∷◌, length, drop, get_or, cond, refl}
use Rattle.std.proofs.Common.{sym, ap, subst, ◌∙◌, arith}
use Rattle.std.specs.Prelude.{Bool, true, false, nat_le, filter, Option, Some, None, IfSome, slice_get, slice_range}
use Rattle.std.specs.Char.{to_ascii_lowercase}
use Rattle.std.proofs.lemmas.List.{length-drop, length-take, length-map}
use Rattle.std.proofs.lemmas.Option.{slice_get_read}
use Rattle.char_sets.specs.Ranges.{in_set}
use Rattle.char_sets.specs.declared.char_set.CharRange.{CharRange}
use Rattle.pattern_defs.specs.declared.nodes.ListId.{ListId}
use Rattle.pattern_defs.specs.declared.nodes.Arm.{Arm}
use Rattle.pattern_defs.specs.declared.nodes.PatNode.{PatNode}
use Rattle.pattern_defs.specs.declared.nodes.PatNode.TheVariants.{One, At, Choice, Group, Repeat, Ahead, Behind}
use Rattle.pattern_defs.specs.declared.nodes.PatNode.TheVariants.{Atomic, Back}
use Rattle.pattern_defs.specs.declared.nodes.Anchor.{Anchor}
use Rattle.pattern_defs.specs.declared.outcomes.Place.{Place}
use Rattle.pattern_defs.specs.Patterns.{NodeLists, nodes_of, AllIds, AllArms, IsNode, AreNodes}
use Rattle.pattern_defs.specs.Attempt.{Todo, Node, Ran, where_holds, is_char, holds_at, capture_of, folded}
use Rattle.pattern_defs.specs.Attempt.{stands_again, act}
use Rattle.onig_match.specs.declared.cells.Rest.{Rest}
use Rattle.onig_match.specs.declared.cells.NodeAt.{NodeAt}
use Rattle.onig_match.specs.declared.cells.Cell.{Cell}
use Rattle.onig_match.specs.declared.entries.Point.{Point}
use Rattle.onig_match.specs.declared.entries.Visited.{Visited}
use Rattle.onig_match.specs.declared.entries.Step.TheVariants.{Go, Found, Failed}
use Rattle.onig_match.specs.declared.area.Area.{Area}
use Rattle.onig_match.specs.declared.searched.Searched.{Searched}
use Rattle.onig_match.specs.Goes.{goes}
use Rattle.onig_match.specs.Machine.{subject, todo_of, carried, means, acted, ids_in, ids_at, arms_in, arms_at}
use Rattle.onig_match.specs.Machine.{behind_node, step_where, step_back}
use Rattle.onig_match.specs.Sound.{IsTaken, IsHere, Leads, Visits, IsNextArm}
use Rattle.onig_match.proofs.Lists.{starts_with_longer}
use Rattle.onig_match.proofs.Steps.{AddsCell-none, lead_added}
use Rattle.onig_match.proofs.ReturnSteps.{drop_some}
use Rattle.onig_match.proofs.VisitCounts.{goes-none, goes-act}

-- the nodes of a list

pub AreNodes-get : (n groups : ℕ) (nodes : List PatNode) (k : ℕ) (node : PatNode) → AreNodes n groups nodes →
    slice_get nodes k ≡ Some node → IsNode n groups node
AreNodes-get n groups [] k node are e = cc
AreNodes-get n groups (x ∷ xs) zero node are e = let same : x ≡ node =
    cc in subst (λ (v : PatNode). IsNode n groups v) same are.0
AreNodes-get n groups (x ∷ xs) (suc k) node are e = AreNodes-get n groups xs k node are.1 e

AllIds-get : (n : ℕ) (ids : List ListId) (k : ℕ) → AllIds n ids → IfSome (slice_get ids k) (λ id. id.0 < n)
AllIds-get n [] k all = tt
AllIds-get n (id ∷ ids) zero all = all.0
AllIds-get n (id ∷ ids) (suc k) all = AllIds-get n ids k all.1

pub id_inside : (n groups : ℕ) (nodes : List PatNode) (k way : ℕ) (node : PatNode) (ids : List ListId)
    (result : Option ListId) → AreNodes n groups nodes → k < length nodes → node ≡ get_or nodes k node → node
    ≡ Choice ids → result ≡ slice_get ids way → IfSome result (λ id. id.0 < n)
id_inside n groups nodes k way node ids result are low read e is =
    let there : slice_get nodes k ≡ Some (Choice ids) =
    slice_get_read nodes (length nodes) k node refl low read ∙ ap (λ (v : PatNode). Some v) e in
    rw is (AllIds-get n ids way (AreNodes-get n groups nodes k (Choice ids) are there).0)

no_ids : (node : PatNode) → ((ids : List ListId) → node ≡ Choice ids → ⊥) → ids_in (Some node) ≡ []
no_ids (One set) not_it = refl
no_ids (At anchor) not_it = refl
no_ids (Choice ids) not_it = absurd (not_it ids refl)
no_ids (Group number body) not_it = refl
no_ids (Repeat body least most greedy) not_it = refl
no_ids (Ahead body wanted) not_it = refl
no_ids (Behind arms wanted) not_it = refl
no_ids (Atomic body) not_it = refl
no_ids (Back number fold) not_it = refl

pub ids_elsewhere : (lists : NodeLists) (nodes : List PatNode) (at : NodeAt) (node : PatNode) →
    nodes ≡ nodes_of lists at.list → at.index < length nodes → node ≡ get_or nodes at.index node →
    ((ids : List ListId) → node ≡ Choice ids → ⊥) → ids_at lists at ≡ []
ids_elsewhere lists nodes at node e low read not_it =
    let there : slice_get nodes at.index ≡ Some node =
    slice_get_read nodes (length nodes) at.index node refl low read in
    rw (← e, there) (no_ids node not_it)

no_arms : (node : PatNode) → ((arms : List Arm) (wanted : Bool) → node ≡ Behind arms wanted → ⊥) →
    arms_in (Some node) ≡ []
no_arms (One set) not_it = refl
no_arms (At anchor) not_it = refl
no_arms (Choice ids) not_it = refl
no_arms (Group number body) not_it = refl
no_arms (Repeat body least most greedy) not_it = refl
no_arms (Ahead body wanted) not_it = refl
no_arms (Behind arms wanted) not_it = absurd (not_it arms wanted refl)
no_arms (Atomic body) not_it = refl
no_arms (Back number fold) not_it = refl

pub arms_elsewhere : (lists : NodeLists) (nodes : List PatNode) (at : NodeAt) (node : PatNode) →
    nodes ≡ nodes_of lists at.list → at.index < length nodes → node ≡ get_or nodes at.index node →
    ((arms : List Arm) (wanted : Bool) → node ≡ Behind arms wanted → ⊥) → arms_at lists at ≡ []
arms_elsewhere lists nodes at node e low read not_it =
    let there : slice_get nodes at.index ≡ Some node =
    slice_get_read nodes (length nodes) at.index node refl low read in
    rw (← e, there) (no_arms node not_it)

-- single characters, anchors and back references

pub here_behind : (on : Searched) (area : Area) (here : Rest) (at : ℕ) → IsHere on area here at →
    IsHere on area (behind_node here) at
here_behind on area here at is = record {
  sound = is.sound;
  room = is.room;
  inside = record { list = is.inside.list; next = is.inside.next };
  there = is.there;
  short = is.short;
}

lead_where : (on : Searched) (old : Area) (first : Todo) (b : Bool) (rest : Rest) (at to : ℕ) →
    IsHere on old rest at → (b ≡ true → to ≤ length on.text.now) → ((left : ℕ) →
    where_holds b (goes (subject on)) (todo_of on.pattern.now.lists old.cells.items rest) to old.captures.items left
    ≡ act (subject on) (goes (subject on)) first
    (todo_of on.pattern.now.lists old.cells.items rest) at old.captures.items left)
    → Leads on 1 old (acted on old first rest at) old (step_where b rest to)
lead_where on old first true rest at to here low same =
    lead_added on old old (acted on old first rest at) (Go (record { rest = rest; at = to }))
    (AddsCell-none on old here.sound) (here.inside, low refl)
    (λ left. ap (λ (ran : Ran). carried (subject on) old ran) (same left))
lead_where on old first false rest at to here low same =
    lead_added on old old (acted on old first rest at) Failed (AddsCell-none on old here.sound) tt
    (λ left. ap (λ (ran : Ran). carried (subject on) old ran) (same left))

pub is_char_within : (p : ℕ → Bool) (text : List ℕ) (at : ℕ) → is_char p (slice_get text at) ≡ true
    → at + 1 ≤ length text
is_char_within p [] at e = cc
is_char_within p (c ∷ text) zero e = omega arith
is_char_within p (c ∷ text) (suc at) e = omega (arith, is_char_within p text at e)

pub lead_one : (on : Searched) (old : Area) (node : PatNode) (here : Rest) (at : ℕ) (set : List CharRange) →
    IsHere on old here at → node ≡ One set →
    Leads on 1 old (acted on old (Node node) (behind_node here) at) old
    (step_where (is_char (in_set set) (slice_get on.text.now at)) (behind_node here) (at + 1))
lead_one on old node here at set is e =
    rw e (lead_where on old (Node (One set)) (is_char (in_set set) (slice_get on.text.now at))
    (behind_node here) at (at + 1) (here_behind on old here at is)
    (is_char_within (in_set set) on.text.now at) (λ left. refl))

pub lead_anchor : (on : Searched) (old : Area) (node : PatNode) (here : Rest) (at : ℕ) (anchor : Anchor) →
    IsHere on old here at → node ≡ At anchor →
    Leads on 1 old (acted on old (Node node) (behind_node here) at) old
    (step_where (holds_at anchor (subject on) at) (behind_node here) at)
lead_anchor on old node here at anchor is e =
    rw e (lead_where on old (Node (At anchor)) (holds_at anchor (subject on) at)
    (behind_node here) at at (here_behind on old here at is)
    (λ _. is.there) (λ left. refl))

length-folded : (fold : Bool) (cs : List ℕ) → length (folded fold cs) ≡ length cs
length-folded true cs = length-map cs to_ascii_lowercase
length-folded false cs = refl

pub stands_within : (fold : Bool) (text : List ℕ) (taken : Place) (at : ℕ) → taken.to ≤ length text → at ≤ length text →
    stands_again fold text taken at ≡ true → at + (taken.to - taken.from) ≤ length text
stands_within fold text taken at low there stands =
    let here : length (folded fold (drop at text)) ≡ length text - at =
    length-folded fold (drop at text) ∙ length-drop at text in
    let many : length (folded fold (slice_range text taken.from taken.to))
    ≡ length (slice_range text taken.from taken.to) = length-folded fold (slice_range text taken.from taken.to) in
    let range : length (slice_range text taken.from taken.to) ≡ taken.to - taken.from =
    omega (arith, length-take (taken.to - taken.from) (drop taken.from text), length-drop taken.from text) in
    let short : (length (folded fold (drop at text)) < length (folded fold (slice_range text taken.from taken.to)))
    → ⊥ =
    λ long. (let refused : stands_again fold text taken at ≡ false =
    starts_with_longer (folded fold (drop at text)) (folded fold (slice_range text taken.from taken.to)) long in
    cc) in
    omega (arith, here, many, range, short)

lead_taken_again : (on : Searched) (old : Area) (number : ℕ) (fold : Bool) (taken : Option Place) (rest : Rest)
    (at : ℕ) → IsHere on old rest at → IsTaken (length on.text.now) taken → capture_of old.captures.items number
    ≡ taken → Leads on 1 old (acted on old (Node (Back number fold)) rest at) old
    (step_back fold on.text.now taken rest at)
lead_taken_again on old number fold None rest at here is e =
    lead_added on old old (acted on old (Node (Back number fold)) rest at) Failed (AddsCell-none on old here.sound) tt
    (λ left. rw e refl)
lead_taken_again on old number fold (Some taken) rest at here is e =
    lead_where on old (Node (Back number fold)) (stands_again fold on.text.now taken at)
    rest at (at + (taken.to - taken.from)) here
    (stands_within fold on.text.now taken at is.1 here.there) (λ left. rw e refl)

pub lead_back : (on : Searched) (old : Area) (node : PatNode) (here : Rest) (at number : ℕ) (fold : Bool)
    (taken : Option Place) → IsHere on old here at → node ≡ Back number fold → slice_get old.captures.items number
    ≡ Some taken → IsTaken (length on.text.now) taken
    → Leads on 1 old (acted on old (Node node) (behind_node here) at) old
    (step_back fold on.text.now taken (behind_node here) at)
lead_back on old node here at number fold taken is e there within =
    let captured : capture_of old.captures.items number ≡ taken = rw there refl in
    rw e (lead_taken_again on old number fold taken (behind_node here) at (here_behind on old here at is) within
    captured)

-- a visit

-- a visit with nothing left to match
pub lead_end : (on : Searched) (old : Area) (point : Point) → IsHere on old point.rest point.at →
    todo_of on.pattern.now.lists old.cells.items point.rest ≡ [] →
    Leads on 1 old (λ left. means (subject on) old (Go point) (suc left)) old (Found point.at)
lead_end on old point here none =
    lead_added on old old (λ left. means (subject on) old (Go point) (suc left)) (Found point.at)
    (AddsCell-none on old here.sound) here.there
    (λ left. rw none (ap (λ (ran : Ran). carried (subject on) old ran)
    (sym (goes-none (subject on) point.at old.captures.items left))))

-- a visit where something is left to match
pub visits_first : (on : Searched) (old new : Area) (point : Point) (first : Todo) (rest : Rest) (result : Visited) →
    todo_of on.pattern.now.lists old.cells.items point.rest
    ≡ first ∷ todo_of on.pattern.now.lists old.cells.items rest
    → Visits on old (acted on old first rest point.at) new result
    → Visits on old (λ left. means (subject on) old (Go point) (suc left)) new result
visits_first on old new point first rest result todo visits =
    let same : (left : ℕ) → acted on old first rest point.at left ≡ means (subject on) old (Go point) (suc left) =
    λ left. rw todo (ap (λ (ran : Ran). carried (subject on) old ran)
    (sym (goes-act (subject on) first (todo_of on.pattern.now.lists old.cells.items rest) point.at
    old.captures.items left))) in
    record {
      leads = record {
        ends = λ left. visits.leads.ends left ∙ same (left + result.more);
        sound = visits.leads.sound;
        step = visits.leads.step;
        room = visits.leads.room;
        rooms = visits.leads.rooms;
        falls = visits.leads.falls;
      };
      spent = λ left low. sym (same left) ∙ visits.spent left low;
    }

pub node_there : (lists : NodeLists) (nodes : List PatNode) (here : Rest) (node : PatNode) →
    nodes ≡ nodes_of lists here.list → here.index < length (nodes_of lists here.list) →
    node ≡ get_or nodes here.index node → slice_get (nodes_of lists here.list) here.index ≡ Some node
node_there lists nodes here node e low read =
    slice_get_read (nodes_of lists here.list) (length (nodes_of lists here.list)) here.index node refl low
    (rw e at read)

pub node_todo : (lists : NodeLists) (cells : List Cell) (here : Rest) (node : PatNode) →
    slice_get (nodes_of lists here.list) here.index ≡ Some node →
    todo_of lists cells here ≡ Node node ∷ todo_of lists cells (behind_node here)
node_todo lists cells here node there =
    let first : drop here.index (nodes_of lists here.list) ≡ node ∷ drop (here.index + 1) (nodes_of lists here.list) =
    drop_some (nodes_of lists here.list) here.index node there in
    rw first refl

AllArms-drop : (n k : ℕ) (arms : List Arm) → AllArms n arms → AllArms n (drop k arms)
AllArms-drop n zero arms all = all
AllArms-drop n (suc k) [] all = tt
AllArms-drop n (suc k) (arm ∷ arms) all = AllArms-drop n k arms all.1

AllArms-either : (n : ℕ) (b : Bool) (arm : Arm) (arms : List Arm) → arm.body.0 < n → AllArms n arms →
    AllArms n (cond b (arm ∷ arms) arms)
AllArms-either n true arm arms low all = (low, all)
AllArms-either n false arm arms low all = all

AllArms-filter : (n : ℕ) (p : Arm → Bool) (arms : List Arm) → AllArms n arms → AllArms n (filter p arms)
AllArms-filter n p [] all = tt
AllArms-filter n p (arm ∷ arms) all = AllArms-either n (p arm) arm (filter p arms) all.0 (AllArms-filter n p arms all.1)

found_inside : (n : ℕ) (arms : List Arm) (arm at : ℕ) (result : Option (ℕ × Arm)) → AllArms n arms →
    IsNextArm arms arm at result → IfSome result (λ found. found.1.body.0 < n)
found_inside n arms arm at None all is = tt
found_inside n arms arm at (Some found) all is =
    let chosen : AllArms n (filter (λ a. nat_le a.length at) (drop arm arms)) =
    AllArms-filter n (λ a. nat_le a.length at) (drop arm arms) (AllArms-drop n arm arms all) in
    let listed : AllArms n (found.1 ∷ filter (λ a. nat_le a.length at) (drop (found.0 + 1) arms)) =
    subst (λ (v : List Arm). AllArms n v) is.0 chosen in
    listed.0

pub arm_inside : (n groups : ℕ) (nodes : List PatNode) (k arm at : ℕ) (node : PatNode) (arms : List Arm)
    (wanted : Bool) (result : Option (ℕ × Arm)) → AreNodes n groups nodes → k < length nodes → node
    ≡ get_or nodes k node → node ≡ Behind arms wanted → IsNextArm arms arm at result
    → IfSome result (λ found. found.1.body.0 < n)
arm_inside n groups nodes k arm at node arms wanted result are low read e is =
    let there : slice_get nodes k ≡ Some (Behind arms wanted) =
    slice_get_read nodes (length nodes) k node refl low read ∙ ap (λ (v : PatNode). Some v) e in
    found_inside n arms arm at result (AreNodes-get n groups nodes k (Behind arms wanted) are there) is
