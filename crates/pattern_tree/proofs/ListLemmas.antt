-- Lists of nodes that name earlier lists and groups up to a number.
use Rattle.std.proofs.Common.{ℕ, zero, suc, ◌+◌, ◌<◌, ◌≤◌, List, [], ◌∷◌, ◌++◌, length, get_or, arith}
use Rattle.std.specs.Prelude.{slice_get, unwrap_or}
use Rattle.pattern_defs.specs.declared.nodes.ListId.{ListId}
use Rattle.pattern_defs.specs.declared.nodes.Arm.{Arm}
use Rattle.pattern_defs.specs.declared.nodes.PatNode.{PatNode}
use Rattle.pattern_defs.specs.declared.nodes.PatNode.TheVariants.{One, At, Choice, Group, Repeat, Ahead, Behind}
use Rattle.pattern_defs.specs.declared.nodes.PatNode.TheVariants.{Atomic, Back}
use Rattle.pattern_defs.specs.Patterns.{NodeLists, AllIds, AllArms, IsNode, AreNodes, AreLists}

pub AllIds-widen : (a b : ℕ) (ids : List ListId) → a ≤ b → AllIds a ids → AllIds b ids
AllIds-widen a b [] h all = tt
AllIds-widen a b (id ∷ ids) h all = (let lt : id.0 < a = all.0 in omega arith, AllIds-widen a b ids h all.1)

AllArms-widen : (a b : ℕ) (arms : List Arm) → a ≤ b → AllArms a arms → AllArms b arms
AllArms-widen a b [] h all = tt
AllArms-widen a b (arm ∷ arms) h all = (let lt : arm.body.0 < a = all.0 in omega arith, AllArms-widen a b arms h all.1)

-- what names lists below a number and groups up to one does so for greater ones
IsNode-widen : (a b g k : ℕ) (node : PatNode) → a ≤ b → g ≤ k → IsNode a g node → IsNode b k node
IsNode-widen a b g k (One set) h more is = tt
IsNode-widen a b g k (At anchor) h more is = tt
IsNode-widen a b g k (Choice ids) h more is = (AllIds-widen a b ids h is.0, is.1)
IsNode-widen a b g k (Group number body) h more is =
    let low : number ≤ g = is.1 in let lt : body.0 < a = is.2 in (is.0, omega arith, omega arith)
IsNode-widen a b g k (Repeat body least most greedy) h more is = (is.0, let lt : body.0 < a = is.1 in omega arith)
IsNode-widen a b g k (Ahead body wanted) h more is = omega arith
IsNode-widen a b g k (Behind arms wanted) h more is = AllArms-widen a b arms h is
IsNode-widen a b g k (Atomic body) h more is = omega arith
IsNode-widen a b g k (Back number fold) h more is = let low : number ≤ g = is.1 in (is.0, omega arith)

pub AreNodes-widen : (a b g k : ℕ) (nodes : List PatNode) → a ≤ b → g ≤ k → AreNodes a g nodes → AreNodes b k nodes
AreNodes-widen a b g k [] h more are = tt
AreNodes-widen a b g k (node ∷ nodes) h more are =
    (IsNode-widen a b g k node h more are.0, AreNodes-widen a b g k nodes h more are.1)

pub AreLists-raise : (n g k : ℕ) (lists : NodeLists) → g ≤ k → AreLists n g lists → AreLists n k lists
AreLists-raise n g k [] more are = tt
AreLists-raise n g k (nodes ∷ lists) more are =
    (AreNodes-widen n n g k nodes (omega arith) more are.0, AreLists-raise (n + 1) g k lists more are.1)

pub AreLists-push : (n g m : ℕ) (lists : NodeLists) (nodes : List PatNode) → AreLists n g lists → m ≤ n + length lists
    → AreNodes m g nodes → AreLists n g (lists ++ nodes ∷ [])
AreLists-push n g m [] nodes are h new = (AreNodes-widen m n g g nodes (omega arith) (omega arith) new, tt)
AreLists-push n g m (first ∷ lists) nodes are h new =
    (are.0, AreLists-push (n + 1) g m lists nodes are.1 (omega arith) new)

pub AreNodes-list : (n g : ℕ) (lists : NodeLists) (k m : ℕ) → AreLists n g lists → k < length lists
    → n + length lists ≤ m → AreNodes m g (unwrap_or (slice_get lists k) [])
AreNodes-list n g [] k m are h room = absurd (omega arith)
AreNodes-list n g (nodes ∷ lists) zero m are h room = AreNodes-widen n m g g nodes (omega arith) (omega arith) are.0
AreNodes-list n g (nodes ∷ lists) (suc k) m are h room =
    AreNodes-list (n + 1) g lists k m are.1 (omega arith) (omega arith)

-- each of the numbers is below the bound
pub AllIds-at : (n : ℕ) (ids : List ListId) (k : ℕ) (d : ListId) → AllIds n ids → k < length ids
    → (get_or ids k d).0 < n
AllIds-at n [] k d all h = absurd (omega arith)
AllIds-at n (id ∷ ids) zero d all h = all.0
AllIds-at n (id ∷ ids) (suc k) d all h = AllIds-at n ids k d all.1 (omega arith)
