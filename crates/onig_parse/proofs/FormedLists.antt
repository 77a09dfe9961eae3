-- Items that name earlier lists and groups up to a number.
use Rattle.std.proofs.Common.{ℕ, zero, suc, ◌+◌, ◌<◌, ◌≤◌, List, [], ◌∷◌, ◌++◌, length, map, get_or, arith}
use Rattle.pattern_defs.specs.declared.nodes.ListId.{ListId}
use Rattle.pattern_defs.specs.Patterns.{AllIds}
use Rattle.syntax_defs.specs.declared.items.GroupName.{GroupName}
use Rattle.syntax_defs.specs.declared.items.Item.{Item}
use Rattle.syntax_defs.specs.declared.items.Item.TheVariants.{One, At, Choice, Group, Repeat, Ahead, Behind, Atomic}
use Rattle.syntax_defs.specs.declared.items.Item.TheVariants.{Back}
use Rattle.onig_parse.specs.Formed.{IsItem, AreItems, AreItemLists, AreNames}
use Rattle.pattern_tree.proofs.ListLemmas.{AllIds-widen}
use Rattle.onig_parse.proofs.ListLemmas.{behind}

-- what comes behind numbers below n is at most n
pub behind_within : (n low : ℕ) (ids : List ListId) → low ≤ n → AllIds n ids → behind low ids ≤ n
behind_within n low [] h all = h
behind_within n low (id ∷ ids) h all = let lt : id.0 < n = all.0 in behind_within n (id.0 + 1) ids (omega arith) all.1

-- what names lists below a number and groups up to one does so for greater ones
pub IsItem-widen : (text : List ℕ) (a b g k : ℕ) (item : Item) → a ≤ b → g ≤ k → IsItem text a g item
    → IsItem text b k item
IsItem-widen text a b g k (One at options depth) h more is = is
IsItem-widen text a b g k (At anchor) h more is = tt
IsItem-widen text a b g k (Choice ids) h more is = (AllIds-widen a b ids h is.0, is.1)
IsItem-widen text a b g k (Group number body) h more is =
    let low : number ≤ g = is.1 in let lt : body.0 < a = is.2 in (is.0, omega arith, omega arith)
IsItem-widen text a b g k (Repeat body least most greedy) h more is = (is.0, let lt : body.0 < a = is.1 in omega arith)
IsItem-widen text a b g k (Ahead body wanted) h more is = omega arith
IsItem-widen text a b g k (Behind at arms wanted) h more is = AllIds-widen a b arms h is
IsItem-widen text a b g k (Atomic body) h more is = omega arith
IsItem-widen text a b g k (Back at target fold) h more is = tt

pub AreItems-widen : (text : List ℕ) (a b g k : ℕ) (items : List Item) → a ≤ b → g ≤ k → AreItems text a g items
    → AreItems text b k items
AreItems-widen text a b g k [] h more are = tt
AreItems-widen text a b g k (item ∷ items) h more are =
    (IsItem-widen text a b g k item h more are.0, AreItems-widen text a b g k items h more are.1)

pub AreItems-append : (text : List ℕ) (n g : ℕ) (items later : List Item) → AreItems text n g items
    → AreItems text n g later → AreItems text n g (items ++ later)
AreItems-append text n g [] later are more = more
AreItems-append text n g (item ∷ items) later are more = (are.0, AreItems-append text n g items later are.1 more)

pub AreItemLists-raise : (text : List ℕ) (n g k : ℕ) (lists : List (List Item)) → g ≤ k → AreItemLists text n g lists
    → AreItemLists text n k lists
AreItemLists-raise text n g k [] more are = tt
AreItemLists-raise text n g k (items ∷ lists) more are =
    (AreItems-widen text n n g k items (omega arith) more are.0, AreItemLists-raise text (n + 1) g k lists more are.1)

pub AreItemLists-push : (text : List ℕ) (n g m : ℕ) (lists : List (List Item)) (items : List Item)
    → AreItemLists text n g lists → m ≤ n + length lists → AreItems text m g items
    → AreItemLists text n g (lists ++ items ∷ [])
AreItemLists-push text n g m [] items are h new =
    (AreItems-widen text m n g g items (omega arith) (omega arith) new, tt)
AreItemLists-push text n g m (first ∷ lists) items are h new =
    (are.0, AreItemLists-push text (n + 1) g m lists items are.1 (omega arith) new)

pub AreNames-raise : (g k : ℕ) (names : List GroupName) → g ≤ k → AreNames g names → AreNames k names
AreNames-raise g k [] more are = tt
AreNames-raise g k (known ∷ names) more are =
    let low : known.number ≤ g = are.1 in (are.0, omega arith, AreNames-raise g k names more are.2)

pub AreNames-push : (g : ℕ) (names : List GroupName) (known : GroupName) → AreNames g names → 0 < known.number
    → known.number ≤ g → AreNames g (names ++ known ∷ [])
AreNames-push g [] known are low high = (low, high, tt)
AreNames-push g (first ∷ names) known are low high = (are.0, are.1, AreNames-push g names known are.2 low high)

-- what is read out of lists

pub AreItems-at : (text : List ℕ) (n g : ℕ) (items : List Item) (k : ℕ) (d : Item) → AreItems text n g items
    → k < length items → IsItem text n g (get_or items k d)
AreItems-at text n g [] k d are h = absurd (omega arith)
AreItems-at text n g (item ∷ items) zero d are h = are.0
AreItems-at text n g (item ∷ items) (suc k) d are h = AreItems-at text n g items k d are.1 (omega arith)

-- lists that are seen by a function
pub AreItemLists-at : {X : Type 0} (f : X → List Item) (text : List ℕ) (n g : ℕ) (xs : List X) (k m : ℕ) (d : X)
    → AreItemLists text n g (map f xs) → k < length xs → n + k ≤ m → AreItems text m g (f (get_or xs k d))
AreItemLists-at f text n g [] k m d are h room = absurd (omega arith)
AreItemLists-at f text n g (x ∷ xs) zero m d are h room =
    AreItems-widen text n m g g (f x) (omega arith) (omega arith) are.0
AreItemLists-at f text n g (x ∷ xs) (suc k) m d are h room =
    AreItemLists-at f text (n + 1) g xs k m d are.1 (omega arith) (omega arith)
