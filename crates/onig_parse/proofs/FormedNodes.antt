-- Nodes that stand for items which are well formed.
use Rattle.std.proofs.Common.{◌≡◌, ℕ, ◌<◌, ◌≤◌, nat_lt, nat_le, ◌&&◌, List, [], ◌∷◌, map, Bool, true, false, cond}
use Rattle.std.proofs.Common.{Option, Some, None, refl, arith}
use Rattle.std.specs.Prelude.{find}
use Rattle.std.proofs.lemmas.Bool.Decides.{nat_tests}
use Rattle.pattern_defs.specs.declared.nodes.ListId.{ListId}
use Rattle.pattern_defs.specs.declared.nodes.PatNode.{PatNode}
use Rattle.pattern_defs.specs.declared.nodes.PatNode.TheVariants as nodes
use Rattle.pattern_defs.specs.Patterns.{AllIds, AllArms, IsNode, AreNodes}
use Rattle.syntax_defs.specs.declared.items.GroupName.{GroupName}
use Rattle.syntax_defs.specs.declared.items.Target.{Target}
use Rattle.syntax_defs.specs.declared.items.Target.TheVariants as targets
use Rattle.syntax_defs.specs.declared.items.Item.{Item}
use Rattle.syntax_defs.specs.declared.items.Item.TheVariants.{One, At, Choice, Group, Repeat, Ahead, Behind, Atomic}
use Rattle.syntax_defs.specs.declared.items.Item.TheVariants.{Back}
use Rattle.syntax_defs.specs.Lengths.{group_of, number_of_name}
use Rattle.syntax_defs.specs.PatternSyntax.{Parsed, is_named}
use Rattle.syntax_defs.specs.PatternMeaning.{FitsItem, FitsItems, arm_of}
use Rattle.onig_parse.specs.Formed.{IsItem, AreItems, AreNames}

-- the group of a back reference is there

if-some : (b : Bool) (n m : ℕ) → cond b (Some n) None ≡ Some m → (b ≡ true) × (n ≡ m)
if-some true n m e = (refl, cc)
if-some false n m e = absurd (cc)

named-there : (groups : ℕ) (test : GroupName → Bool) (names : List GroupName) (number : ℕ) → AreNames groups names
    → number_of_name (find test names) ≡ Some number → (0 < number) × (number ≤ groups)
named-there groups test [] number are e = absurd (cc)
named-there groups test (known ∷ names) number are e = go (test known) e (named-there groups test names number are.2)
  where
    go : (b : Bool) → number_of_name (cond b (Some known) (find test names)) ≡ Some number
        → (number_of_name (find test names) ≡ Some number → (0 < number) × (number ≤ groups)) → (0 < number)
        × (number ≤ groups)
    go true found rest = let same : known.number ≡ number = cc in rw (← same) (are.0, are.1)
    go false found rest = rest found

pub group_of-there : (text : List ℕ) (p : Parsed) (target : Target) (number : ℕ) → AreNames p.groups p.names
    → group_of text p target ≡ Some number → (0 < number) × (number ≤ p.groups)
group_of-there text p (targets.Number n) number are e =
    let found = if-some (nat_lt 0 n && nat_le n p.groups) n number e in
    let test : nat_lt 0 n && nat_le n p.groups ≡ true = found.0 in
    let same : n ≡ number = found.1 in
    (grind (arith, nat_tests), grind (arith, nat_tests))
group_of-there text p (targets.Name name) number are e = named-there p.groups (is_named text name) p.names number are e

-- nodes that stand for items

AllArms-of : (n : ℕ) (ls : List (Option ℕ)) (ids : List ListId) → AllIds n ids → AllArms n (map (arm_of ls) ids)
AllArms-of n ls [] all = tt
AllArms-of n ls (id ∷ ids) all = (all.0, AllArms-of n ls ids all.1)

IsNode-fits : (text : List ℕ) (p : Parsed) (ls : List (Option ℕ)) (n : ℕ) (node : PatNode) (item : Item)
    → AreNames p.groups p.names → IsItem text n p.groups item → FitsItem text p ls node item → IsNode n p.groups node
IsNode-fits text p ls n (nodes.One set) (One at options depth) names is fits = tt
IsNode-fits text p ls n (nodes.At anchor) (At wanted) names is fits = tt
IsNode-fits text p ls n (nodes.Choice ids) (Choice wanted) names is fits = rw fits is
IsNode-fits text p ls n (nodes.Group number body) (Group k id) names is fits = rw (fits.0, fits.1) is
IsNode-fits text p ls n (nodes.Repeat body least most greedy) (Repeat id k m g) names is fits =
    rw (fits.0, fits.1, fits.2) is
IsNode-fits text p ls n (nodes.Ahead body wanted) (Ahead id w) names is fits = rw (fits.0) is
IsNode-fits text p ls n (nodes.Behind arms wanted) (Behind at ids w) names is fits =
    rw (fits.0) (AllArms-of n ls ids is)
IsNode-fits text p ls n (nodes.Atomic body) (Atomic id) names is fits = rw fits is
IsNode-fits text p ls n (nodes.Back number fold) (Back at target f) names is fits =
    group_of-there text p target number names fits.0
IsNode-fits text p ls n _ _ names is fits = absurd fits

pub AreNodes-fit : (text : List ℕ) (p : Parsed) (ls : List (Option ℕ)) (n : ℕ) (nodes : List PatNode)
    (items : List Item) → AreNames p.groups p.names → AreItems text n p.groups items → FitsItems text p ls nodes items
    → AreNodes n p.groups nodes
AreNodes-fit text p ls n [] [] names are fits = tt
AreNodes-fit text p ls n [] (item ∷ items) names are fits = absurd fits
AreNodes-fit text p ls n (node ∷ nodes) [] names are fits = absurd fits
AreNodes-fit text p ls n (node ∷ nodes) (item ∷ items) names are fits =
    (IsNode-fits text p ls n node item names are.0 fits.0, AreNodes-fit text p ls n nodes items names are.1 fits.1)
