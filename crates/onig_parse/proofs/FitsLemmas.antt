-- Nodes that stand for items, one more at a time.
use Rattle.std.proofs.Common.{ℕ, List, [], ◌∷◌, ◌++◌, Option}
use Rattle.pattern_defs.specs.declared.nodes.PatNode.{PatNode}
use Rattle.pattern_defs.specs.Patterns.{NodeLists}
use Rattle.syntax_defs.specs.declared.items.Item.{Item}
use Rattle.syntax_defs.specs.PatternSyntax.{Parsed}
use Rattle.syntax_defs.specs.PatternMeaning.{FitsItem, FitsItems, FitsLists}

pub FitsItems-push : (text : List ℕ) (p : Parsed) (ls : List (Option ℕ)) (nodes : List PatNode) (items : List Item)
    (node : PatNode) (item : Item) → FitsItems text p ls nodes items → FitsItem text p ls node item
    → FitsItems text p ls (nodes ++ node ∷ []) (items ++ item ∷ [])
FitsItems-push text p ls [] [] node item fits one = (one, tt)
FitsItems-push text p ls [] (i ∷ items) node item fits one = absurd fits
FitsItems-push text p ls (n ∷ nodes) [] node item fits one = absurd fits
FitsItems-push text p ls (n ∷ nodes) (i ∷ items) node item fits one =
    (fits.0, FitsItems-push text p ls nodes items node item fits.1 one)

pub FitsLists-push : (text : List ℕ) (p : Parsed) (ls : List (Option ℕ)) (trees : NodeLists)
    (lists : List (List Item)) (nodes : List PatNode) (items : List Item) → FitsLists text p ls trees lists
    → FitsItems text p ls nodes items → FitsLists text p ls (trees ++ nodes ∷ []) (lists ++ items ∷ [])
FitsLists-push text p ls [] [] nodes items fits one = (one, tt)
FitsLists-push text p ls [] (i ∷ lists) nodes items fits one = absurd fits
FitsLists-push text p ls (n ∷ trees) [] nodes items fits one = absurd fits
FitsLists-push text p ls (n ∷ trees) (i ∷ lists) nodes items fits one =
    (fits.0, FitsLists-push text p ls trees lists nodes items fits.1 one)
