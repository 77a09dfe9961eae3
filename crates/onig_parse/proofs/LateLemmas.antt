-- Where no item is found that can't be kept, each item can be.
use Rattle.std.proofs.Common.{◌≡◌, ℕ, zero, suc, ◌<◌, List, [], ◌∷◌, length, map, get_or, Option, Some, None, refl}
use Rattle.std.proofs.Common.{arith}
use Rattle.syntax_defs.specs.declared.items.Item.{Item}
use Rattle.syntax_defs.specs.Lengths.{earlier, late_place, late_in, late_among}
use Rattle.syntax_defs.specs.PatternSyntax.{Parsed}

earlier-none : (m n : Option ℕ) → earlier m n ≡ None → (m ≡ None) × (n ≡ None)
earlier-none None n e = (refl, e)
earlier-none (Some m) None e = absurd (cc)
earlier-none (Some m) (Some n) e = absurd (cc)

late_in-before : (text : List ℕ) (p : Parsed) (ls : List (Option ℕ)) (items : List Item) (found : Option ℕ)
    → late_in text p ls found items ≡ None → found ≡ None
late_in-before text p ls [] found e = e
late_in-before text p ls (item ∷ items) found e = (earlier-none found _ (late_in-before text p ls items _ e)).0

pub late_in-at : (text : List ℕ) (p : Parsed) (ls : List (Option ℕ)) (items : List Item) (found : Option ℕ) (k : ℕ)
    (d : Item) → late_in text p ls found items ≡ None → k < length items → late_place text p ls (get_or items k d)
    ≡ None
late_in-at text p ls [] found k d e h = absurd (omega arith)
late_in-at text p ls (item ∷ items) found zero d e h = (earlier-none found _ (late_in-before text p ls items _ e)).1
late_in-at text p ls (item ∷ items) found (suc k) d e h = late_in-at text p ls items _ k d e (omega arith)

late_among-before : (text : List ℕ) (p : Parsed) (ls : List (Option ℕ)) (lists : List (List Item)) (found : Option ℕ)
    → late_among text p ls found lists ≡ None → found ≡ None
late_among-before text p ls [] found e = e
late_among-before text p ls (items ∷ lists) found e =
    late_in-before text p ls items found (late_among-before text p ls lists _ e)

-- lists that are seen by a function
pub late_among-at : {X : Type 0} (f : X → List Item) (text : List ℕ) (p : Parsed) (ls : List (Option ℕ)) (xs : List X)
    (found : Option ℕ) (k : ℕ) (d : X) → late_among text p ls found (map f xs) ≡ None → k < length xs
    → late_in text p ls None (f (get_or xs k d)) ≡ None
late_among-at f text p ls [] found k d e h = absurd (omega arith)
late_among-at f text p ls (x ∷ xs) found zero d e h =
    let first : late_in text p ls found (f x) ≡ None = late_among-before text p ls (map f xs) _ e in
    let none : found ≡ None = late_in-before text p ls (f x) found first in
    rw none at first
late_among-at f text p ls (x ∷ xs) found (suc k) d e h = late_among-at f text p ls xs _ k d e (omega arith)
