-- A list that is made from its end, and then reversed.
use Rattle.std.proofs.Common.{◌≡◌, ◌∙◌, List, [], ◌∷◌, ◌++◌, map, reverse, refl, sym, ap, append-nil}
use Rattle.std.proofs.lemmas.List.{map-append, reverse-append, reverse-reverse}

map-reverse : {X Y : Type 0} (f : X → Y) (xs : List X) → map f (reverse xs) ≡ reverse (map f xs)
map-reverse f [] = refl
map-reverse f (x ∷ xs) =
    ap (map f) (reverse-append (x ∷ []) xs)
    ∙ (map-append f (reverse xs) (x ∷ [])
    ∙ (ap (λ ys. ys ++ f x ∷ []) (map-reverse f xs) ∙ sym (reverse-append (f x ∷ []) (map f xs))))

-- what is seen of items in the order in which they were made is seen of all of them, from the end
pub seen_from_the_end : {X Y Z : Type 0} (f : X → Z) (g : Y → Z) (xs : List X) (rest ys : List Y)
    → map f xs ++ map g rest ≡ map g (reverse ys) → rest ≡ [] → map f (reverse xs) ≡ map g ys
seen_from_the_end f g xs rest ys all none =
    let made : map f xs ≡ map g (reverse ys) =
    sym (append-nil (map f xs)) ∙ (ap (λ r. map f xs ++ map g r) (sym none) ∙ all) in
    map-reverse f xs
    ∙ (ap reverse (made ∙ map-reverse g ys) ∙ reverse-reverse (map g ys))
