-- Numbers of lists that grow by one, and lists that are seen by a function.
use Rattle.std.proofs.Common.{◌≡◌, ℕ, ◌+◌, ◌<◌, ◌≤◌, List, [], ◌∷◌, ◌++◌, length, map, get_or, take, ap, ◌∙◌}
use Rattle.std.proofs.lemmas.List.{take_more, map_push}
use Rattle.pattern_defs.specs.declared.nodes.ListId.{ListId}
use Rattle.pattern_defs.specs.Patterns.{AllIds, RiseFrom}

pub AllIds-push : (n : ℕ) (ids : List ListId) (id : ListId) → AllIds n ids → id.0 < n → AllIds n (ids ++ id ∷ [])
AllIds-push n [] id all h = (h, tt)
AllIds-push n (first ∷ ids) id all h = (all.0, AllIds-push n ids id all.1 h)

-- the least number that may come behind numbers that rise
abbrev pub behind : ℕ → List ListId → ℕ
behind low [] = low
behind low (id ∷ ids) = behind (id.0 + 1) ids

pub RiseFrom-push : (low : ℕ) (ids : List ListId) (id : ListId) → RiseFrom low ids → behind low ids ≤ id.0
    → RiseFrom low (ids ++ id ∷ [])
RiseFrom-push low [] id rise h = (h, tt)
RiseFrom-push low (first ∷ ids) id rise h = (rise.0, RiseFrom-push (first.0 + 1) ids id rise.1 h)

-- one element more, each seen by a function
pub map_more : {X Y : Type 0} (f : X → Y) (xs : List X) (i : ℕ) (d : X) → i < length xs → map f (take (i + 1) xs)
    ≡ map f (take i xs) ++ f (get_or xs i d) ∷ []
map_more f xs i d h = ap (map f) (take_more xs i d h) ∙ map_push f (take i xs) (get_or xs i d)
