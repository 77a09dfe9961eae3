-- What is known of the trees of owned patterns holds of the choices that they are seen as.
use Rattle.std.proofs.Common.{◌≡◌, ℕ, ◌≤◌, ◌<◌, List, [], ◌∷◌, length, map, get_or, refl, ap, ◌∙◌, sym, subst}
use Rattle.std.proofs.Common.{arith}
use Rattle.std.specs.Prelude.{All, Some, option_map, slice_get}
use Rattle.std.proofs.lemmas.Option.{slice_get-map, slice_get_read, get_or_from_slice_get}
use Rattle.std.proofs.lemmas.List.{length-map}
use Rattle.std.proofs.lemmas.List.Elements.{All-nil, All-cons, All-head, All-tail, All-get_or}
use Rattle.pattern_defs.specs.Patterns.{Tree}
use Rattle.canonical_patterns.specs.Canonical.{canonical}
use Rattle.line_defs.specs.Search.{Choice}
use Rattle.line_search.specs.declared.choices.Owned.{Owned}
use Rattle.line_search.specs.Choices.{choice_of_owned, tree_of_owned, HaveRoom, HaveOwners}
use Rattle.line_search.specs.Finds.{IsBelow}
use Rattle.line_search.proofs.Scans.{trees_of}

abbrev Fits : ℕ → Tree → Type 0
Fits groups tree = tree.groups ≤ groups

abbrev HasRoomFor : ℕ → Choice → Type 0
HasRoomFor groups choice = choice.tree.groups ≤ groups

pub choices_have_room : (groups : ℕ) (owned : List Owned) →
    All (λ tree. tree.groups ≤ groups) (map tree_of_owned owned) →
    HaveRoom groups (map choice_of_owned owned)
choices_have_room groups [] all = All-nil (HasRoomFor groups)
choices_have_room groups (one ∷ owned) all =
    All-cons (HasRoomFor groups) (choice_of_owned one) (map choice_of_owned owned)
    (All-head (Fits groups) (tree_of_owned one) (map tree_of_owned owned) all)
    (choices_have_room groups owned (All-tail (Fits groups) (tree_of_owned one) (map tree_of_owned owned) all))

pub trees_have_room : (groups : ℕ) (owned : List Owned) → HaveRoom groups (map choice_of_owned owned) →
    All (λ tree. tree.groups ≤ groups) (map tree_of_owned owned)
trees_have_room groups [] all = All-nil (Fits groups)
trees_have_room groups (one ∷ owned) all =
    All-cons (Fits groups) (tree_of_owned one) (map tree_of_owned owned)
    (All-head (HasRoomFor groups) (choice_of_owned one) (map choice_of_owned owned) all)
    (trees_have_room groups owned (All-tail (HasRoomFor groups) (choice_of_owned one) (map choice_of_owned owned) all))

-- the trees of the choices are those patterns in canonical form
pub trees-canonical : (owned : List Owned) →
    trees_of (map choice_of_owned owned) ≡ map canonical (map tree_of_owned owned)
trees-canonical [] = refl
trees-canonical (one ∷ owned) = ap (λ rest. canonical (tree_of_owned one) ∷ rest) (trees-canonical owned)

-- ---- one of the patterns

-- as many choices as patterns
pub choices_low : (owned : List Owned) (trees : List Tree) (choices : List Choice) (index : ℕ) →
    trees ≡ map tree_of_owned owned → map choice_of_owned owned ≡ choices → index < length trees →
    index < length choices
choices_low owned trees choices index are seen low =
    let t : length trees ≡ length owned = ap length are ∙ length-map owned tree_of_owned in
    let c : length choices ≡ length owned = ap length (sym seen) ∙ length-map owned choice_of_owned in
    omega arith

pub owned_low : (owned : List Owned) (trees : List Tree) (index : ℕ) → trees ≡ map tree_of_owned owned →
    index < length trees → index < length owned
owned_low owned trees index are low =
    let t : length trees ≡ length owned = ap length are ∙ length-map owned tree_of_owned in omega arith

pub choice_at : (owned : List Owned) (choices : List Choice) (index : ℕ) (one : Owned) →
    map choice_of_owned owned ≡ choices → index < length owned → one ≡ get_or owned index one →
    slice_get choices index ≡ Some (choice_of_owned one)
choice_at owned choices index one seen low is =
    ap (λ cs. slice_get cs index) (sym seen) ∙ slice_get-map choice_of_owned owned index
    ∙ ap (option_map choice_of_owned) (slice_get_read owned (length owned) index one refl low is)

pub owner_at : (rules : ℕ) (choices : List Choice) (index : ℕ) (choice : Choice) → index < length choices →
    slice_get choices index ≡ Some choice → HaveOwners rules choices → IsBelow rules choice.of
owner_at rules choices index choice low there owners =
    subst (λ (c : Choice). IsBelow rules c.of) (get_or_from_slice_get choices index choice choice there)
    (All-get_or (λ c. IsBelow rules c.of) choices index choice low owners)
