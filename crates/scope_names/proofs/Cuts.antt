-- How a text is cut at its first space.
use Rattle.std.proofs.Common.{◌≡◌, ◌≢◌, ℕ, suc, ◌<◌, List, [], ◌∷◌, ◌++◌, length, get_or, filter, refl, sym, ◌∙◌, ap}
use Rattle.std.proofs.Common.{append_assoc, arith}
use Rattle.std.proofs.lemmas.List.{append-nil}
use Rattle.scope_defs.specs.Scopes.{Name, cut, has_characters, pieces}

-- no space stands in a text
abbrev pub HasNoSpace : List ℕ → Type 0
HasNoSpace xs = (i : ℕ) → i < length xs → get_or xs i 0 ≢ 32

cut_on : (c : ℕ) (begun cs : List ℕ) → c ≢ 32 → cut begun (c ∷ cs) ≡ cut (begun ++ c ∷ []) cs
cut_on c begun cs other = grind arith

pub cut-part : (begun xs rest : List ℕ) → HasNoSpace xs → cut begun (xs ++ 32 ∷ rest) ≡ (begun ++ xs) ∷ cut [] rest
cut-part begun [] rest none = ap (λ b. b ∷ cut [] rest) (sym (append-nil begun))
cut-part begun (c ∷ cs) rest none =
    cut_on c begun (cs ++ 32 ∷ rest) (none 0 (omega arith))
    ∙ (cut-part (begun ++ c ∷ []) cs rest (λ i h. none (suc i) (omega arith))
    ∙ ap (λ b. b ∷ cut [] rest) (append_assoc begun (c ∷ []) cs))

pub cut-whole : (begun xs : List ℕ) → HasNoSpace xs → cut begun xs ≡ (begun ++ xs) ∷ []
cut-whole begun [] none = ap (λ b. b ∷ []) (sym (append-nil begun))
cut-whole begun (c ∷ cs) none =
    cut_on c begun cs (none 0 (omega arith))
    ∙ (cut-whole (begun ++ c ∷ []) cs (λ i h. none (suc i) (omega arith))
    ∙ ap (λ b. b ∷ []) (append_assoc begun (c ∷ []) cs))

filter_first : (x : Name) (xs : List Name) → filter has_characters (x ∷ xs)
    ≡ filter has_characters (x ∷ []) ++ filter has_characters xs
filter_first [] xs = refl
filter_first (c ∷ cs) xs = refl

pub pieces-part : (text xs rest : List ℕ) → text ≡ xs ++ 32 ∷ rest → HasNoSpace xs → pieces text
    ≡ filter has_characters (xs ∷ []) ++ pieces rest
pieces-part text xs rest is none = ap pieces is
    ∙ (ap (filter has_characters) (cut-part [] xs rest none) ∙ filter_first xs (cut [] rest))

pub pieces-whole : (text : List ℕ) → HasNoSpace text → pieces text ≡ filter has_characters (text ∷ [])
pieces-whole text none = ap (filter has_characters) (cut-whole [] text none)

-- the names of a text, where those of its front are there and a piece is added to them

pub piece_added : (all more : List Name) (text rest xs ys : List ℕ) → more ≡ all ++ filter has_characters (xs ∷ [])
    → all ++ pieces rest ≡ pieces text → rest ≡ xs ++ 32 ∷ ys → HasNoSpace xs → more ++ pieces ys ≡ pieces text
piece_added all more text rest xs ys added so_far is none =
    ap (λ names. names ++ pieces ys) added
    ∙ (append_assoc all (filter has_characters (xs ∷ [])) (pieces ys)
    ∙ (ap (λ names. all ++ names) (sym (pieces-part rest xs ys is none)) ∙ so_far))

pub last_added : (all more : List Name) (text rest : List ℕ) → more ≡ all ++ filter has_characters (rest ∷ [])
    → all ++ pieces rest ≡ pieces text → HasNoSpace rest → more ≡ pieces text
last_added all more text rest added so_far none =
    added ∙ (ap (λ names. all ++ names) (sym (pieces-whole rest none)) ∙ so_far)
