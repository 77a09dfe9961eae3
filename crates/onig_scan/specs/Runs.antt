-- How runs over what is still to match end, and at how many visits, whatever the text.
use Rattle.std.specs.Prelude.{ℕ, ◌+◌, ◌≤◌, List, [], ◌∷◌}
use Rattle.pattern_defs.specs.Attempt.{Subject, Todo, Captures, Ran, Hit, Miss, Spent, go_on}

-- a run that isn't spent and, where it hits, ends at such a place
abbrev pub IsEnd : (ℕ → Type 0) → Ran → Type 0
IsEnd P (Hit to captures left) = P to
IsEnd P (Miss left) = Unit {0}
IsEnd P Spent = ⊥

abbrev pub left_of : Ran → ℕ
left_of (Hit to captures left) = left
left_of (Miss left) = left
left_of Spent = 0

-- the same, at so many visits at most
pub record EndsWith (P : ℕ → Type 0) (ran : Ran) (left cost : ℕ) : Type 0 where
  pub ends : IsEnd P ran
  pub fewer : left_of ran ≤ left
  pub cheap : left ≤ left_of ran + cost

-- what is still to match ends so at each of these places, where so many visits are left
pub record EndsFrom (s : Subject) (From P : ℕ → Type 0) (todo : List Todo) (cost : ℕ) : Type 0 where
  pub ends : (fuel at : ℕ) (captures : Captures) (left : ℕ) → From at → cost ≤ left → left ≤ fuel →
      EndsWith P (go_on s fuel todo at captures left) left cost

-- several ways, one after the other, with the sum of their visits
abbrev pub AllEnd : Subject → (ℕ → Type 0) → (ℕ → Type 0) → List (List Todo) → ℕ → Type 0
AllEnd s From P [] cost = Unit {0}
AllEnd s From P (way ∷ ways) cost =
    (first : ℕ) × (others : ℕ) × (first + others ≤ cost) × EndsFrom s From P way first × AllEnd s From P ways others

abbrev pub Anywhere : ℕ → Type 0
Anywhere at = Unit {0}

abbrev pub Nowhere : ℕ → Type 0
Nowhere at = ⊥
