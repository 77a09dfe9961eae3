-- Openers that are met at the nesting limit, and the texts of a tree that hold them.
use Rattle.std.specs.Prelude.{◌≡◌, ℕ, ◌<◌, ◌↔◌, ◌⊎◌, List, [], ◌∷◌, ◌++◌, length, Bool, true, nat_le, if◌then◌else◌}
use Rattle.text_pos.specs.declared.length.Length.{Length}
use Rattle.text_pos.specs.Lengths.{plus}
use Rattle.pairing_defs.specs.declared.Role.{Role}
use Rattle.pairing_defs.specs.declared.Role.TheVariants.{Opener, Closer}
use Rattle.pairing_defs.specs.declared.Mark.{Mark}
use Rattle.pairing_defs.specs.Pairing.{Open, open_by, nothing_open}
use Rattle.tree_defs.specs.Tree.{Tree}
use Rattle.tree_defs.specs.Items.{Items, end, text, lone, pair, unclosed, stray, items_of, behind, Stands, IsWithin}
use Rattle.tree_defs.specs.Rows.{start}

-- ---- openers without a row
abbrev pub cut_by : ℕ → Open → Mark → Role → List Mark
cut_by limit state m (Opener kind) = if nat_le limit (length state.entries) then m ∷ [] else []
cut_by limit state m (Closer kinds) = []

-- the marks that pairing passes over, from a state on: openers that are met where `limit` entries are open
abbrev pub cut_from : ℕ → Open → List Mark → List Mark
cut_from limit state [] = []
cut_from limit state (m ∷ ms) = cut_by limit state m m.role ++ cut_from limit (open_by limit state m.role) ms

abbrev pub cut_openers : ℕ → List Mark → List Mark
cut_openers limit ms = cut_from limit nothing_open ms

-- ---- texts
pub record Piece : Type 0 where
  pub at : Length
  pub len : Length
  pub cut : Bool

-- the texts of items, with their places
abbrev pub texts_from : Items → Length → List Piece
texts_from end at = []
texts_from (text len cut rest) at = record { at = at; len = len; cut = cut } ∷ texts_from rest (plus at len)
texts_from (lone len kinds rest) at = texts_from rest (plus at len)
texts_from (pair opener kind inside closer rest) at =
    texts_from inside (plus at opener) ++ texts_from rest (plus (behind inside (plus at opener)) closer)
texts_from (unclosed opener kind inside) at = texts_from inside (plus at opener)
texts_from stray at = []

abbrev pub texts_of : Tree → List Piece
texts_of t = texts_from (items_of t) start

-- ---- membership
abbrev pub IsIn : {X : Type 0} → X → List X → Type 0
IsIn x [] = ⊥
IsIn x (y ∷ ys) = (x ≡ y) ⊎ IsIn x ys

-- a mark takes some columns
abbrev pub AreSome : List Mark → Type 0
AreSome [] = Unit {0}
AreSome (m ∷ ms) = (m.at.col < m.to) × AreSome ms

abbrev pub LiesIn : Mark → Piece → Type 0
LiesIn m p = IsWithin p.at p.len m

-- some text holds the whole mark
pub record IsHeld (m : Mark) (ps : List Piece) : Type 0 where
  pub piece : Piece
  pub there : IsIn piece ps
  pub lies : LiesIn m piece

-- some mark lies whole in the text
pub record Holds (p : Piece) (ms : List Mark) : Type 0 where
  pub mark : Mark
  pub there : IsIn mark ms
  pub lies : LiesIn mark p

-- Each opener that is met at the limit lies whole in a text of the tree, and a text is cut exactly where one lies in it.
pub record CutsLie (limit : ℕ) (t : Tree) (ms : List Mark) : Type 0 where
  pub held : (m : Mark) → IsIn m (cut_openers limit ms) → IsHeld m (texts_of t)
  pub cut : (p : Piece) → IsIn p (texts_of t) → (p.cut ≡ true) ↔ Holds p (cut_openers limit ms)

-- So it is of a tree that stands for marks.
abbrev pub CutLaw : Type 0
CutLaw = (limit : ℕ) (t : Tree) (ms : List Mark) → Stands limit 0 (items_of t) start ms → AreSome ms
    → CutsLie limit t ms
