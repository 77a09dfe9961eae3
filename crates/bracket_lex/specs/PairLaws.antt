-- Laws of the rows of a text, whatever its marks, its end and the limit on nesting: how partners belong together.
-- That they hold is this project's own.
use Rattle.std.specs.Prelude.{◌≡◌, ℕ, ◌%◌, ◌<◌, ◌≤◌, ◌⊎◌, List, Some, None, true, slice_get}
use Rattle.text_pos.specs.declared.length.Pos.{Pos}
use Rattle.text_pos.specs.KindSet.{has_kind}
use Rattle.pairing_defs.specs.declared.Role.{Role}
use Rattle.pairing_defs.specs.declared.Role.TheVariants.{Opener, Closer}
use Rattle.pairing_defs.specs.declared.Mark.{Mark}
use Rattle.pairing_defs.specs.declared.Row.{Row}
use Rattle.pairing_defs.specs.declared.TheConstants.{COLOURS}
use Rattle.pairing_defs.specs.Pairing.{paired}

-- row i is there, and its partner is row j
pub record HasPartner (rows : List Row) (i : ℕ) (row : Row) (j : ℕ) : Type 0 where
  pub there : slice_get rows i ≡ Some row
  pub partner : row.partner ≡ Some j

-- rows i and j are there, and the first's partner is the second
pub record ArePartners (rows : List Row) (i j : ℕ) (row other : Row) : Type 0 where
  pub first : HasPartner rows i row j
  pub second : slice_get rows j ≡ Some other

-- the role of a closer of that kind
abbrev pub ClosesKind : Role → ℕ → Type 0
ClosesKind (Opener own) kind = ⊥
ClosesKind (Closer kinds) kind = has_kind kinds kind ≡ true

-- the roles of an opener and of a closer of its kind
abbrev pub OpensFor : Role → Role → Type 0
OpensFor (Opener kind) closer = ClosesKind closer kind
OpensFor (Closer kinds) closer = ⊥

-- where a row has a partner, that row is there, and its partner is the first
abbrev pub PartnersAreMutual : Type 0
PartnersAreMutual = (limit : ℕ) (end : Pos) (marks : List Mark) (i j : ℕ) (row : Row) → HasPartner (paired limit end marks) i row j
    → (other : Row) × HasPartner (paired limit end marks) j other i

-- of two partners the one that comes first is an opener, and the other a closer of its kind
abbrev pub OpenersComeFirst : Type 0
OpenersComeFirst = (limit : ℕ) (end : Pos) (marks : List Mark) (i j : ℕ) (row other : Row) → ArePartners (paired limit end marks) i j row other
    → ((i < j) × OpensFor row.mark.role other.mark.role) ⊎ ((j < i) × OpensFor other.mark.role row.mark.role)

-- partners have the same level, kind level and colour
abbrev pub PartnersAreAlike : Type 0
PartnersAreAlike = (limit : ℕ) (end : Pos) (marks : List Mark) (i j : ℕ) (row other : Row) → ArePartners (paired limit end marks) i j row other
    → (row.level ≡ other.level) × (row.own ≡ other.own) × (row.colour ≡ other.colour)

-- their colour goes by their level, each in turn
abbrev pub ColoursGoByLevel : Type 0
ColoursGoByLevel = (limit : ℕ) (end : Pos) (marks : List Mark) (i j : ℕ) (row : Row) → HasPartner (paired limit end marks) i row j → row.colour ≡ row.level % COLOURS

-- a row without partner has the colour behind these
abbrev pub TheUnpairedHaveTheColourBehind : Type 0
TheUnpairedHaveTheColourBehind = (limit : ℕ) (end : Pos) (marks : List Mark) (i : ℕ) (row : Row) → slice_get (paired limit end marks) i ≡ Some row
    → row.partner ≡ None → row.colour ≡ COLOURS

-- pairs never cross: one that begins inside another ends inside it
abbrev pub PairsNeverCross : Type 0
PairsNeverCross = (limit : ℕ) (end : Pos) (marks : List Mark) (i j k l : ℕ) (outer inner : Row) → HasPartner (paired limit end marks) i outer j → HasPartner (paired limit end marks) k inner l
    → i < k → k < j → k < l → l < j

-- an opener is at a level below the limit
abbrev pub OpenersAreBelowTheLimit : Type 0
OpenersAreBelowTheLimit = (limit : ℕ) (end : Pos) (marks : List Mark) (i kind : ℕ) (row : Row) → slice_get (paired limit end marks) i ≡ Some row
    → row.mark.role ≡ Opener kind → row.level < limit

-- and so is a closer with a partner
abbrev pub PartnersAreBelowTheLimit : Type 0
PartnersAreBelowTheLimit = (limit : ℕ) (end : Pos) (marks : List Mark) (i j : ℕ) (row : Row) → HasPartner (paired limit end marks) i row j → row.level < limit

-- a row is closed off before row i: between the two stands a closer of the row, or of one before it
pub record IsClosedOff (rows : List Row) (k i : ℕ) : Type 0 where
  pub place : ℕ
  pub row : Row
  pub partner : ℕ
  pub closer : HasPartner rows place row partner
  pub around : partner ≤ k
  pub behind : k < place
  pub before : place < i

-- a closer takes the last opener of its kinds that isn't closed off: one that it could take is closed off, or its
-- partner, or before its partner
abbrev pub ClosersTakeTheLastOpener : Type 0
ClosersTakeTheLastOpener = (limit : ℕ) (end : Pos) (marks : List Mark) (k i : ℕ) (opener closer : Row)
    → slice_get (paired limit end marks) k ≡ Some opener → slice_get (paired limit end marks) i ≡ Some closer → k < i → OpensFor opener.mark.role closer.mark.role
    → IsClosedOff (paired limit end marks) k i ⊎ ((j : ℕ) × (closer.partner ≡ Some j) × (k ≤ j))
