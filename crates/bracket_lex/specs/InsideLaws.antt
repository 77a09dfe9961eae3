-- Where the inside of a bracket ends, whatever the marks of a text, its end and the limit on nesting. That it is so is
-- this project's own.
use Rattle.std.specs.Prelude.{◌≡◌, ℕ, ◌<◌, ◌≤◌, List, Some, slice_get}
use Rattle.text_pos.specs.declared.length.Pos.{Pos}
use Rattle.text_pos.specs.declared.kinds.Kinds.{Kinds}
use Rattle.pairing_defs.specs.declared.Role.TheVariants.{Opener, Closer}
use Rattle.pairing_defs.specs.declared.Mark.{Mark}
use Rattle.pairing_defs.specs.declared.Row.{Row}
use Rattle.pairing_defs.specs.Pairing.{paired}
use Rattle.bracket_lex.specs.PairLaws.{HasPartner, IsClosedOff}

-- row i is there, and an opener
pub record IsOpener (rows : List Row) (i : ℕ) (row : Row) : Type 0 where
  pub there : slice_get rows i ≡ Some row
  pub kind : ℕ
  pub role : row.mark.role ≡ Opener kind

-- the inside of an opener ends where the first closer behind it starts that closes it, or one before it
abbrev pub InsidesEndAtTheFirstCloser : Type 0
InsidesEndAtTheFirstCloser = (limit : ℕ) (end : Pos) (marks : List Mark) (i l partner : ℕ) (opener closer : Row) → IsOpener (paired limit end marks) i opener
    → HasPartner (paired limit end marks) l closer partner → partner ≤ i → i < l → (IsClosedOff (paired limit end marks) i l → ⊥)
    → opener.inner ≡ closer.mark.at

-- and at the text's end where there is none
abbrev pub OpenInsidesEndWithTheText : Type 0
OpenInsidesEndWithTheText = (limit : ℕ) (end : Pos) (marks : List Mark) (i : ℕ) (opener : Row) → IsOpener (paired limit end marks) i opener
    → ((l : ℕ) → IsClosedOff (paired limit end marks) i l → ⊥) → opener.inner ≡ end

-- of a closer it is where the closer starts
abbrev pub ClosersHaveNoInside : Type 0
ClosersHaveNoInside = (limit : ℕ) (end : Pos) (marks : List Mark) (i : ℕ) (kinds : Kinds) (closer : Row) → slice_get (paired limit end marks) i ≡ Some closer
    → closer.mark.role ≡ Closer kinds → closer.inner ≡ closer.mark.at
