-- What pairing has done so far, and what is left to say of a row then.
use Rattle.std.specs.Prelude.{ℕ, List, [], ◌∷◌, length, nat_le, if◌then◌else◌, Option, Some, None}
use Rattle.pairing_defs.specs.declared.Row.{Row}
use Rattle.pairing_defs.specs.Pairing.{Entry, Open, Placed, Removal}

-- the rows so far, without colours and inner ends, and the open entries, the last opened first
pub record Progress : Type 0 where
  pub limit : ℕ
  pub rows : List Placed
  pub entries : List Entry

abbrev pub open_in : Progress → Open
open_in p = record { rows = length p.rows; entries = p.entries }

-- a row before its colour, its inner end and the partner of an opener are known
abbrev pub placed_of : Row → Placed
placed_of r = record { mark = r.mark; level = r.level; own = r.own; closes = r.partner }

-- the first of the rows behind that closes row n or one before it
abbrev pub first_for : ℕ → List Removal → Option Removal
first_for n [] = None
first_for n (r ∷ rs) = if nat_le r.closes n then Some r else first_for n rs
