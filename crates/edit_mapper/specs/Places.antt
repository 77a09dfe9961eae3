-- What changes keep of their places, so that they are found by halves.
use Rattle.std.specs.Prelude.{◌≡◌, Bool, true, false, List, [], ◌∷◌, map, Option, Some, None}
use Rattle.text_pos.specs.declared.length.Length.{Length}
use Rattle.change_defs.specs.declared.Change.{Change}
use Rattle.change_defs.specs.declared.Joint.{Joint}
use Rattle.change_defs.specs.declared.Placed.{Placed}
use Rattle.change_defs.specs.Changes.{is_less, placed, are_in_order, all_fit}

abbrev pub changes_in : List Placed → List Change
changes_in ps = map (λ p. p.change) ps

-- the places are those of changes in order, and of 32 bits
pub record ArePlaces (ps : List Placed) : Type 0 where
  pub same : ps ≡ placed (changes_in ps)
  pub order : are_in_order (changes_in ps) ≡ true
  pub fit : all_fit (changes_in ps) ≡ true

-- where the last of some changes ends, or else a joint before them
abbrev pub last_end : Joint → List Placed → Joint
last_end joint [] = joint
last_end joint (p ∷ ps) = last_end p.to ps

-- whether a change starts before a place of the new text
abbrev pub starts_before : Option Placed → Length → Bool
starts_before None at = false
starts_before (Some p) at = is_less p.from.new at
