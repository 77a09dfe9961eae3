-- Whole runs of a cutter: pieces are fed and lines are handed out, in any order.
use Rattle.std.specs.Prelude.{◌≡◌, ℕ, List, [], ◌∷◌, ◌++◌, false, Some, None}
use Rattle.piece_io.specs.Cuts.{Cutting, cuts_of, next_cut, Feeds, ended, all_cuts}
use Rattle.piece_io.specs.CutLaws.{HasCut}
use Rattle.piece_io.specs.declared.line_cutter.Cut.{Cut}

-- what happened: a piece was fed, or a line was handed out
pub data Event : Type 0 where
  Fed : List ℕ → Event
  HandedOut : Cut → Event

-- a cutter that was fed nothing
abbrev pub start : Cutting
start = record { cuts = cuts_of []; ended = false }

-- what happened led from one state to another
abbrev pub Leads : Cutting → List Event → Cutting → Type 0
Leads c [] now = c ≡ now
Leads c (Fed piece ∷ events) now =
    (next : Cutting) × Feeds c piece next × (next.ended ≡ false) × HasCut next.cuts × Leads next events now
Leads c (HandedOut cut ∷ events) now = (next : Cutting) × (next_cut c ≡ Some (cut, next)) × Leads next events now

-- these are handed out, and then nothing is there
abbrev pub HandsOut : Cutting → List Cut → Type 0
HandsOut c [] = next_cut c ≡ None
HandsOut c (cut ∷ cuts) = (next : Cutting) × (next_cut c ≡ Some (cut, next)) × HandsOut next cuts

-- all bytes that were fed
abbrev pub bytes_fed : List Event → List ℕ
bytes_fed [] = []
bytes_fed (Fed piece ∷ events) = piece ++ bytes_fed events
bytes_fed (HandedOut cut ∷ events) = bytes_fed events

-- all lines that were handed out
abbrev pub cuts_handed_out : List Event → List Cut
cuts_handed_out [] = []
cuts_handed_out (Fed piece ∷ events) = cuts_handed_out events
cuts_handed_out (HandedOut cut ∷ events) = cut ∷ cuts_handed_out events

-- however the bytes came in pieces, and whenever lines were taken, the lines are those of all the bytes,
-- once each and in order
abbrev pub EachLineOnceInOrder : Type 0
EachLineOnceInOrder = (events : List Event) (now : Cutting) (last : List Cut)
    → Leads start events now → HandsOut (ended now) last → cuts_handed_out events ++ last ≡ all_cuts (bytes_fed events)
