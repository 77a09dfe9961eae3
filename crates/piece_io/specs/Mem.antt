-- Objects in memory: which of their calls fail, and what each call moves. The rules are this project's own.
use Rattle.std.specs.Prelude.{ℕ, ◌-◌, ◌≤◌, List, ◌++◌, length, drop, min, Contains}
use Rattle.piece_io.specs.Told.{risen}

-- the numbers, from 1, of the calls that are to fail, and how many calls were made
pub record Calls : Type 0 where
  pub failing : List ℕ
  pub made : ℕ

-- the call that comes next is to fail
abbrev pub IsNextFailing : Calls → Type 0
IsNextFailing c = Contains c.failing (risen c.made)

-- once one more call is made
abbrev pub called : Calls → Calls
called c = record { failing = c.failing; made = risen c.made }

-- a source: the bytes that are left, and the most that one read gives
pub record SourceState : Type 0 where
  pub left : List ℕ
  pub piece : ℕ
  pub calls : Calls
  pub faults : ℕ

-- how many bytes a read gives, into so much room
abbrev pub read_size : SourceState → ℕ → ℕ
read_size s room = min s.piece (min room (length s.left))

abbrev pub after_read : SourceState → ℕ → SourceState
after_read s n = record { left = drop n s.left; piece = s.piece; calls = called s.calls; faults = s.faults }

abbrev pub after_failed_read : SourceState → SourceState
after_failed_read s = record { left = s.left; piece = s.piece; calls = called s.calls; faults = risen s.faults }

-- a sink: the bytes that it holds, the most that it may hold, and the most that one write takes
pub record SinkState : Type 0 where
  pub held : List ℕ
  pub room : ℕ
  pub piece : ℕ
  pub calls : Calls
  pub faults : ℕ

abbrev pub IsFull : SinkState → Type 0
IsFull s = s.room ≤ length s.held

-- how many bytes a write takes, of so many
abbrev pub write_size : SinkState → ℕ → ℕ
write_size s size = min s.piece (min size (s.room - length s.held))

abbrev pub after_write : SinkState → List ℕ → SinkState
after_write s bytes = record { held = s.held ++ bytes; room = s.room; piece = s.piece; calls = called s.calls; faults = s.faults }

abbrev pub after_failed_write : SinkState → SinkState
after_failed_write s = record { held = s.held; room = s.room; piece = s.piece; calls = called s.calls; faults = risen s.faults }
