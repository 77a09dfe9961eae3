-- What has no cut text stands with any number of pairs entered that leaves room for its own.
use Rattle.std.proofs.Common.{◌≡◌, ℕ, ◌+◌, ◌≤◌, List, Bool, true, false, arith}
use Rattle.text_pos.specs.declared.length.Length.{Length}
use Rattle.text_pos.specs.declared.kinds.Kinds.{Kinds}
use Rattle.text_pos.specs.Lengths.{plus}
use Rattle.pairing_defs.specs.declared.Mark.{Mark}
use Rattle.tree_defs.specs.Items.{Items, end, text, lone, pair, unclosed, stray, depth_of, cut_in, behind, AreCut}
use Rattle.tree_defs.specs.Items.{Stands}
use Rattle.tree_defs.proofs.Walk.{or_left, or_right}

abbrev Relevels : ℕ → Items → Type 0
Relevels limit items = (old new : ℕ) (at : Length) (ms : List Mark) → cut_in items ≡ false
    → depth_of items + new ≤ limit → Stands limit old items at ms → Stands limit new items at ms

uncut : (limit old new : ℕ) (cut : Bool) (ms : List Mark) → cut ≡ false → AreCut limit old cut ms
    → AreCut limit new cut ms
uncut limit old new true ms none are = absurd (cc)
uncut limit old new false ms none are = are

text_relevels : (limit : ℕ) (len : Length) (cut : Bool) (rest : Items) → Relevels limit rest
    → Relevels limit (text len cut rest)
text_relevels limit len cut rest relevels old new at ms none room stands = record {
  cuts = stands.cuts;
  more = stands.more;
  are = stands.are;
  lie = stands.lie;
  cut_ones = uncut limit old new cut stands.cuts (or_left cut (cut_in rest) none) stands.cut_ones;
  rest = relevels old new (plus at len) stands.more (or_right cut (cut_in rest) none) room stands.rest;
}

lone_relevels : (limit : ℕ) (len : Length) (kinds : Kinds) (rest : Items) → Relevels limit rest
    → Relevels limit (lone len kinds rest)
lone_relevels limit len kinds rest relevels old new at ms none room stands = record {
  mark = stands.mark;
  more = stands.more;
  are = stands.are;
  place = stands.place;
  role = stands.role;
  rest = relevels old new (plus at len) stands.more none room stands.rest;
}

pair_relevels : (limit : ℕ) (opener : Length) (kind : ℕ) (inside : Items) (closer : Length) (rest : Items)
    → Relevels limit inside → Relevels limit rest → Relevels limit (pair opener kind inside closer rest)
pair_relevels limit opener kind inside closer rest relevels later old new at ms none room stands = record {
  mark = stands.mark;
  within = stands.within;
  last = stands.last;
  more = stands.more;
  kinds = stands.kinds;
  are =
      stands.are;
  place = stands.place;
  role = stands.role;
  room = omega arith;
  not_missed = stands.not_missed;
  last_place = stands.last_place;
  last_role =
      stands.last_role;
  takes = stands.takes;
  passes = stands.passes;
  held = relevels (old + 1) (new + 1) (plus at opener) stands.within (or_left (cut_in inside) (cut_in rest) none)
      (omega arith) stands.held;
  rest = later old new (plus (behind inside (plus at opener)) closer) stands.more
      (or_right (cut_in inside) (cut_in rest) none) (omega arith) stands.rest;
}

unclosed_relevels : (limit : ℕ) (opener : Length) (kind : ℕ) (inside : Items) → Relevels limit inside
    → Relevels limit (unclosed opener kind inside)
unclosed_relevels limit opener kind inside relevels old new at ms none room stands = record {
  mark = stands.mark;
  within = stands.within;
  are = stands.are;
  place = stands.place;
  role = stands.role;
  room =
      omega arith;
  not_missed = stands.not_missed;
  held = relevels (old + 1) (new + 1) (plus at opener) stands.within none (omega arith) stands.held;
}

pub relevels : (limit : ℕ) (items : Items) → Relevels limit items
relevels limit end = λ old new at ms none room stands. stands
relevels limit (text len cut rest) = text_relevels limit len cut rest (relevels limit rest)
relevels limit (lone len kinds rest) = lone_relevels limit len kinds rest (relevels limit rest)
relevels limit (pair opener kind inside closer rest) =
    pair_relevels limit opener kind inside closer rest (relevels limit inside) (relevels limit rest)
relevels limit (unclosed opener kind inside) = unclosed_relevels limit opener kind inside (relevels limit inside)
relevels limit stray = λ old new at ms none room stands. stands
