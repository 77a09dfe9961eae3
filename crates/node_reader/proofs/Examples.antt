-- Which nodes start at an offset, and which of them is the longest that passes.
use Rattle.std.proofs.Common.{◌≡◌, ℕ, ◌==◌, [], ◌∷◌, true, false, Option, Some, None, refl, sym, ◌∙◌, arith, inl, inr}
use Rattle.std.proofs.lemmas.Bool.{true≢false}
use Rattle.std.proofs.lemmas.Bool.Decides.{nat_tests}
use Rattle.text_pos.proofs.Bits.{is_set_one}
use Rattle.text_pos.specs.KindSet.{is_set}
use Rattle.text_pos.specs.declared.length.Length.{Length}
use Rattle.text_pos.specs.declared.kinds.Kinds.{Kinds}
use Rattle.text_pos.specs.Lengths.{IsLess}
use Rattle.tree_defs.specs.Tree.{Tree, Nothing, Text, Bracket, Lone, Pair, Two, Three}
use Rattle.node_reader.specs.Starts.{starting}
use Rattle.node_reader.specs.Asks.{IsLongest}
use Rattle.node_reader.specs.declared.ask.Ask.{Ask}

abbrev columns : ℕ → Length
columns n = record { lines = 0; cols = n }

abbrev letters : ℕ → Tree
letters n = Text (columns n) false

-- ---- `([)]`: `(` is of kind 2, `[` of kind 1, and `]` closes nothing
abbrev brackets : Kinds
brackets = record { bits = 2 }

abbrev inner : Tree
inner = Pair (columns 1) 1 Nothing None

abbrev outer : Tree
outer = Pair (columns 1) 2 inner (Some (columns 1))

abbrev stray : Tree
stray = Lone (columns 1) brackets

abbrev crossed : Tree
crossed = Two outer stray

-- the list, the pair and the opener start at the start
crossed_start : starting crossed (columns 0) ≡ crossed ∷ outer ∷ Bracket (columns 1) 2 ∷ []
crossed_start = refl

-- what is inside the pair starts behind its opener
crossed_inside : starting crossed (columns 1) ≡ inner ∷ Bracket (columns 1) 1 ∷ []
crossed_inside = refl

-- then the closer
crossed_closer : starting crossed (columns 2) ≡ Bracket (columns 1) 2 ∷ []
crossed_closer = refl

-- and the closer of nothing open
crossed_stray : starting crossed (columns 3) ≡ stray ∷ []
crossed_stray = refl

-- at the end nothing starts
crossed_end : starting crossed (columns 4) ≡ []
crossed_end = refl

-- ---- a list of three children: `ab`, `()`, and `c`, a line end and `d`
abbrev pair : Tree
pair = Pair (columns 1) 2 Nothing (Some (columns 1))

abbrev last : Tree
last = Text (record { lines = 1; cols = 1 }) false

abbrev three : Tree
three = Three (letters 2) pair last

first_child : starting three (columns 0) ≡ three ∷ letters 2 ∷ []
first_child = refl

second_child : starting three (columns 2) ≡ pair ∷ Bracket (columns 1) 2 ∷ []
second_child = refl

third_child : starting three (columns 4) ≡ last ∷ []
third_child = refl

-- inside a text nothing starts
inside_a_text : starting three (columns 1) ≡ []
inside_a_text = refl

inside_a_text_of_two_lines : starting three (record { lines = 1; cols = 0 }) ≡ []
inside_a_text_of_two_lines = refl

no_root : starting Nothing (columns 0) ≡ []
no_root = refl

-- ---- the longest that passes
abbrev ask : ℕ → ℕ → Option Length → Ask
ask above limit room = record { above = record { bits = above }; level = 0; limit = limit; room = room }

not_shorter : (n : ℕ) → ¬ IsLess (columns n) (columns n)
not_shorter n (inl less) = omega arith
not_shorter n (inr less) = let cols = less.1 in omega arith

-- the whole list, where there is room
whole_list : IsLongest (ask 0 200 None) three (columns 0) (Some three)
whole_list = inl (
  (
    tt,
    (
      record { uncut = refl; shallow = omega arith; apart = λ k h. refl },
      record
          { uncut = refl; shallow = omega arith; apart = λ k h. refl },
    ),
  ),
  refl,
)

abbrev two : Tree
two = Two (letters 2) (letters 3)

-- a node that is as long as the room doesn't pass: its first child does
as_long_as_the_room : IsLongest (ask 0 200 (Some (columns 5))) two (columns 0) (Some (letters 2))
as_long_as_the_room = inr (
  λ passes. not_shorter 5 passes.0,
  inl ((inr (refl, omega arith), record { uncut = refl; shallow = omega arith; apart = λ k h. refl }), refl),
)

-- a bracket never passes
only_a_bracket : IsLongest (ask 0 200 None) crossed (columns 2) None
only_a_bracket = inr (λ passes. passes.1, refl)

-- nor does a pair without closer
only_an_open_pair : IsLongest (ask 0 200 None) crossed (columns 1) None
only_an_open_pair = inr (λ passes. passes.1, inr (λ passes. passes.1, refl))

not_both : (k : ℕ) → (k == 2) ≡ true → (k == 1) ≡ false
not_both k h = grind (arith, nat_tests)

other_kind : (k : ℕ) → is_set 4 k ≡ true → is_set 2 k ≡ false
other_kind k h = is_set_one 1 k (omega arith) ∙ not_both k (sym (is_set_one 2 k (omega arith)) ∙ h)

-- a closer of nothing open passes below other kinds than it closes
stray_below_others : IsLongest (ask 4 200 None) crossed (columns 3) (Some stray)
stray_below_others = inl ((tt, record { uncut = refl; shallow = omega arith; apart = λ k h. other_kind k h }), refl)

-- and not below one of these
stray_below_its_kind : IsLongest (ask 2 200 None) crossed (columns 3) None
stray_below_its_kind = inr (λ passes. true≢false (passes.1.apart 1 refl), refl)

-- a pair is too deep where the limit is 0: nothing else starts there but its opener
too_deep : IsLongest (ask 0 0 None) three (columns 2) None
too_deep = inr (λ passes. (let deep = passes.1.shallow in omega arith), inr (λ passes. passes.1, refl))
