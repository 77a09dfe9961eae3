-- The marks of lines from a place on.
use Rattle.std.proofs.Common.{◌≡◌, ℕ, ◌+◌, ◌*◌, ◌-◌, ◌<◌, ◌≤◌, ◌^◌, inl, inr, List, [], ◌∷◌, Bool, true, false}
use Rattle.std.proofs.Common.{refl, sym, ap, ◌∙◌, subst, arith}
use Rattle.std.proofs.lemmas.Bool.Decides.{nat_tests}
use Rattle.text_pos.specs.declared.length.Length.{Length}
use Rattle.text_pos.specs.declared.length.Pos.{Pos}
use Rattle.text_pos.specs.Lengths.{plus, IsLess}
use Rattle.pairing_defs.specs.declared.Mark.{Mark}
use Rattle.bracket_marks.specs.MarkedLine.{MarkedLine, marks_in}
use Rattle.mark_source.specs.Source.{first, is_before, marks_from}
use Rattle.mark_source.specs.Reading.{is_passed}
use Rattle.mark_source.proofs.Ahead.{kept_by, next_ahead, same_ahead}
use Rattle.mark_source.proofs.Places.{all_in_order}
use Rattle.tree_defs.specs.Ends.{in_lines}
use Rattle.tree_defs.specs.Rows.{place, start}
use Rattle.reuse_parser.specs.declared.place.Around.{Around}
use Rattle.reuse_parser.specs.Parsing.{start_of, end_of, next_start, Follow, HoldsAt, IsWithin}
use Rattle.reuse_defs.specs.Since.{lengths_of}
use Rattle.reuse_parser.specs.Reusing.{ahead_of, IsIn}
use Rattle.reuse_parser.proofs.Sources.{first_place, marks_follow, lines_hold, end_holds, not_before}

-- ---- places in order
pub up_to : (a b c : Length) → ¬ IsLess b a → ¬ IsLess c b → ¬ IsLess c a
up_to a b c h k (inl l) = grind (arith, h, k, l)
up_to a b c h k (inr l) = grind (arith, h, k, l)

pub up_to_itself : (a : Length) → ¬ IsLess a a
up_to_itself a (inl l) = omega (arith, l)
up_to_itself a (inr l) = let m = l.1 in omega (arith, m)

pub from_plus : (a b : Length) → ¬ IsLess (plus a b) a
from_plus a b h = grind (arith, nat_tests, h)

pub less_up_to : (a b : Length) → IsLess a b → ¬ IsLess b a
less_up_to a b (inl h) (inl l) = omega (arith, h, l)
less_up_to a b (inl h) (inr l) = let m = l.0 in omega (arith, h, m)
less_up_to a b (inr h) (inl l) = let m = h.0 in omega (arith, m, l)
less_up_to a b (inr h) (inr l) = let m = h.1 in let n = l.1 in omega (arith, m, n)

pub less_by : (a b c d : Length) → IsLess a b → ¬ IsLess c b → IsLess c d → IsLess a d
less_by a b c d h from k = less_on a c d (not_less_on a b c h from) k
  where
    not_less_on : (a b c : Length) → IsLess a b → ¬ IsLess c b → IsLess a c
    not_less_on a b c (inl h) from = grind (arith, h, from)
    not_less_on a b c (inr h) from = grind (arith, h, from)

    less_on : (a c d : Length) → IsLess a c → IsLess c d → IsLess a d
    less_on a c d (inl h) (inl k) = inl (omega (arith, h, k))
    less_on a c d (inl h) (inr k) = let l = k.0 in inl (omega (arith, h, l))
    less_on a c d (inr h) (inl k) = let l = h.0 in inl (omega (arith, l, k))
    less_on a c d (inr h) (inr k) =
        let l = h.0 in let n = h.1 in let o = k.0 in let q = k.1 in inr (omega (arith, l, o), omega (arith, n, q))

pub mark_less : (m : Mark) → m.at.col < m.to → IsLess (start_of m) (end_of m)
mark_less m some = inr (refl, some)

pub not_less_by : (p q : Length) → is_before (place p) (place q) ≡ false → ¬ IsLess p q
not_less_by p q h (inl l) = grind (arith, nat_tests, h, l)
not_less_by p q h (inr l) = grind (arith, nat_tests, h, l)

-- ---- marks that follow a place
pub all_from : (q at last : Length) (ms : List Mark) → Follow q last ms → ¬ IsLess q at → marks_from (place at) ms ≡ ms
all_from q at last [] follow up = refl
all_from q at last (m ∷ ms) follow up =
    let from : ¬ IsLess (start_of m) at = up_to at q (start_of m) up follow.0 in
    kept_by m ms (place at) false (not_before m.at (place at) from)
    ∙ ap (λ l. m ∷ l) (all_from (end_of m) at last ms follow.3
    (up_to at (start_of m) (end_of m) from (less_up_to (start_of m) (end_of m) (mark_less m follow.1))))

pub follow_from : (p at last : Length) (ms : List Mark) → Follow p last ms → ¬ IsLess last at
    → Follow at last (marks_from (place at) ms)
follow_from p at last [] follow up = up
follow_from p at last (m ∷ ms) follow up =
    by (follow_from (end_of m) at last ms follow.3 up) (is_before m.at (place at)) refl
  where
    by : Follow at last (marks_from (place at) ms) → (b : Bool) → is_before m.at (place at) ≡ b
        → Follow at last (marks_from (place at) (m ∷ ms))
    by later true h = subst (λ l. Follow at last l) (sym (kept_by m ms (place at) true h)) later
    by later false h =
        let from : ¬ IsLess (start_of m) at = not_less_by (start_of m) at h in
        subst (λ l. Follow at last l)
        (sym (kept_by m ms (place at) false h ∙ ap (λ l. m ∷ l) (all_from (end_of m) at last ms follow.3
        (up_to at (start_of m) (end_of m) from (less_up_to (start_of m) (end_of m) (mark_less m follow.1))))))
        (from, follow.1, follow.2, follow.3)

holds_from : (test : Length → Bool) (last : Length) (p : Pos) (ms : List Mark) → HoldsAt test last ms
    → HoldsAt test last (marks_from p ms)
holds_from test last p [] holds = holds
holds_from test last p (m ∷ ms) holds = by (holds_from test last p ms holds.2) (is_before m.at p) refl
  where
    by : HoldsAt test last (marks_from p ms) → (b : Bool) → is_before m.at p ≡ b
        → HoldsAt test last (marks_from p (m ∷ ms))
    by later true h = subst (λ l. HoldsAt test last l) (sym (kept_by m ms p true h)) later
    by later false h = subst (λ l. HoldsAt test last l) (sym (kept_by m ms p false h)) (holds.0, holds.1, later)

-- marks that follow a place end at or before the last one
pub follow_last : (p last : Length) (ms : List Mark) → Follow p last ms → ¬ IsLess last p
follow_last p last [] follow = follow
follow_last p last (m ∷ ms) follow =
    up_to p (start_of m) last follow.0 (up_to (start_of m) (end_of m) last
    (less_up_to (start_of m) (end_of m) (mark_less m follow.1)) (follow_last (end_of m) last ms follow.3))

-- ---- the marks from a place of a text on
pub follows : (lines : List MarkedLine) (a : Around) (at : Length) → IsIn lines a at
    → Follow at a.end (ahead_of lines at)
follows lines a at i = follow_from start at a.end (marks_in lines) (marks_follow lines a.end i.marked i.some i.last)
    i.up_to

pub holds_ahead : (lines : List MarkedLine) (a : Around) (at : Length) → IsIn lines a at
    → HoldsAt (in_lines (lengths_of lines)) a.end (ahead_of lines at)
holds_ahead lines a at i = holds_from (in_lines (lengths_of lines)) a.end (place at) (marks_in lines)
    (lines_hold (lengths_of lines) 0 lines a.end [] i.marked refl refl (end_holds lines a.end i.some i.last))

pub left_of : (lines : List MarkedLine) (a : Around) (at : Length) (m : Mark) (rest : List Mark) → IsIn lines a at
    → ahead_of lines at ≡ m ∷ rest → rest ≡ ahead_of lines (end_of m)
left_of lines a at m rest i e = sym (next_ahead (place at) first_place (marks_in lines) rest m
    (all_in_order lines i.marked) e)

-- up to the next mark there is none
none_passed : (last : Length) (ms : List Mark) → is_passed (first ms) (place (next_start last ms)) ≡ false
none_passed last [] = refl
none_passed last (m ∷ ms) = not_before m.at m.at (up_to_itself (start_of m))

pub next_keeps : (lines : List MarkedLine) (a : Around) (at : Length) → IsIn lines a at
    → IsLess at (next_start a.end (ahead_of lines at))
    → ahead_of lines (next_start a.end (ahead_of lines at)) ≡ ahead_of lines at
next_keeps lines a at i less =
    let next = next_start a.end (ahead_of lines at) in
    same_ahead (place at) (place next) first_place (marks_in lines) (all_in_order lines i.marked)
    (not_before (place next) (place at) (less_up_to at next less)) (none_passed a.end (ahead_of lines at))

pub next_within : (at last : Length) (ms : List Mark) → Follow at last ms → ¬ IsLess last (next_start last ms)
next_within at last [] follow = up_to_itself last
next_within at last (m ∷ ms) follow = up_to (start_of m) (end_of m) last
    (less_up_to (start_of m) (end_of m) (mark_less m follow.1)) (follow_last (end_of m) last ms follow.3)

-- the same text around another list
pub in_within : (lines : List MarkedLine) (a b : Around) (kind : ℕ) (at to : Length) → IsIn lines a at
    → IsWithin a kind b → ¬ IsLess a.end to → IsIn lines b to
in_within lines a b kind at to i w up = record {
  marked = i.marked;
  some = i.some;
  last = ap place w.last ∙ i.last;
  up_to = subst (λ e. ¬ IsLess e to) (sym w.last) up;
}

pub in_further : (lines : List MarkedLine) (a : Around) (at to : Length) → IsIn lines a at → ¬ IsLess a.end to
    → IsIn lines a to
in_further lines a at to i up = record { marked = i.marked; some = i.some; last = i.last; up_to = up }

-- ---- how far it is to the text's end
abbrev pub weight : Length → ℕ
weight p = 2 ^ 32 * p.lines + p.cols

abbrev pub left_to : Length → Length → ℕ
left_to last at = weight last - weight at

weight_less : (a b : Length) → a.cols < 2 ^ 32 → IsLess a b → weight a < weight b
weight_less a b fits (inl h) = omega (arith, fits, h)
weight_less a b fits (inr h) = let l = h.0 in let c = h.1 in omega (arith, l, c)

weight_up_to : (a b : Length) → a.cols < 2 ^ 32 → ¬ IsLess b a → weight a ≤ weight b
weight_up_to a b fits h = grind (arith, fits, h)

pub less_left : (last at to : Length) → at.cols < 2 ^ 32 → to.cols < 2 ^ 32 → IsLess at to → ¬ IsLess last to
    → left_to last to < left_to last at
less_left last at to at_fits to_fits less up =
    let h = weight_less at to at_fits less in let k = weight_up_to to last to_fits up in omega (arith, h, k)

pub left_up_to : (last at to : Length) → at.cols < 2 ^ 32 → ¬ IsLess to at → left_to last to ≤ left_to last at
left_up_to last at to fits later = let h = weight_up_to at to fits later in omega (arith, h)
