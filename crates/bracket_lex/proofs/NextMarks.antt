-- What one more mark behind others adds to the rows.
use Rattle.std.proofs.Common.{◌≡◌, ℕ, ◌+◌, nat_le, List, [], ◌∷◌, ◌++◌, length, refl, sym, ap, ◌∙◌, arith, inl, inr}
use Rattle.std.proofs.Common.{subst}
use Rattle.std.proofs.lemmas.Bool.{cases_Bool, leb-true, leb-false}
use Rattle.std.proofs.lemmas.List.{append-nil, map-append}
use Rattle.text_pos.specs.declared.length.Pos.{Pos}
use Rattle.pairing_defs.specs.declared.Role.TheVariants.{Opener}
use Rattle.pairing_defs.specs.declared.Mark.{Mark}
use Rattle.pairing_defs.specs.Pairing.{Placed, from_last, rows_by, placed_from, open_after, nothing_open, rows_from}
use Rattle.pairing_defs.specs.Pairing.{paired}
use Rattle.bracket_lex.specs.LevelLaws.{Counts, IsOpen, LeavesOpen, kept, OneMoreCloserHasARow}
use Rattle.bracket_lex.specs.LevelLaws.{OneMoreOpenerHasARowBelowTheLimit}
use Rattle.bracket_lex.proofs.TextSteps.{placed_from-append}
use Rattle.bracket_lex.proofs.KeptMarks.{marks_placed, finished_marks, closer_mark}
use Rattle.bracket_lex.proofs.OpenStacks.{StackAt}
use Rattle.bracket_lex.proofs.StackRuns.{stacks_of}
use Rattle.bracket_lex.proofs.Levels.{all_open}

-- the rows of the others stay, and the mark may have one behind them
one_more : (limit : ℕ) (end : Pos) (ms : List Mark) (m : Mark)
    → kept limit end (ms ++ m ∷ []) ≡ kept limit end ms ++ marks_placed
    (rows_by limit (open_after limit nothing_open ms) m m.role)
one_more limit end ms m =
    let both : placed_from limit nothing_open (ms ++ m ∷ [])
    ≡ placed_from limit nothing_open ms ++ (rows_by limit (open_after limit nothing_open ms) m m.role ++ []) =
    placed_from-append limit nothing_open ms (m ∷ []) in
    let alone : rows_by limit (open_after limit nothing_open ms) m m.role ++ []
    ≡ rows_by limit (open_after limit nothing_open ms) m m.role =
    append-nil (rows_by limit (open_after limit nothing_open ms) m m.role) in
    finished_marks end 0 (placed_from limit nothing_open (ms ++ m ∷ []))
    ∙ ap marks_placed (both ∙ ap (λ rows. placed_from limit nothing_open ms ++ rows) alone)
    ∙ map-append (λ p. p.mark) (placed_from limit nothing_open ms)
    (rows_by limit (open_after limit nothing_open ms) m m.role)
    ∙ ap (λ marks. marks ++ marks_placed (rows_by limit (open_after limit nothing_open ms) m m.role))
    (sym (finished_marks end 0 (placed_from limit nothing_open ms)))

pub one_more_closer_has_a_row : OneMoreCloserHasARow
one_more_closer_has_a_row limit end ms m kinds is =
    one_more limit end ms m
    ∙ ap (λ role. kept limit end ms ++ marks_placed (rows_by limit (open_after limit nothing_open ms) m role)) is
    ∙ ap (λ mark. kept limit end ms ++ mark ∷ [])
    (closer_mark (open_after limit nothing_open ms) m (from_last kinds (open_after limit nothing_open ms).entries))

length-rows : (end : Pos) (n : ℕ) (ps : List Placed) → length (rows_from end n ps) ≡ length ps
length-rows end n [] = refl
length-rows end n (p ∷ ps) = let rest = length-rows end (n + 1) ps in omega arith

left_open_rows : (limit : ℕ) (end : Pos) (ms : List Mark)
    → LeavesOpen (paired limit end ms) (length (open_after limit nothing_open ms).entries)
left_open_rows limit end ms =
    let t : StackAt nothing_open (placed_from limit nothing_open ms) (length (placed_from limit nothing_open ms))
    (λ stack. stack ≡ (open_after limit nothing_open ms).entries) = (stacks_of limit ms).at_end in
    subst (λ n. Counts n (IsOpen (paired limit end ms) n) (length (open_after limit nothing_open ms).entries))
    (sym (length-rows end 0 (placed_from limit nothing_open ms)))
    (all_open limit end ms (length (placed_from limit nothing_open ms))
    (length (open_after limit nothing_open ms).entries) _ t (ap length (sym t.is)))

pub one_more_opener_has_a_row_below_the_limit : OneMoreOpenerHasARowBelowTheLimit
one_more_opener_has_a_row_below_the_limit limit end ms m kind is =
    let made : kept limit end (ms ++ m ∷ [])
    ≡ kept limit end ms ++ marks_placed (rows_by limit (open_after limit nothing_open ms) m (Opener kind)) =
    one_more limit end ms m ∙ ap (λ role. kept limit end ms ++ marks_placed
    (rows_by limit (open_after limit nothing_open ms) m role)) is in (
      length (open_after limit nothing_open ms).entries,
      left_open_rows limit end ms,
      elim (cases_Bool (nat_le limit (length (open_after limit nothing_open ms).entries))) [
        | inl full ↦ inr (
          leb-true limit (length (open_after limit nothing_open ms).entries) full,
          rw full at made
              ∙ append-nil (kept limit end ms),
        )
        | inr room ↦ inl (leb-false limit (length (open_after limit nothing_open ms).entries) room, rw room at made)
      ],
    )
