-- What calls need, and what they leave as it was.
use Rattle.std.proofs.Common.{◌≡◌, ℕ, ◌+◌, ◌-◌, ◌<◌, ◌≤◌, List, take, length, refl, sym, ◌∙◌, arith, subst}
use Rattle.onig_match.specs.Works.{Worked}
use Rattle.rule_table.specs.Views.{Table}
use Rattle.line_turns.specs.declared.over.Over.{Over}
use Rattle.line_turns.specs.Over.{IsReady, IsKept}

pub ready-kept : (over : Over) (levels : ℕ) (s t : Table) (w x : Worked) → IsReady over levels s w → IsKept s t w x
    → IsReady over levels t x
ready-kept over levels s t w x ready kept = record {
  short = ready.short;
  deep = ready.deep;
  same = kept.searcher ∙ ready.same;
  budget = kept.budget ∙ ready.budget;
  room = rw kept.room ready.room;
}

pub kept-none : (s : Table) (w : Worked) → IsKept s s w w
kept-none s w = record { searcher = refl; budget = refl; room = refl }

pub kept-both : (s t u : Table) (w x y : Worked) → IsKept s t w x → IsKept t u x y → IsKept s u w y
kept-both s t u w x y one two = record {
  searcher = two.searcher ∙ one.searcher;
  budget = two.budget ∙ one.budget;
  room = two.room ∙ one.room;
}
