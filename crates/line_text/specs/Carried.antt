-- The lines that a batch carries: those that no span's first to last line holds. They keep their text, and each
-- is as far down in the new text as the line ends before it have become more. That lines are carried so, and
-- that the longest runs of them are handed out, is this project's own.
use Rattle.std.specs.Prelude.{◌≡◌, ◌↔◌, ℕ, ◌+◌, ◌-◌, ◌<◌, ◌≤◌, ◌==◌, ◌&&◌, Bool, not, nat_lt, if◌then◌else◌, List, [], ◌∷◌, length, take, drop, map, filter, sum_by}
use Rattle.std.specs.List.{range_with_len}
use Rattle.text_defs.specs.Text.{norm, line_count}
use Rattle.text_defs.specs.Batch.{TextEdit, is_touched}
use Rattle.line_text.specs.declared.carry.Run.{Run}

-- the line ends in an edit's text, and those between its places
abbrev pub new_ends : TextEdit → ℕ
new_ends e = line_count (norm e.text) - 1

abbrev pub old_ends : TextEdit → ℕ
old_ends e = e.span.to.line - e.span.from.line

abbrev pub ends_before : ℕ → TextEdit → Bool
ends_before n e = nat_lt e.span.to.line n

-- the number that carried line n has in the new text
abbrev pub new_number : List TextEdit → ℕ → ℕ
new_number es n = n + sum_by new_ends (filter (ends_before n) es) - sum_by old_ends (filter (ends_before n) es)

-- the carried lines of a text, each by its old and its new number
abbrev pub carried_lines : List ℕ → List TextEdit → List (ℕ × ℕ)
carried_lines text es = map (λ n. (n, new_number es n)) (filter (λ n. not (is_touched n es)) (range_with_len 0 (line_count text)))

-- a line in front of a run that begins with the line behind it, or else a run of its own
abbrev pub lengthened : Bool → ℕ → ℕ → Run → List Run → List Run
lengthened is_next old new run runs = if is_next then record { old = old; new = new; count = run.count + 1 } ∷ runs
    else record { old = old; new = new; count = 1 } ∷ run ∷ runs

abbrev pub onto_runs : ℕ → ℕ → List Run → List Run
onto_runs old new [] = record { old = old; new = new; count = 1 } ∷ []
onto_runs old new (run ∷ runs) = lengthened (run.old == old + 1 && run.new == new + 1) old new run runs

-- lines in runs that are as long as possible
abbrev pub longest_runs : List (ℕ × ℕ) → List Run
longest_runs [] = []
longest_runs (line ∷ lines) = onto_runs line.0 line.1 (longest_runs lines)

-- what a batch carries
abbrev pub carried : List ℕ → List TextEdit → List Run
carried text es = longest_runs (carried_lines text es)

-- a run of lines that are equal one by one: it isn't empty, and lies within both lists
pub record IsRun {A : Type 0} (old new : List A) (run : Run) : Type 0 where
  pub some : 0 < run.count
  pub in_old : run.old + run.count ≤ length old
  pub in_new : run.new + run.count ≤ length new
  pub same : take run.count (drop run.old old) ≡ take run.count (drop run.new new)

-- from i to old and from j to new: both lists have a line there, or neither has
pub record IsGap (i old j new : ℕ) : Type 0 where
  pub old_rises : i ≤ old
  pub new_rises : j ≤ new
  pub both_or_neither : (i < old) ↔ (j < new)

-- the runs rise from i and j on, without overlap, and between two runs is a gap
abbrev pub LeadsOn : {A : Type 0} → List A → List A → ℕ → ℕ → List Run → Type 0
LeadsOn old new i j [] = IsGap i (length old) j (length new)
LeadsOn old new i j (run ∷ runs) = IsGap i run.old j run.new × IsRun old new run × LeadsOn old new (run.old + run.count) (run.new + run.count) runs

-- the runs lead from the old lines to the new ones
abbrev pub LeadsFrom : {A : Type 0} → List A → List A → List Run → Type 0
LeadsFrom old new runs = LeadsOn old new 0 0 runs
