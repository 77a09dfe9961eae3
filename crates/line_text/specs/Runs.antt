-- Runs of lines, which are this project's own.
use Rattle.std.specs.Prelude.{ℕ, ◌-◌, nat_lt, if◌then◌else◌, List, [], ◌∷◌}
use Rattle.line_text.specs.declared.carry.Run.{Run}

-- the run of the old lines from `old` to `end`, if there are any
abbrev pub run_between : ℕ → ℕ → ℕ → List Run
run_between old end new = if nat_lt old end then record { old = old; new = new; count = end - old } ∷ [] else []
