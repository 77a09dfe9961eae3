-- The machine that a run of code goes by: the rules and injections of a table.
use Rattle.std.specs.Prelude.{◌≡◌, ℕ, ◌+◌, ◌-◌, ◌*◌, ◌<◌, ◌≤◌, ◌^◌, List, length}
use Rattle.text_pos.specs.declared.limits.Limits.{Limits}
use Rattle.onig_match.specs.Works.{Worked}
use Rattle.scope_defs.specs.Frames.{Stack, depth}
use Rattle.line_laws.specs.RunEnds.{IsRooted}
use Rattle.canonical_patterns.specs.ReadTrees.{read_tree}
use Rattle.injection_defs.specs.Injections.{injections_of}
use Rattle.rule_table.specs.Views.{Table}
use Rattle.line_defs.specs.declared.limits.TheConstants.{MOST_OPEN, MOST_LEVELS}
use Rattle.line_defs.specs.Machine.{Machine}
use Rattle.line_defs.specs.Turns.{Run}
use Rattle.line_defs.specs.Line.{inside_by}
use Rattle.line_turns.specs.declared.over.Over.{Over}

abbrev pub machine_of : Table → Limits → Machine
machine_of table limits = record {
  rules = table.rules;
  injections = injections_of table.rules table.injections;
  reader = read_tree;
  budget = limits.budget;
  long = limits.long;
}

abbrev pub machine_over : Over → Machine
machine_over over = machine_of over.table.now over.limits

-- the run where so many levels of captures are left
abbrev pub run_of : Over → (levels : ℕ) → Run
run_of over levels = record {
  machine = machine_over over;
  inside = inside_by (machine_over over) levels;
  text = over.text.now;
}

-- how many frames there are at most where so many levels are left
abbrev pub few_at : (levels : ℕ) → ℕ
few_at levels = MOST_OPEN + 2 * (MOST_LEVELS - levels)

-- The text is short, the searcher goes by the same table, and the room for attempts is made for it.
pub record IsReady (over : Over) (levels : ℕ) (searcher : Table) (work : Worked) : Type 0 where
  pub short : length over.text.now < 2 ^ 31
  pub deep : levels ≤ MOST_LEVELS
  pub same : searcher ≡ over.table.now
  pub budget : work.budget ≡ over.limits.budget
  pub room : over.table.now.groups ≤ work.room

-- what a call leaves as it was
pub record IsKept (old new : Table) (work_old work_new : Worked) : Type 0 where
  pub searcher : new ≡ old
  pub budget : work_new.budget ≡ work_old.budget
  pub room : work_new.room ≡ work_old.room

-- the open rules while a match is told: not too many, on a root
pub record AreOpen (over : Over) (levels : ℕ) (stack : Stack) : Type 0 where
  pub few : depth stack ≤ few_at levels + 1
  pub rooted : IsRooted (machine_over over) stack.top stack.below
