-- What the kept signs of a selector stand for.
use Rattle.std.specs.Prelude.{◌≡◌, ℕ, List, [], ◌∷◌, Result, Ok, Err}
use Rattle.scope_defs.specs.Scopes.{Scopes}
use Rattle.scope_defs.specs.Selectors.{Entry, holds}
use Rattle.selectors.specs.declared.sign.KeptEntry.{KeptEntry}
use Rattle.selectors.specs.declared.verdict.Verdict.TheVariants.{Holds}
use Rattle.selectors.specs.Verdicts.{run, is_true}

-- a kept entry has the priority of an entry, and holds of the same scopes
pub record IsKept (kept : KeptEntry) (entry : Entry) : Type 0 where
  pub priority : kept.priority ≡ entry.priority
  pub truth : (scopes : Scopes) → is_true (run scopes kept.signs Holds) ≡ holds entry.matcher scopes

abbrev pub AreKept : List KeptEntry → List Entry → Type 0
AreKept [] [] = Unit {0}
AreKept [] (entry ∷ entries) = ⊥
AreKept (kept ∷ others) [] = ⊥
AreKept (kept ∷ others) (entry ∷ entries) = IsKept kept entry × AreKept others entries

-- both readings give entries that are alike, or the same place
abbrev pub ReadAlike : Result (List KeptEntry) ℕ → Result (List Entry) ℕ → Type 0
ReadAlike (Ok kept) (Ok entries) = AreKept kept entries
ReadAlike (Err at) (Err other) = at ≡ other
ReadAlike _ _ = ⊥
