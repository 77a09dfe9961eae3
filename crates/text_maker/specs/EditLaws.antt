-- What holds of each edit of the generator: it is accepted, and the texts stay small.
use Rattle.std.specs.Prelude.{◌≡◌, ℕ, ◌+◌, ◌*◌, ◌<◌, ◌≤◌, [], ◌∷◌, length, None}
use Rattle.text_defs.specs.Text.{line_count}
use Rattle.text_defs.specs.Batch.{batch_refusal}
use Rattle.generator_defs.specs.declared.TheConstants.{MOST_GENERATED_LINES, GENERATED_EDITS}
use Rattle.generator_defs.specs.GeneratedText.{generated_edit, text_after}

-- the batch of one edit is refused for no cause
abbrev pub MadeEditsAreAccepted : Type 0
MadeEditsAreAccepted = (n j : ℕ) → 1 ≤ n → n ≤ MOST_GENERATED_LINES → j < GENERATED_EDITS
    → batch_refusal (text_after n j) (generated_edit n (j + 1) (text_after n j) ∷ []) ≡ None

-- an edit adds at most a character and a line
abbrev pub TextsStaySmall : Type 0
TextsStaySmall = (n j : ℕ) → 1 ≤ n → (length (text_after n j) ≤ 13 * n + j) × (line_count (text_after n j) ≤ n + j)
