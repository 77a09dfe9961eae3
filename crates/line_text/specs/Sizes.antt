-- The size of a text, counted in 64 bits. That a count stays at the largest number there is this project's own.
use Rattle.std.specs.Prelude.{◌≡◌, ℕ, List, length}
use Rattle.text_defs.specs.Text.{line_count}
use Rattle.text_defs.specs.Batch.{counted}
use Rattle.line_text.specs.declared.size.Size.{Size}

pub record IsSizeOf (text : List ℕ) (size : Size) : Type 0 where
  pub chars : size.chars ≡ counted (length text)
  pub lines : size.lines ≡ counted (line_count text)
