-- Tokens that end with the line at the latest.
use Rattle.std.specs.Prelude.{ℕ, min}
use Rattle.scope_defs.specs.Frames.{Token}

abbrev pub cut_at : (chars : ℕ) → Token → Token
cut_at chars token = record token { to = min token.to chars }
