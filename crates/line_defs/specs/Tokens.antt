-- Tokens: what a run over a line tells. As vscode-textmate has it; that the last token of a line ends with the line is
-- this project's own.
use Rattle.std.specs.Prelude.{ℕ, ◌==◌, nat_lt, min, List, [], ◌∷◌, ◌++◌, Bool, true, false, if◌then◌else◌}
use Rattle.scope_defs.specs.Scopes.{Scopes}
use Rattle.scope_defs.specs.Frames.{Token}

-- what is told so far: tokens, where the last one ends, and whether an attempt was spent
pub record Output : Type 0 where
  pub tokens : List Token
  pub end : ℕ
  pub stopped : Bool

abbrev pub nothing_told : Output
nothing_told = record { tokens = []; end = 0; stopped = false }

-- Scopes are put to a place: a token from the last one's end to there, where the place lies behind it.
abbrev pub put : Output → Scopes → ℕ → Output
put out scopes place =
    if nat_lt out.end place then record out {
      tokens =
          out.tokens ++ record { from = out.end; to = place; scopes = scopes } ∷ [];
      end = place;
    } else out

abbrev pub spent : Output → Output
spent out = record out { stopped = true }

-- ---- the tokens of a line, which is searched with a line feed at its end

-- the last token, unless it has the line feed alone; it ends with the line
abbrev pub last_token : (is_line_feed : Bool) → (end : ℕ) → Token → List Token
last_token true end token = []
last_token false end token = record token { to = min token.to end } ∷ []

abbrev pub within_line : (end : ℕ) → List Token → List Token
within_line end [] = []
within_line end (token ∷ []) = last_token (token.from == end) end token
within_line end (token ∷ tokens) = record token { to = min token.to end } ∷ within_line end tokens

-- one token of a whole line
abbrev pub whole : (end : ℕ) → Scopes → List Token
whole end scopes = record { from = 0; to = end; scopes = scopes } ∷ []

-- where no token is left there is one of the whole line
abbrev pub at_least_one : (end : ℕ) → Scopes → List Token → List Token
at_least_one end scopes [] = whole end scopes
at_least_one end scopes (token ∷ tokens) = token ∷ tokens
