-- What is told by putting scopes to places: tokens that follow one another, each of at least one character. Of these a
-- line keeps tokens that cover it.
use Rattle.std.proofs.Common.{◌≡◌, ℕ, ◌+◌, ◌<◌, ◌≤◌, List, [], ◌∷◌, ◌++◌, refl, sym, arith}
use Rattle.std.specs.Prelude.{Bool, true, false, ◌==◌, nat_lt, min, if◌then◌else◌}
use Rattle.std.proofs.lemmas.Bool.Decides.{nat_tests}
use Rattle.scope_defs.specs.Scopes.{Scopes}
use Rattle.scope_defs.specs.Frames.{Token}
use Rattle.line_defs.specs.Following.{follow_from, Follow}
use Rattle.line_defs.specs.Tokens.{Output, nothing_told, put, spent, last_token, within_line, at_least_one}

-- tokens follow one another from one column to another, each of at least one character
abbrev pub Covers : ℕ → List Token → ℕ → Type 0
Covers from [] to = from ≡ to
Covers from (token ∷ tokens) to = (token.from ≡ from) × (from < token.to) × Covers token.to tokens to

-- what is told so far covers a text from its front to the end of the last token
pub record IsTold (chars : ℕ) (out : Output) : Type 0 where
  pub covers : Covers 0 out.tokens out.end
  pub ends : out.end ≤ chars

pub nothing_told-is : (chars : ℕ) → IsTold chars nothing_told
nothing_told-is chars = record { covers = refl; ends = omega arith }

pub spent-is : (chars : ℕ) (out : Output) → IsTold chars out → IsTold chars (spent out)
spent-is chars out told = record { covers = told.covers; ends = told.ends }

covers-more : (from : ℕ) (tokens : List Token) (mid to : ℕ) (scopes : Scopes) → Covers from tokens mid → mid < to →
    Covers from (tokens ++ record { from = mid; to = to; scopes = scopes } ∷ []) to
covers-more from [] mid to scopes covers more = (sym covers, omega arith, refl)
covers-more from (token ∷ tokens) mid to scopes covers more =
    (covers.0, covers.1, covers-more token.to tokens mid to scopes covers.2 more)

pub put-is : (chars : ℕ) (out : Output) (scopes : Scopes) (place : ℕ) → place ≤ chars → IsTold chars out →
    IsTold chars (put out scopes place)
put-is chars out scopes place there told = by_place (nat_lt out.end place) refl
  where
    by_place : (b : Bool) → nat_lt out.end place ≡ b → IsTold chars (if b then record out {
      tokens = out.tokens ++ record { from = out.end; to = place; scopes = scopes } ∷ [];
      end = place;
    } else out)
    by_place true e =
        let more : out.end < place = grind (arith, nat_tests) in
        record { covers = covers-more 0 out.tokens out.end place scopes told.covers more; ends = there }
    by_place false e = told

-- then the last token ends at that place or behind it
pub put-reaches : (out : Output) (scopes : Scopes) (place : ℕ) → place ≤ (put out scopes place).end
put-reaches out scopes place = by_place (nat_lt out.end place) refl
  where
    by_place : (b : Bool) → nat_lt out.end place ≡ b → place ≤ (if b then record out {
      tokens = out.tokens ++ record { from = out.end; to = place; scopes = scopes } ∷ [];
      end = place;
    } else out).end
    by_place true e = omega arith
    by_place false e = grind (arith, nat_tests)

-- ---- the tokens of a line, which was searched with a line feed at its end

within_line-follows : (from : ℕ) (tokens : List Token) (chars : ℕ) → from ≤ chars → Covers from tokens (chars + 1) →
    follow_from from (within_line chars tokens) chars
within_line-follows from [] chars inside covers = absurd (omega arith)
within_line-follows from (token ∷ []) chars inside covers = by_line_feed (token.from == chars) refl
  where
    by_line_feed : (b : Bool) → (token.from == chars) ≡ b → follow_from from (last_token b chars token) chars
    by_line_feed true e = grind (arith, nat_tests, covers.0)
    by_line_feed false e = (covers.0, omega (arith, covers.2))
within_line-follows from (token ∷ next ∷ tokens) chars inside covers =
    let begins : next.from ≡ token.to = covers.2.0 in
    let further : token.to < next.to = covers.2.1 in
    let short : token.to ≤ chars = omega (arith, covers-within next.to tokens (chars + 1) covers.2.2) in
    (covers.0, rw (min-same token.to chars short) (within_line-follows token.to (next ∷ tokens) chars short covers.2))
  where
    covers-within : (from : ℕ) (tokens : List Token) (to : ℕ) → Covers from tokens to → from ≤ to
    covers-within from [] to covers = omega arith
    covers-within from (token ∷ tokens) to covers = omega (arith, covers-within token.to tokens to covers.2, covers.1)

    min-same : (m n : ℕ) → m ≤ n → min m n ≡ m
    min-same m n below = omega arith

pub line-follows : (chars : ℕ) (scopes : Scopes) (tokens : List Token) → Covers 0 tokens (chars + 1) →
    Follow (at_least_one chars scopes (within_line chars tokens)) chars
line-follows chars scopes tokens covers =
    by_tokens (within_line chars tokens) (within_line-follows 0 tokens chars (omega arith) covers)
  where
    by_tokens : (left : List Token) → follow_from 0 left chars → Follow (at_least_one chars scopes left) chars
    by_tokens [] follows = (refl, refl)
    by_tokens (token ∷ left) follows = follows
