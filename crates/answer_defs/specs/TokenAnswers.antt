-- Tokens as they are answered: with the number of their standard type. The numbers are this project's own.
use Rattle.std.specs.Prelude.{ℕ, List, map}
use Rattle.scope_defs.specs.declared.types.StdType.{StdType}
use Rattle.scope_defs.specs.declared.types.StdType.TheVariants.{Other, Comment, Text, RegEx}
use Rattle.scope_defs.specs.Scopes.{Scopes}
use Rattle.scope_defs.specs.Frames.{Token}
use Rattle.scope_defs.specs.StandardType.{type_of}

pub record AnsweredToken : Type 0 where
  pub from : ℕ
  pub to : ℕ
  pub scopes : Scopes
  pub kind : ℕ

abbrev pub type_number : StdType → ℕ
type_number Other = 0
type_number Comment = 1
type_number Text = 2
type_number RegEx = 3

abbrev pub answered_token : Token → AnsweredToken
answered_token token =
    record { from = token.from; to = token.to; scopes = token.scopes; kind = type_number (type_of token.scopes) }

-- the tokens of a line
abbrev pub tokens_in : List Token → List AnsweredToken
tokens_in tokens = map answered_token tokens
