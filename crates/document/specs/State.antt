-- A document: the text as edited so far, what gives the tokens of its lines, and what stays the same.
use Rattle.std.specs.Prelude.{ℕ, List}
use Rattle.text_pos.specs.declared.limits.Limits.{Limits}
use Rattle.pairing_defs.specs.declared.BracketText.{BracketText}

pub record State (R : Type 0) : Type 0 where
  pub text : List ℕ
  pub machine : R
  pub texts : List BracketText
  pub limits : Limits
