-- How a form is kept, and what stands at the front of a text.
use Rattle.std.specs.Prelude.{ℕ, ◌^◌, min, List, [], ◌∷◌, Option, Some, None, nat_le, if◌then◌else◌}
use Rattle.line_defs.specs.ScopeTexts as texts
use Rattle.line_defs.specs.EndTexts.{reference_at}
use Rattle.scope_texts.specs.declared.form.Form.{Form}

-- a number that no group has stands for all greater ones
abbrev pub kept_form : texts.Form → Form
kept_form form = record { number = min form.number (2 ^ 32); case = form.case; more = form.more }

-- a form, where its number isn't above so many groups
abbrev pub named_form : (groups : ℕ) → Option texts.Form → Option Form
named_form groups None = None
named_form groups (Some form) = if nat_le form.number groups then Some (kept_form form) else None

-- such a form at the front of a text
abbrev pub front_form : (groups : ℕ) → List ℕ → Option Form
front_form groups [] = None
front_form groups (c ∷ cs) = named_form groups (texts.form_at c cs)

-- the digits of a reference at the front of a text
abbrev pub front_digits : List ℕ → List ℕ
front_digits [] = []
front_digits (c ∷ cs) = reference_at c cs
