-- What the entries of a match tell is what those that take something tell.
use Rattle.std.proofs.Common.{◌≡◌, ℕ, List, [], ◌∷◌, ◌++◌, refl, ap, map, ◌∙◌}
use Rattle.std.specs.Prelude.{Bool, true, false, ◌==◌, nat_lt, Option, Some, None, option_map}
use Rattle.pattern_defs.specs.declared.outcomes.Place.{Place}
use Rattle.pattern_defs.specs.Attempt.{capture_of}
use Rattle.scope_defs.specs.Scopes.{Scopes}
use Rattle.scope_defs.specs.declared.types.RuleId.{RuleId}
use Rattle.rule_defs.specs.Rules.{Entry}
use Rattle.rule_table.specs.declared.rule.RuleCapture.{RuleCapture}
use Rattle.rule_table.specs.Views.{entry_of}
use Rattle.line_defs.specs.Tokens.{Output, put}
use Rattle.line_defs.specs.Captures as defs
use Rattle.line_defs.specs.Captures.{Running, Opened, all_closed, by_place, by_capture, entries_told, captures_told}
use Rattle.line_output.specs.declared.taken.Taken.{Taken}
use Rattle.line_output.specs.Names.{names_in}
use Rattle.line_output.specs.Taken.{taken_at, taken_where, taken_in, taken_by, takens_of}
use Rattle.line_turns.specs.Telling.{Telling, told_by, taken_told, told_where, takens_told, all_told}

abbrev pub telling_around : defs.Around → Telling
telling_around c = record {
  inside = c.inside;
  text = c.text;
  stack = c.stack;
  first = c.first;
  scopes = c.scopes;
  to = c.matched.to;
}

module _ (c : defs.Around) where
  abbrev entry : ℕ → (name content : Option (List ℕ)) → Option RuleId → Entry
  entry number name content inner =
      record { number = number; name = name; content = content; inner = option_map (λ id. id.0) inner }

  abbrev taken : Place → (name content : Option (List ℕ)) → Option RuleId → Taken
  taken place name content inner = record {
    place = place;
    name = names_in c.text c.matched.captures name;
    content = names_in c.text c.matched.captures content;
    inner = inner;
  }

  told-same : (inside : Option Running) (number : ℕ) (name content : Option (List ℕ)) (inner : Option RuleId)
      (place : Place) (opened : Opened)
      → defs.told_by c inside (option_map (λ id. id.0) inner) (entry number name content inner) place opened
      ≡ told_by (telling_around c) inside inner (taken place name content inner) opened
  told-same (Some run) number None None (Some rule) place opened = refl
  told-same (Some run) number None (Some k) (Some rule) place opened = refl
  told-same (Some run) number (Some n) None (Some rule) place opened = refl
  told-same (Some run) number (Some n) (Some k) (Some rule) place opened = refl
  told-same (Some run) number None content None place opened = refl
  told-same (Some run) number (Some n) content None place opened = refl
  told-same None number None content None place opened = refl
  told-same None number (Some n) content None place opened = refl
  told-same None number None content (Some rule) place opened = refl
  told-same None number (Some n) content (Some rule) place opened = refl

  module _ (e : RuleCapture) (opened : Opened) (next : Opened → Opened) (rest : List Taken)
      (same : (o : Opened) → next o ≡ takens_told (telling_around c) rest o) where
    by_behind : (b : Bool) (place : Place)
        → by_place c false b (entry_of e) place opened next
        ≡ told_where b opened (takens_told (telling_around c) rest
        (taken_told (telling_around c) (taken_at c.text c.matched.captures e place) opened))
    by_behind true place = refl
    by_behind false place =
        ap next (told-same c.inside e.number e.name e.content e.inner place
        (defs.reached c place (defs.closed_to place.from opened.locals opened.out)))
        ∙ same (taken_told (telling_around c) (taken_at c.text c.matched.captures e place) opened)

    by_empty : (b : Bool) (place : Place)
        → by_place c b (nat_lt c.matched.to place.from) (entry_of e) place opened next
        ≡ takens_told (telling_around c) (taken_where b (taken_at c.text c.matched.captures e place) ++ rest) opened
    by_empty true place = same opened
    by_empty false place = by_behind (nat_lt c.matched.to place.from) place

    by_taken : (place : Option Place)
        → by_capture c place (entry_of e) opened next
        ≡ takens_told (telling_around c) (taken_in c.text c.matched.captures e place ++ rest) opened
    by_taken None = same opened
    by_taken (Some place) = by_empty (place.from == place.to) place

  entries-told : (entries : List RuleCapture) (opened : Opened)
      → entries_told c (map entry_of entries) opened
      ≡ takens_told (telling_around c) (takens_of c.text c.matched.captures entries) opened
  entries-told [] opened = refl
  entries-told (e ∷ es) opened =
      by_taken e opened (entries_told c (map entry_of es)) (takens_of c.text c.matched.captures es)
      (λ o. entries-told es o) (capture_of c.matched.captures e.number)

  pub captures-told : (entries : List RuleCapture) (out : Output)
      → captures_told c (map entry_of entries) out
      ≡ all_told (telling_around c) (takens_of c.text c.matched.captures entries) out
  captures-told entries out = ap all_closed (entries-told entries (record { out = out; locals = [] }))
