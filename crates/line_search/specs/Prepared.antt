-- Injections with their patterns, which of them hold of some scopes, and what those find.
use Rattle.std.specs.Prelude.{◌≡◌, ℕ, ◌+◌, ◌<◌, List, [], ◌∷◌, length, map, unwrap_or, slice_get, All, Bool, true, false}
use Rattle.std.specs.Prelude.{if◌then◌else◌, Option}
use Rattle.scope_defs.specs.Scopes.{Scopes}
use Rattle.scope_defs.specs.Selectors.{holds}
use Rattle.scope_defs.specs.SelectorSyntax.{entries_of, entry_at}
use Rattle.rule_defs.specs.Rules.{Rule}
use Rattle.injection_defs.specs.Injections.{Listed, goes_first, rule_at, as_group, injections_of}
use Rattle.rule_table.specs.Views.{Table}
use Rattle.line_defs.specs.Machine.{Machine}
use Rattle.line_defs.specs.Search.{Choice, Found, Nothing, Sight, rule_choices, scan}
use Rattle.line_defs.specs.Injections.{Kept, Injected, Keeps, after_one}
use Rattle.line_search.specs.Lists.{early}
use Rattle.line_search.specs.Choices.{AreOf, HaveRoom}

-- the machine's injections are those of the table
abbrev pub HasInjections : Table → Machine → Type 0
HasInjections table machine = machine.injections ≡ injections_of table.rules table.injections

-- an entry of a selector, whether it goes before an ordinary match, and its patterns
pub record Prepared : Type 0 where
  pub selector : List ℕ
  pub entry : ℕ
  pub first : Bool
  pub choices : List Choice

-- the patterns of a rule that is taken as a group
abbrev pub group_choices : List Rule → ℕ → List Choice
group_choices rules number =
    rule_choices (early rules) (as_group (rule_at rules number).kind number (rule_at rules number).active)

abbrev pub prepared : List Rule → Listed → Prepared
prepared rules i = record {
  selector = i.selector;
  entry = i.entry;
  first = goes_first i.priority;
  choices = group_choices rules i.rule;
}

abbrev pub all_prepared : List Rule → List Listed → List Prepared
all_prepared rules all = map (prepared rules) all

-- its entry is one of the selector's, and its patterns belong to so many rules, with no more groups
pub record IsPrepared (rules groups : ℕ) (p : Prepared) : Type 0 where
  pub entry : p.entry < length (entries_of p.selector)
  pub choices : AreOf rules groups p.choices

abbrev pub ArePrepared : (rules groups : ℕ) → List Prepared → Type 0
ArePrepared rules groups all = All (IsPrepared rules groups) all

abbrev pub HasRoomFor : (groups : ℕ) → Prepared → Type 0
HasRoomFor groups p = HaveRoom groups p.choices

-- ---- those that hold

abbrev pub holds_of : Prepared → Scopes → Bool
holds_of p scopes = holds (entry_at p.selector p.entry).matcher scopes

-- their numbers, where the first has the number n
abbrev pub holding : Scopes → ℕ → List Prepared → List ℕ
holding scopes n [] = []
holding scopes n (p ∷ all) =
    if holds_of p scopes then n ∷ holding scopes (n + 1) all else holding scopes (n + 1) all

abbrev pub NoneHolds : Scopes → List Prepared → Type 0
NoneHolds scopes [] = Unit {0}
NoneHolds scopes (p ∷ all) = (holds_of p scopes ≡ false) × NoneHolds scopes all

-- ---- what they find

abbrev pub none_prepared : Prepared
none_prepared = record { selector = []; entry = 0; first = false; choices = [] }

abbrev pub prepared_at : List Prepared → ℕ → Prepared
prepared_at all n = unwrap_or (slice_get all n) none_prepared

-- those of some numbers
abbrev pub found_by_numbers : Sight → List Prepared → List ℕ → Option Kept → Injected
found_by_numbers s all [] kept = Keeps kept
found_by_numbers s all (n ∷ numbers) kept =
    after_one s (scan s (prepared_at all n).choices) (prepared_at all n).first kept (found_by_numbers s all numbers)

abbrev pub scan_where : Bool → Sight → List Choice → Found
scan_where true s choices = scan s choices
scan_where false s choices = Nothing

-- those that hold
abbrev pub found_by_prepared : Sight → Scopes → List Prepared → Option Kept → Injected
found_by_prepared s scopes [] kept = Keeps kept
found_by_prepared s scopes (p ∷ all) kept =
    after_one s (scan_where (holds_of p scopes) s p.choices) p.first kept (found_by_prepared s scopes all)
