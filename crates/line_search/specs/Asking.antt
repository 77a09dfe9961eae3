-- How injections stand ready in code, and which of them hold of scopes that were asked for.
use Rattle.std.specs.Prelude.{◌≡◌, ◌<◌, List, length, map, All, IfSome}
use Rattle.std.specs.Rc.{rc_value}
use Rattle.scope_defs.specs.SelectorSyntax.{entries_of, entry_at}
use Rattle.selectors.specs.Needs.{Needs}
use Rattle.rule_table.specs.Views.{Table}
use Rattle.line_search.specs.declared.injected.Ready.{Ready}
use Rattle.line_search.specs.declared.injected.Asked.{Asked}
use Rattle.line_search.specs.declared.injected.Injected.TheInside.{Inside}
use Rattle.line_search.specs.Choices.{AreOf}
use Rattle.line_search.specs.Prepared.{Prepared, group_choices, holding}

abbrev pub prepared_of : Ready → Prepared
prepared_of r = record {
  selector = rc_value r.selector;
  entry = r.entry;
  first = r.first;
  choices = rc_value r.choices;
}

abbrev pub HasEntry : Ready → Type 0
HasEntry r = r.entry < length (entries_of (rc_value r.selector))

-- where it has keys, it holds of no scopes that don't meet what needs them
abbrev pub HasNeeded : Ready → Type 0
HasNeeded r = IfSome r.needed (Needs (entry_at (rc_value r.selector) r.entry).matcher)

-- it has the patterns of its rule, which fit a table
pub record IsReady (table : Table) (r : Ready) : Type 0 where
  pub entry : HasEntry r
  pub needed : HasNeeded r
  pub choices : rc_value r.choices ≡ group_choices table.rules r.rule.0
  pub fit : AreOf (length table.rules) table.groups (rc_value r.choices)

abbrev pub AreReady : Table → List Ready → Type 0
AreReady table ready = All (IsReady table) ready

abbrev pub IsAsked : List Prepared → Asked → Type 0
IsAsked all asked = rc_value asked.numbers ≡ holding asked.scopes 0 all

abbrev pub prepared_in : Inside → List Prepared
prepared_in i = map prepared_of i.ready.items

pub record IsInjected (i : Inside) : Type 0 where
  pub entries : All HasEntry i.ready.items
  pub needed : All HasNeeded i.ready.items
  pub some : 0 < length i.asked.items
  pub asked : All (IsAsked (prepared_in i)) i.asked.items
