-- The patterns of lists belong to rules of a table, with no more groups than it says.
use Rattle.std.proofs.Common.{◌≡◌, ℕ, ◌≤◌, ◌<◌, List, [], ◌∷◌, ◌++◌, map, subst, sym}
use Rattle.std.specs.Prelude.{All, Bool, true, false}
use Rattle.std.proofs.lemmas.List.Elements.{All-nil, All-cons, All-head, All-tail, All-append}
use Rattle.scope_defs.specs.declared.types.RuleId.{RuleId}
use Rattle.rule_defs.specs.Rules.{Kind, Match, BeginEnd, BeginWhile, Group, Rule, Slot, Never, Read, Later}
use Rattle.rule_table.specs.Fits.{HasRoom}
use Rattle.line_defs.specs.Search.{Choice, OfEnd, choice_of, pattern_of}
use Rattle.line_search.specs.Finds.{IsBelow}
use Rattle.line_search.specs.Choices.{AreOf}
use Rattle.line_search.specs.Lists.{end_for, end_where, while_choices}

pub AreOf-nil : (rules groups : ℕ) → AreOf rules groups []
AreOf-nil rules groups = record {
  room = All-nil (λ choice. choice.tree.groups ≤ groups);
  owners = All-nil (λ choice. IsBelow rules choice.of);
}

pub AreOf-append : (rules groups : ℕ) (cs ds : List Choice) → AreOf rules groups cs → AreOf rules groups ds →
    AreOf rules groups (cs ++ ds)
AreOf-append rules groups cs ds are too = record {
  room = All-append (λ choice. choice.tree.groups ≤ groups) cs ds are.room too.room;
  owners = All-append (λ choice. IsBelow rules choice.of) cs ds are.owners too.owners;
}

AreOf-slot : (rules groups : ℕ) (slot : Slot) → HasRoom groups slot →
    AreOf rules groups (choice_of OfEnd (pattern_of slot))
AreOf-slot rules groups Never room = AreOf-nil rules groups
AreOf-slot rules groups (Read tree) room = record {
  room = All-cons (λ choice. choice.tree.groups ≤ groups) (record { of = OfEnd; tree = tree }) [] room
      (All-nil (λ choice. choice.tree.groups ≤ groups));
  owners = All-cons (λ choice. IsBelow rules choice.of) (record { of = OfEnd; tree = tree }) [] tt
      (All-nil (λ choice. IsBelow rules choice.of));
}
AreOf-slot rules groups (Later text most) room = AreOf-nil rules groups

by_kind : (rules groups : ℕ) (kind : Kind) (here : Bool) (rule : Rule) → HasRoom groups rule.finish →
    AreOf rules groups (end_for kind here rule)
by_kind rules groups BeginEnd true rule room = AreOf-slot rules groups rule.finish room
by_kind rules groups BeginEnd false rule room = AreOf-nil rules groups
by_kind rules groups Match here rule room = AreOf-nil rules groups
by_kind rules groups BeginWhile here rule room = AreOf-nil rules groups
by_kind rules groups Group here rule room = AreOf-nil rules groups

pub AreOf-end : (rules groups : ℕ) (last : Bool) (rule : Rule) → HasRoom groups rule.finish →
    AreOf rules groups (end_where last rule)
AreOf-end rules groups last rule room = by_kind rules groups rule.kind _ rule room

pub AreOf-while : (rules groups : ℕ) (kind : Kind) (rule : Rule) → HasRoom groups rule.finish →
    AreOf rules groups (while_choices kind rule)
AreOf-while rules groups BeginWhile rule room = AreOf-slot rules groups rule.finish room
AreOf-while rules groups Match rule room = AreOf-nil rules groups
AreOf-while rules groups BeginEnd rule room = AreOf-nil rules groups
AreOf-while rules groups Group rule room = AreOf-nil rules groups

-- what holds of the numbers of some rules holds of the rules' ids
pub ids_below : (count : ℕ) (ids : List RuleId) → All (λ id. id < count) (map (λ id. id.0) ids) →
    All (λ id. id.0 < count) ids
ids_below count [] all = All-nil (λ (id : RuleId). id.0 < count)
ids_below count (id ∷ ids) all =
    All-cons (λ (id : RuleId). id.0 < count) id ids
    (All-head (λ (n : ℕ). n < count) id.0 (map (λ id. id.0) ids) all)
    (ids_below count ids (All-tail (λ (n : ℕ). n < count) id.0 (map (λ id. id.0) ids) all))

-- a list to which the end is added before or behind the patterns of rules
pub AreOf-inside : (rules groups : ℕ) (rule : Rule) (none front most all : List Choice) → HasRoom groups rule.finish →
    none ≡ [] → front ≡ none ++ end_where false rule → (AreOf rules groups front → AreOf rules groups most) →
    all ≡ most ++ end_where true rule → AreOf rules groups all
AreOf-inside rules groups rule none front most all room empty first inside last =
    let start : AreOf rules groups none = subst (AreOf rules groups) (sym empty) (AreOf-nil rules groups) in
    let more : AreOf rules groups front = subst (AreOf rules groups) (sym first)
    (AreOf-append rules groups none (end_where false rule) start (AreOf-end rules groups false rule room)) in
    subst (AreOf rules groups) (sym last)
    (AreOf-append rules groups most (end_where true rule) (inside more) (AreOf-end rules groups true rule room))
