-- The lists of the rules of a table, one after the other.
use Rattle.std.proofs.Common.{◌≡◌, ℕ, ◌+◌, ◌<◌, ◌≤◌, List, [], ◌∷◌, ◌++◌, length, take, get_or, refl, ap, ◌∙◌}
use Rattle.std.proofs.Common.{sym, subst}
use Rattle.std.proofs.Common.{arith}
use Rattle.std.specs.Prelude.{Some, option_map, slice_get, All}
use Rattle.std.proofs.lemmas.List.{take_more}
use Rattle.std.proofs.lemmas.List.Elements.{All-push, All-get_or, All-weaker}
use Rattle.std.proofs.lemmas.Option.{slice_get-map, slice_get_within, slice_get_read, get_or_from_slice_get}
use Rattle.rule_defs.specs.Rules.{Rule}
use Rattle.rule_table.specs.Views.{Table}
use Rattle.line_defs.specs.Search.{Choice}
use Rattle.line_search.specs.Choices.{HaveRoom, AreOf}
use Rattle.line_search.specs.declared.lists.RuleLists.{RuleLists}
use Rattle.line_search.specs.Lists.{lists_of, all_lists, AreListsOf}

list_at : (rules : List Rule) (id : ℕ) (lists : RuleLists) →
    option_map (lists_of rules) (slice_get rules id) ≡ Some lists → slice_get (all_lists rules) id ≡ Some lists
list_at rules id lists is = slice_get-map (lists_of rules) rules id ∙ is

pub one_more : (rules : List Rule) (id : ℕ) (all more : List RuleLists) (lists : RuleLists) →
    all ≡ take id (all_lists rules) → more ≡ all ++ lists ∷ [] →
    option_map (lists_of rules) (slice_get rules id) ≡ Some lists → more ≡ take (id + 1) (all_lists rules)
one_more rules id all more lists so pushed is =
    let there : slice_get (all_lists rules) id ≡ Some lists = list_at rules id lists is in
    let low : id < length (all_lists rules) = slice_get_within (all_lists rules) id lists there in
    pushed ∙ ap (λ ls. ls ++ lists ∷ []) so
    ∙ sym (take_more (all_lists rules) id lists low
    ∙ ap (λ l. take id (all_lists rules) ++ l ∷ []) (get_or_from_slice_get (all_lists rules) id lists lists there))

pub more_fit : (rules groups : ℕ) (all more : List RuleLists) (lists : RuleLists) → more ≡ all ++ lists ∷ [] →
    All (AreListsOf rules groups) all → AreListsOf rules groups lists → All (AreListsOf rules groups) more
more_fit rules groups all more lists pushed fit too =
    subst (All (AreListsOf rules groups)) (sym pushed) (All-push (AreListsOf rules groups) all lists fit too)

-- the lists of a rule, and the rule, as they stand for the number of a frame
pub record Stands (table : Table) (number : ℕ) (lists : RuleLists) (rule : Rule) : Type 0 where
  pub lists_are : lists ≡ lists_of table.rules rule
  pub there : slice_get table.rules number ≡ Some rule
  pub fit : AreListsOf (length table.rules) table.groups lists

pub stands : (own table : Table) (all found : List RuleLists) (id number : ℕ) (lists : RuleLists) (rule : Rule) →
    own ≡ table → all ≡ all_lists own.rules → All (AreListsOf (length own.rules) own.groups) all → found ≡ all →
    id < length found → lists ≡ get_or found id lists → slice_get own.rules id ≡ Some rule → id ≡ number →
    Stands table number lists rule
stands own table all found id number lists rule same are fit all_found low is there at =
    let read : slice_get found id ≡ Some lists = slice_get_read found (length found) id lists refl low is in
    let named : slice_get found id ≡ Some (lists_of own.rules rule) =
    ap (λ ls. slice_get ls id) (all_found ∙ are) ∙ slice_get-map (lists_of own.rules) own.rules id
    ∙ ap (option_map (lists_of own.rules)) there in
    let is_list : lists ≡ lists_of own.rules rule = cc in
    let in_all : id < length all = subst (λ (ls : List RuleLists). id < length ls) all_found low in
    let here : lists ≡ get_or all id lists = is ∙ ap (λ ls. get_or ls id lists) all_found in
    let one : AreListsOf (length own.rules) own.groups lists =
    subst (AreListsOf (length own.rules) own.groups) (sym here)
    (All-get_or (AreListsOf (length own.rules) own.groups) all id lists in_all fit) in
    record {
      lists_are = is_list ∙ ap (λ t. lists_of t.rules rule) same;
      there = ap (λ n. slice_get table.rules n) (sym at) ∙ ap (λ t. slice_get t.rules id) (sym same) ∙ there;
      fit = subst (λ (t : Table). AreListsOf (length t.rules) t.groups lists) same one;
    }

-- ---- what the lists of a rule find

pub early_room : (rules groups room : ℕ) (choices : List Choice) → AreOf rules groups choices → groups ≤ room →
    HaveRoom room choices
early_room rules groups room choices are enough =
    All-weaker (λ choice. choice.tree.groups ≤ groups) (λ choice. choice.tree.groups ≤ room)
    (λ choice few. omega arith) choices are.room
