-- What is searched in a frame, from the lists that stand and the text that the frame keeps.
use Rattle.std.proofs.Common.{◌≡◌, ℕ, List, [], refl, ap, ◌∙◌, sym}
use Rattle.std.specs.Prelude.{Bool, true, false, Option, Some, option_and_then, unwrap_or, slice_get, flat_map}
use Rattle.std.proofs.lemmas.List.{append-nil}
use Rattle.canonical_patterns.specs.ReadTrees.{read_tree}
use Rattle.scope_defs.specs.Frames.{Frame}
use Rattle.rule_defs.specs.Rules.{Kind, Match, BeginEnd, BeginWhile, Group, Rule, Slot, Never, Read, Later, no_rule}
use Rattle.rule_table.specs.declared.rule.RuleKind.{RuleKind}
use Rattle.rule_table.specs.declared.rule.RuleKind.TheVariants as kinds
use Rattle.rule_table.specs.Views.{Table, kind_of}
use Rattle.line_defs.specs.Machine.{Machine, rule_at}
use Rattle.line_defs.specs.Search.{Choice, OfEnd, OfRule, choice_of, pattern_of, with_groups, finish_of}
use Rattle.line_defs.specs.Search.{finish_choice, rule_choices, in_order, with_end, choices}
use Rattle.line_search.specs.Machines.{IsOf}
use Rattle.line_search.specs.Lists.{early, with_early_end, early_choices, while_choices, late_choice}
use Rattle.line_search.specs.declared.lists.RuleLists.{RuleLists}
use Rattle.line_search.proofs.Tables.{Stands}

-- ---- a list without an end

pub in_order-none : (last : Bool) (inside : List Choice) → in_order last [] inside ≡ inside
in_order-none true inside = append-nil inside
in_order-none false inside = refl

in_order-alone : (last : Bool) (end : List Choice) → in_order last end [] ≡ end
in_order-alone true end = refl
in_order-alone false end = append-nil end

-- ---- the rule of a frame

rule_is : (machine : Machine) (rules : List Rule) (id : ℕ) (rule : Rule) → machine.rules ≡ rules →
    slice_get rules id ≡ Some rule → rule_at machine id ≡ rule
rule_is machine rules id rule same there =
    ap (λ rs. unwrap_or (slice_get rs id) no_rule) same ∙ ap (λ o. unwrap_or o no_rule) there

pub rules_early : (machine : Machine) (rules : List Rule) (active : List ℕ) → machine.rules ≡ rules →
    rule_choices machine active ≡ rule_choices (early rules) active
rules_early machine rules active same =
    ap (λ rs. flat_map (λ number. choice_of (OfRule number)
    (pattern_of (unwrap_or (slice_get rs number) no_rule).start)) active) same

no_end : (machine : Machine) (kind : Kind) (last : Bool) (frame : Frame) (inside : List Choice) →
    (kind ≡ BeginEnd → ⊥) → with_end machine kind last frame inside ≡ inside
no_end machine Match last frame inside other = refl
no_end machine BeginEnd last frame inside other = absurd (other refl)
no_end machine BeginWhile last frame inside other = refl
no_end machine Group last frame inside other = refl

no_early_end : (kind : Kind) (rule : Rule) (inside : List Choice) → (kind ≡ BeginEnd → ⊥) →
    with_early_end kind rule inside ≡ inside
no_early_end Match rule inside other = refl
no_early_end BeginEnd rule inside other = absurd (other refl)
no_early_end BeginWhile rule inside other = refl
no_early_end Group rule inside other = refl

-- ---- a frame of another rule than begin/end

pub other_choices : (machine : Machine) (table : Table) (frame : Frame) (rule : Rule) → IsOf table machine →
    slice_get table.rules frame.rule ≡ Some rule → (rule.kind ≡ BeginEnd → ⊥) →
    early_choices table.rules rule ≡ choices machine frame
other_choices machine table frame rule is there other =
    let same : rule_at machine frame.rule ≡ rule = rule_is machine table.rules frame.rule rule is.rules there in
    no_early_end rule.kind rule (rule_choices (early table.rules) rule.active) other
    ∙ sym (rules_early machine table.rules rule.active is.rules)
    ∙ sym (ap (λ r. rule_choices machine r.active) same)
    ∙ sym (no_end machine (rule_at machine frame.rule).kind (rule_at machine frame.rule).finish_last frame
    (rule_choices machine (rule_at machine frame.rule).active)
    (λ kind. other (sym (ap (λ r. r.kind) same) ∙ kind)))

-- ---- an end that is read late

late_end : (machine : Machine) (text : Option (List ℕ)) (groups : ℕ) (t : List ℕ) → machine.reader ≡ read_tree →
    choice_of OfEnd (finish_of machine (Later t groups) text) ≡ late_choice (Later t groups) text
late_end machine text groups t reads =
    ap (λ r. choice_of OfEnd (option_and_then (with_groups groups) (option_and_then r text))) reads

early_and_late : (machine : Machine) (last : Bool) (slot : Slot) (text : Option (List ℕ)) (inside : List Choice) →
    machine.reader ≡ read_tree →
    in_order last (late_choice slot text) (in_order last (choice_of OfEnd (pattern_of slot)) inside)
    ≡ in_order last (choice_of OfEnd (finish_of machine slot text)) inside
early_and_late machine last Never text inside reads =
    ap (in_order last []) (in_order-none last inside)
early_and_late machine last (Read tree) text inside reads =
    in_order-none last (in_order last (choice_of OfEnd (Some tree)) inside)
early_and_late machine last (Later t groups) text inside reads =
    ap (in_order last (late_choice (Later t groups) text)) (in_order-none last inside)
    ∙ ap (λ end. in_order last end inside) (sym (late_end machine text groups t reads))

pub ended_choices : (machine : Machine) (table : Table) (frame : Frame) (rule : Rule) → IsOf table machine →
    slice_get table.rules frame.rule ≡ Some rule → rule.kind ≡ BeginEnd →
    in_order rule.finish_last (late_choice rule.finish frame.end_text) (early_choices table.rules rule)
    ≡ choices machine frame
ended_choices machine table frame rule is there kind =
    let same : rule_at machine frame.rule ≡ rule = rule_is machine table.rules frame.rule rule is.rules there in
    let at : (rule_at machine frame.rule).kind ≡ BeginEnd = ap (λ r. r.kind) same ∙ kind in
    ap (λ k. in_order rule.finish_last (late_choice rule.finish frame.end_text)
    (with_early_end k rule (rule_choices (early table.rules) rule.active))) kind
    ∙ early_and_late machine rule.finish_last rule.finish frame.end_text
    (rule_choices (early table.rules) rule.active) is.reader
    ∙ ap (in_order rule.finish_last (choice_of OfEnd (finish_of machine rule.finish frame.end_text)))
    (sym (rules_early machine table.rules rule.active is.rules))
    ∙ sym (ap (λ r. in_order r.finish_last (choice_of OfEnd (finish_of machine r.finish frame.end_text))
    (rule_choices machine r.active)) same)
    ∙ sym (ap (λ k. with_end machine k (rule_at machine frame.rule).finish_last frame
    (rule_choices machine (rule_at machine frame.rule).active)) at)

-- ---- the pattern of a `while`

while_and_late : (machine : Machine) (last : Bool) (slot : Slot) (text : Option (List ℕ)) →
    machine.reader ≡ read_tree → in_order last (late_choice slot text) (choice_of OfEnd (pattern_of slot))
    ≡ choice_of OfEnd (finish_of machine slot text)
while_and_late machine last Never text reads = in_order-none last []
while_and_late machine last (Read tree) text reads = in_order-none last (choice_of OfEnd (Some tree))
while_and_late machine last (Later t groups) text reads =
    in_order-alone last (late_choice (Later t groups) text) ∙ sym (late_end machine text groups t reads)

pub while_chosen : (machine : Machine) (table : Table) (frame : Frame) (rule : Rule) → IsOf table machine →
    slice_get table.rules frame.rule ≡ Some rule → rule.kind ≡ BeginWhile →
    in_order rule.finish_last (late_choice rule.finish frame.end_text) (while_choices rule.kind rule)
    ≡ finish_choice machine frame
while_chosen machine table frame rule is there kind =
    let same : rule_at machine frame.rule ≡ rule = rule_is machine table.rules frame.rule rule is.rules there in
    ap (λ k. in_order rule.finish_last (late_choice rule.finish frame.end_text) (while_choices k rule)) kind
    ∙ while_and_late machine rule.finish_last rule.finish frame.end_text is.reader
    ∙ sym (ap (λ r. choice_of OfEnd (finish_of machine r.finish frame.end_text)) same)

-- ---- from the lists that stand

pub ended_by : (machine : Machine) (table : Table) (frame : Frame) (lists : RuleLists) (rule : Rule)
    (end : Option (List ℕ)) → IsOf table machine → Stands table frame.rule lists rule → end ≡ frame.end_text →
    rule.kind ≡ BeginEnd →
    in_order rule.finish_last (late_choice rule.finish end) lists.inside ≡ choices machine frame
ended_by machine table frame lists rule end is stand same kind =
    ap (λ ls. in_order rule.finish_last (late_choice rule.finish end) ls.inside) stand.lists_are
    ∙ ap (λ e. in_order rule.finish_last (late_choice rule.finish e) (early_choices table.rules rule)) same
    ∙ ended_choices machine table frame rule is stand.there kind

pub other_by : (machine : Machine) (table : Table) (frame : Frame) (lists : RuleLists) (rule : Rule) →
    IsOf table machine → Stands table frame.rule lists rule → (rule.kind ≡ BeginEnd → ⊥) →
    lists.inside ≡ choices machine frame
other_by machine table frame lists rule is stand other =
    ap (λ ls. ls.inside) stand.lists_are ∙ other_choices machine table frame rule is stand.there other

pub while_by : (machine : Machine) (table : Table) (frame : Frame) (lists : RuleLists) (rule : Rule)
    (end : Option (List ℕ)) → IsOf table machine → Stands table frame.rule lists rule → end ≡ frame.end_text →
    rule.kind ≡ BeginWhile →
    in_order rule.finish_last (late_choice rule.finish end) lists.goes_on ≡ finish_choice machine frame
while_by machine table frame lists rule end is stand same kind =
    ap (λ ls. in_order rule.finish_last (late_choice rule.finish end) ls.goes_on) stand.lists_are
    ∙ ap (λ e. in_order rule.finish_last (late_choice rule.finish e) (while_choices rule.kind rule)) same
    ∙ while_chosen machine table frame rule is stand.there kind

pub kind_end : (kind : RuleKind) → kind_of kind ≡ BeginEnd → kind ≡ kinds.BeginEnd
kind_end kinds.Match is = absurd (cc)
kind_end kinds.BeginEnd is = refl
kind_end kinds.BeginWhile is = absurd (cc)
kind_end kinds.Group is = absurd (cc)
