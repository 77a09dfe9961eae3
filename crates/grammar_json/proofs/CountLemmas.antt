-- A list of members is there, though it may be empty; rules are counted member by member.
use Rattle.std.proofs.Common.{◌≡◌, ℕ, zero, suc, ◌+◌, ◌<◌, ◌≤◌, List, [], ◌∷◌, length, map, drop, get_or, refl, ap}
use Rattle.std.proofs.Common.{◌∙◌, arith}
use Rattle.std.proofs.lemmas.List.{drop_more}
use Rattle.std.proofs.lemmas.List.Sums.{sum_by-cons}
use Rattle.grammar_defs.specs.FileRules.{FileList}
use Rattle.grammar_defs.specs.GrammarShape.{own_rule, or_nothing, rules_of_list, rules_of_rule, rules_of_named}
use Rattle.grammar_defs.specs.GrammarShape.{capture_rules}
use Rattle.grammar_json.specs.FileViews.{rule_of, entry_list, entry_then, entry_rules, capture_list, if_there}
use Rattle.grammar_json.specs.NamedViews.{named_view}
use Rattle.grammar_json.specs.declared.named.NamedRule.{NamedRule}
use Rattle.grammar_json.specs.declared.file_rules.Entry.{Entry}
use Rattle.grammar_json.specs.declared.file_rules.Entry.TheVariants.{Include, Rule}
use Rattle.grammar_json.specs.declared.file_rules.Capture.{Capture}

pub own_rule_of_list : (es : List Entry) → own_rule (entry_list es) ≡ 1
own_rule_of_list [] = refl
own_rule_of_list (Include name ∷ es) = refl
own_rule_of_list (Rule r ∷ es) = refl

pub list_is_there : (es : List Entry) → or_nothing (entry_list es) ≡ entry_list es
list_is_there [] = refl
list_is_there (Include name ∷ es) = refl
list_is_there (Rule r ∷ es) = refl

rules_of_entry : (e : Entry) (others : FileList) → rules_of_list (entry_then e others)
    ≡ entry_rules e + rules_of_list others
rules_of_entry (Include name) others = omega arith
rules_of_entry (Rule r) others = omega arith

pub entries_step : (es : List Entry) (i : ℕ) (e : Entry) → i < length es → rules_of_list (entry_list (drop i es))
    ≡ entry_rules (get_or es i e) + rules_of_list (entry_list (drop (i + 1) es))
entries_step es i e h = ap (λ xs. rules_of_list (entry_list xs)) (drop_more es i e h)
    ∙ rules_of_entry (get_or es i e) (entry_list (drop (i + 1) es))

pub captures_step : (cs : List Capture) (i : ℕ) (c : Capture) → i < length cs
    → rules_of_list (capture_list (drop i cs))
    ≡ capture_rules (if_there (get_or cs i c).patterns) + rules_of_list (capture_list (drop (i + 1) cs))
captures_step cs i c h = ap (λ xs. rules_of_list (capture_list xs)) (drop_more cs i c h) ∙ omega arith

pub named_step : (rs : List NamedRule) (i : ℕ) (r : NamedRule) → i < length rs
    → rules_of_named (map named_view (drop i rs))
    ≡ rules_of_rule (rule_of (get_or rs i r).rule) + rules_of_named (map named_view (drop (i + 1) rs))
named_step rs i r h = ap (λ xs. rules_of_named (map named_view xs)) (drop_more rs i r h)
    ∙ sum_by-cons (λ n. rules_of_rule n.rule) (named_view (get_or rs i r)) (map named_view (drop (i + 1) rs))

drop_end : {X : Type 0} (xs : List X) (i : ℕ) → length xs ≤ i → drop i xs ≡ []
drop_end [] zero h = refl
drop_end [] (suc i) h = refl
drop_end (x ∷ xs) zero h = absurd (omega arith)
drop_end (x ∷ xs) (suc i) h = drop_end xs i (omega arith)

-- nothing is left to count
pub entries_end : (es : List Entry) (i : ℕ) → length es ≤ i → rules_of_list (entry_list (drop i es)) ≡ 0
entries_end es i h = ap (λ xs. rules_of_list (entry_list xs)) (drop_end es i h)

pub captures_end : (cs : List Capture) (i : ℕ) → length cs ≤ i → rules_of_list (capture_list (drop i cs)) ≡ 0
captures_end cs i h = ap (λ xs. rules_of_list (capture_list xs)) (drop_end cs i h)

pub named_end : (rs : List NamedRule) (i : ℕ) → length rs ≤ i → rules_of_named (map named_view (drop i rs)) ≡ 0
named_end rs i h = ap (λ xs. rules_of_named (map named_view xs)) (drop_end rs i h)
