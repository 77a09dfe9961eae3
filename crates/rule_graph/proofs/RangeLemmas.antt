-- All rules that a grammar's rules name are rules of it.
use Rattle.std.proofs.Common.{◌≡◌, ℕ, zero, suc, ◌+◌, ◌<◌, ◌≤◌, List, [], ◌∷◌, ◌++◌}
use Rattle.std.proofs.Common.{length, arith, cond, All, length-append, IfSome}
use Rattle.std.specs.Prelude.{Bool, true, false, Option, Some, None, option_to_list, option_and_then}
use Rattle.std.specs.Str.{bytes_eq}
use Rattle.std.proofs.lemmas.List.Sums.{sum_by-cons}
use Rattle.rule_defs.specs.Rules.{Kind, Match, BeginEnd, BeginWhile, Group, Entry, Rule}
use Rattle.grammar_defs.specs.FileRules.{FileList, absent, nothing, include, rule, capture, FileRule, placed}
use Rattle.grammar_defs.specs.FileRules.{NamedRule, Grammar}
use Rattle.grammar_defs.specs.GrammarShape.{own_rule, capture_rules, rules_of_list, rules_of_rule, rules_of_named}
use Rattle.grammar_defs.specs.GrammarShape.{rule_count}
use Rattle.graph_defs.specs.Includes.{target, number_of, in_repository, repository_from, is_top, key_in}
use Rattle.graph_defs.specs.ListedRules.{rule_with, captures_from, begin_from, end_from, while_from, patterns_from}
use Rattle.graph_defs.specs.ListedRules.{members, members_of, inner_of, entries, entries_or, start_entries}
use Rattle.graph_defs.specs.ListedRules.{finish_entries, listed_rule, group_of, capture_group, rules_from}
use Rattle.graph_defs.specs.ListedRules.{named_from, listed_rules, injections_from, is_there}
use Rattle.graph_defs.specs.Slots.{kind_of}
use Rattle.rule_table.specs.Fits.{IsEntry}
use Rattle.rule_graph.proofs.WalkLemmas.{length-rules_from, length-named_from}

-- what holds of each member, member by member
abbrev pub Each : {X : Type 0} → (X → Type 0) → List X → Type 0
Each P [] = Unit {0}
Each P (x ∷ xs) = P x × Each P xs

pub all_of_each : {X : Type 0} (P : X → Type 0) (xs : List X) → Each P xs → All P xs
all_of_each P [] each k d lt = absurd (omega arith)
all_of_each P (x ∷ xs) each zero d lt = each.0
all_of_each P (x ∷ xs) each (suc k) d lt = all_of_each P xs each.1 k d (omega arith)

pub each_append : {X : Type 0} (P : X → Type 0) (xs ys : List X) → Each P xs → Each P ys → Each P (xs ++ ys)
each_append P [] ys a b = b
each_append P (x ∷ xs) ys a b = (a.0, each_append P xs ys a.1 b)

-- numbers of rules

abbrev pub Below : ℕ → ℕ → Type 0
Below count k = k < count

abbrev pub MayBelow : ℕ → Option ℕ → Type 0
MayBelow count o = IfSome o (Below count)

either : (count : ℕ) (b : Bool) (x y : Option ℕ) → MayBelow count x → MayBelow count y → MayBelow count (cond b x y)
either count true x y a b = a
either count false x y a b = b

number_below : (count n : ℕ) (rs : List NamedRule) (key : List ℕ) → n + rules_of_named rs ≤ count
    → MayBelow count (number_of n rs key)
number_below count n [] key le = tt
number_below count n (named ∷ rs) key le =
    let s = sum_by-cons (λ x. rules_of_rule x.rule) named rs in
    either count (bytes_eq named.key key) (Some n) (number_of (n + rules_of_rule named.rule) rs key)
    (omega (arith, s, le)) (number_below count (n + rules_of_rule named.rule) rs key (omega (arith, s, le)))

then_below : (count : ℕ) (f : List ℕ → Option ℕ) → ((key : List ℕ) → MayBelow count (f key)) → (o : Option (List ℕ))
    → MayBelow count (option_and_then f o)
then_below count f below None = tt
then_below count f below (Some key) = below key

pub target_below : (g : Grammar) (name : List ℕ) → MayBelow (rule_count g) (target g name)
target_below g name =
    either (rule_count g) (is_top g.scope name) (Some 0) (option_and_then (in_repository g) (key_in g.scope name))
    (omega arith)
    (then_below (rule_count g) (in_repository g)
    (λ key. number_below (rule_count g) (repository_from g) g.repository key (omega arith)) (key_in g.scope name))

list_below : (count : ℕ) (o : Option ℕ) → MayBelow count o → Each (Below count) (option_to_list o)
list_below count None below = tt
list_below count (Some n) below = (below, tt)

pub members_below : (g : Grammar) (n : ℕ) (list : FileList) → n + rules_of_list list ≤ rule_count g
    → Each (Below (rule_count g)) (members g n list)
members_below g n absent le = tt
members_below g n nothing le = tt
members_below g n (include name others) le =
    each_append (Below (rule_count g)) (option_to_list (target g name)) (members g n others)
    (list_below (rule_count g) (target g name) (target_below g name)) (members_below g n others le)
members_below g n (rule t a b c d last p others) le =
    (omega (arith, le), members_below g (n + rules_of_rule (rule_with t a b c d last p)) others (omega (arith, le)))
members_below g n (capture number name content p others) le =
    members_below g (n + capture_rules p) others (omega (arith, le))

either_list : (count : ℕ) (b : Bool) (xs ys : List ℕ) → Each (Below count) xs → Each (Below count) ys
    → Each (Below count) (cond b xs ys)
either_list count true xs ys a b = a
either_list count false xs ys a b = b

pub members_of_below : (g : Grammar) (n : ℕ) (r : FileRule) (kind : Kind) → n + rules_of_rule r ≤ rule_count g
    → Each (Below (rule_count g)) (members_of g n r kind)
members_of_below g n r Match le = members_below g (patterns_from n r) r.patterns (omega (arith, le))
members_of_below g n r BeginEnd le = members_below g (patterns_from n r) r.patterns (omega (arith, le))
members_of_below g n r BeginWhile le = members_below g (patterns_from n r) r.patterns (omega (arith, le))
members_of_below g n r Group le =
    either_list (rule_count g) (is_there r.patterns) (members g (patterns_from n r) r.patterns)
    (option_to_list (option_and_then (target g) r.texts.include))
    (members_below g (patterns_from n r) r.patterns (omega (arith, le)))
    (list_below (rule_count g) (option_and_then (target g) r.texts.include)
    (then_below (rule_count g) (target g) (target_below g) r.texts.include))

-- captures

inner_below : (count n : ℕ) (p : FileList) → n + capture_rules p ≤ count → MayBelow count (inner_of n p)
inner_below count n absent le = tt
inner_below count n nothing le = omega (arith, le)
inner_below count n (include name others) le = omega (arith, le)
inner_below count n (rule t a b c d last p others) le = omega (arith, le)
inner_below count n (capture number name content p others) le = omega (arith, le)

pub entries_below : (count n : ℕ) (list : FileList) → n + rules_of_list list ≤ count
    → Each (IsEntry count) (entries n list)
entries_below count n absent le = tt
entries_below count n nothing le = tt
entries_below count n (include name others) le = entries_below count n others le
entries_below count n (rule t a b c d last p others) le =
    entries_below count (n + rules_of_rule (rule_with t a b c d last p)) others (omega (arith, le))
entries_below count n (capture number name content p others) le =
    (inner_below count n p (omega (arith, le)), entries_below count (n + capture_rules p) others (omega (arith, le)))

either_entries : (count : ℕ) (b : Bool) (xs ys : List Entry) → Each (IsEntry count) xs → Each (IsEntry count) ys
    → Each (IsEntry count) (cond b xs ys)
either_entries count true xs ys a b = a
either_entries count false xs ys a b = b

entries_or_below : (count n : ℕ) (r : FileRule) (from : ℕ) (list : FileList) → from + rules_of_list list ≤ count
    → n + rules_of_rule r ≤ count → Each (IsEntry count) (entries_or n r from list)
entries_or_below count n r from list le whole =
    either_entries count (is_there list) (entries from list) (entries (captures_from n r) r.captures)
    (entries_below count from list le) (entries_below count (captures_from n r) r.captures (omega (arith, whole)))

start_below : (count n : ℕ) (r : FileRule) (kind : Kind) → n + rules_of_rule r ≤ count
    → Each (IsEntry count) (start_entries n r kind)
start_below count n r Match le = entries_below count (captures_from n r) r.captures (omega (arith, le))
start_below count n r BeginEnd le =
    entries_or_below count n r (begin_from n r) r.begin_captures (omega (arith, le)) le
start_below count n r BeginWhile le =
    entries_or_below count n r (begin_from n r) r.begin_captures (omega (arith, le)) le
start_below count n r Group le = tt

finish_below : (count n : ℕ) (r : FileRule) (kind : Kind) → n + rules_of_rule r ≤ count
    → Each (IsEntry count) (finish_entries n r kind)
finish_below count n r Match le = tt
finish_below count n r BeginEnd le = entries_or_below count n r (end_from n r) r.end_captures (omega (arith, le)) le
finish_below count n r BeginWhile le =
    entries_or_below count n r (while_from n r) r.while_captures (omega (arith, le)) le
finish_below count n r Group le = tt

-- a rule that names only rules below a count
pub record IsListed (count : ℕ) (r : Rule) : Type 0 where
  pub start_captures : Each (IsEntry count) r.start_captures
  pub finish_captures : Each (IsEntry count) r.finish_captures
  pub active : Each (Below count) r.active

listed_below : (g : Grammar) (n : ℕ) (r : FileRule) → n + rules_of_rule r ≤ rule_count g
    → IsListed (rule_count g) (listed_rule g n r)
listed_below g n r le = record {
  start_captures = start_below (rule_count g) n r (kind_of r.texts) le;
  finish_captures = finish_below (rule_count g) n r (kind_of r.texts) le;
  active = members_of_below g n r (kind_of r.texts) le;
}

group_below : (count : ℕ) (name : Option (List ℕ)) (ids : List ℕ) → Each (Below count) ids
    → IsListed count (group_of name ids)
group_below count name ids below = record { start_captures = tt; finish_captures = tt; active = below }

capture_group_below : (g : Grammar) (n : ℕ) (p : FileList) → n + capture_rules p ≤ rule_count g
    → Each (IsListed (rule_count g)) (capture_group g n p)
capture_group_below g n absent le = tt
capture_group_below g n nothing le = (group_below (rule_count g) None [] tt, tt)
capture_group_below g n (include name others) le = (
  group_below (rule_count g) None (members g (n + 1) (include name others))
      (members_below g (n + 1) (include name others) (omega (arith, le))),
  tt,
)
capture_group_below g n (rule t a b c d last p others) le = (
  group_below (rule_count g) None (members g (n + 1) (rule t a b c d last p others))
      (members_below g (n + 1) (rule t a b c d last p others) (omega (arith, le))),
  tt,
)
capture_group_below g n (capture number name content p others) le = (
  group_below (rule_count g) None (members g (n + 1) (capture number name content p others))
      (members_below g (n + 1) (capture number name content p others) (omega (arith, le))),
  tt,
)

pub rules_below : (g : Grammar) (n : ℕ) (list : FileList) → n + rules_of_list list ≤ rule_count g
    → Each (IsListed (rule_count g)) (rules_from g n list)
rules_below g n absent le = tt
rules_below g n nothing le = tt
rules_below g n (include name others) le = rules_below g n others le
rules_below g n (rule t a b c d last p others) le =
    let r = rule_with t a b c d last p in
    let P = IsListed (rule_count g) in
    let x1 = rules_from g (captures_from n r) a in
    let x2 = rules_from g (begin_from n r) b in
    let x3 = rules_from g (end_from n r) c in
    let x4 = rules_from g (while_from n r) d in
    let x5 = rules_from g (patterns_from n r) p in
    let x6 = rules_from g (n + rules_of_rule r) others in (
      listed_below g n r (omega (arith, le)),
      each_append P x1 (x2 ++ (x3 ++ (x4 ++ (x5 ++ x6)))) (rules_below g (captures_from n r) a (omega (arith, le)))
          (each_append P x2 (x3 ++ (x4 ++ (x5 ++ x6))) (rules_below g (begin_from n r) b (omega (arith, le)))
          (each_append P x3 (x4 ++ (x5 ++ x6)) (rules_below g (end_from n r) c (omega (arith, le)))
          (each_append P x4 (x5 ++ x6) (rules_below g (while_from n r) d (omega (arith, le)))
          (each_append P x5 x6 (rules_below g (patterns_from n r) p (omega (arith, le)))
          (rules_below g (n + rules_of_rule r) others (omega (arith, le))))))),
    )
rules_below g n (capture number name content p others) le =
    let P = IsListed (rule_count g) in
    each_append P (capture_group g n p) (rules_from g (n + own_rule p) p ++ rules_from g (n + capture_rules p) others)
    (capture_group_below g n p (omega (arith, le)))
    (each_append P (rules_from g (n + own_rule p) p) (rules_from g (n + capture_rules p) others)
    (rules_below g (n + own_rule p) p (omega (arith, le)))
    (rules_below g (n + capture_rules p) others (omega (arith, le))))

pub named_below : (g : Grammar) (n : ℕ) (rs : List NamedRule) → n + rules_of_named rs ≤ rule_count g
    → Each (IsListed (rule_count g)) (named_from g n rs)
named_below g n [] le = tt
named_below g n (named ∷ rs) le =
    let s = sum_by-cons (λ x. rules_of_rule x.rule) named rs in
    each_append (IsListed (rule_count g)) (rules_from g n (placed named.rule nothing))
    (named_from g (n + rules_of_rule named.rule) rs)
    (rules_below g n (placed named.rule nothing) (omega (arith, s, le)))
    (named_below g (n + rules_of_rule named.rule) rs (omega (arith, s, le)))

pub all_below : (g : Grammar) → Each (IsListed (rule_count g)) (listed_rules g)
all_below g =
    let P = IsListed (rule_count g) in
    let x1 = rules_from g 1 g.patterns in
    let x2 = named_from g (repository_from g) g.repository in
    let x3 = named_from g (injections_from g) g.injections in (
      group_below (rule_count g) (Some g.scope) (members g 1 g.patterns) (members_below g 1 g.patterns (omega arith)),
      each_append P x1 (x2 ++ x3) (rules_below g 1 g.patterns (omega arith))
          (each_append P x2 x3 (named_below g (repository_from g) g.repository (omega arith))
          (named_below g (injections_from g) g.injections (omega arith))),
    )

pub listed_count : (g : Grammar) → length (listed_rules g) ≡ rule_count g
listed_count g =
    let x1 = rules_from g 1 g.patterns in
    let x2 = named_from g (repository_from g) g.repository in
    let x3 = named_from g (injections_from g) g.injections in
    omega (
      arith,
      length-append x1 (x2 ++ x3),
      length-append x2 x3,
      length-rules_from g 1 g.patterns,
      length-named_from g (repository_from g) g.repository,
      length-named_from g (injections_from g) g.injections,
    )
