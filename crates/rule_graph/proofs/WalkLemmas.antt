-- Walks in parts: what is met one after the other is met as a whole.
use Rattle.std.proofs.Common.{◌≡◌, ℕ, ◌+◌, ◌*◌, ◌<◌, ◌≤◌, List, [], ◌∷◌, ◌++◌, length, refl, ap, sym}
use Rattle.std.proofs.Common.{◌∙◌, arith}
use Rattle.std.proofs.Common.{append_assoc, length-append, cond}
use Rattle.std.specs.Prelude.{Bool, true, Option, Some, None, option_to_list}
use Rattle.std.specs.List.{count_by, filter}
use Rattle.std.proofs.lemmas.List.{append-nil}
use Rattle.std.proofs.lemmas.List.Sums.{count_by-le-length, sum_by-append, sum_by-cons}
use Rattle.rule_defs.specs.Rules.{Rule}
use Rattle.grammar_defs.specs.FileRules.{FileList, absent, nothing, include, rule, capture, FileRule, placed}
use Rattle.grammar_defs.specs.FileRules.{NamedRule, Grammar}
use Rattle.grammar_defs.specs.GrammarShape.{own_rule, capture_rules, rules_of_list, rules_of_rule, rules_of_named}
use Rattle.graph_defs.specs.ListedRules.{rule_with, captures_from, begin_from, end_from, while_from, patterns_from}
use Rattle.graph_defs.specs.ListedRules.{members, listed_rule, group_of, capture_group, rules_from, named_from}
use Rattle.graph_defs.specs.ListedRules.{is_there}
use Rattle.graph_defs.specs.GraphMeaning.{pattern_texts, texts_of, named_texts, is_unread, is_read_now}
use Rattle.std.proofs.Common.{subst, drop, get_or, drop_of_length-le, map}
use Rattle.grammar_json.specs.FileViews.{rule_of, entry_list, entry_then, capture_list, capture_then, if_there}
use Rattle.grammar_json.specs.declared.file_rules.Entry.{Entry}
use Rattle.grammar_json.specs.declared.file_rules.Entry.TheVariants.{Include, Rule as RuleEntry}
use Rattle.grammar_json.specs.declared.file_rules.Capture.{Capture}
use Rattle.rule_graph.proofs.ListLemmas.{entries_more, captures_more}
use Rattle.std.specs.Prelude.{Result, Ok, Err, OnOk}
use Rattle.std.proofs.lemmas.List.{drop_more}
use Rattle.std.proofs.lemmas.List.Sums.{length-filter}
use Rattle.grammar_defs.specs.FileRules.{Texts}
use Rattle.grammar_defs.specs.GrammarShape.{rule_count}
use Rattle.grammar_json.specs.NamedViews.{named_view}
use Rattle.grammar_json.specs.declared.named.NamedRule.{NamedRule as TableNamed}
use Rattle.graph_defs.specs.Includes.{repository_from}
use Rattle.graph_defs.specs.ListedRules.{listed_rules, injections_from}
use Rattle.graph_defs.specs.GraphMeaning.{unread_texts}
use Rattle.rule_graph.specs.Walks.{Walked, after, after_named, after_group, with_listed, IsSmall}

-- counts of lists one behind the other
pub count_by-append : {X : Type 0} (p : X → Bool) (xs ys : List X) → count_by p (xs ++ ys)
    ≡ count_by p xs + count_by p ys
count_by-append p xs ys = sum_by-append (λ x. cond (p x) 1 0) xs ys

abbrev pub count : List (List ℕ) → ℕ
count texts = count_by is_unread texts

-- as many rules as are counted

pub length-capture_group : (g : Grammar) (n : ℕ) (p : FileList) → length (capture_group g n p) ≡ own_rule p
length-capture_group g n absent = refl
length-capture_group g n nothing = refl
length-capture_group g n (include name others) = refl
length-capture_group g n (rule t a b c d last p others) = refl
length-capture_group g n (capture number name content p others) = refl

length-five : {X : Type 0} (x : X) (a b c d e f : List X)
    → length (x ∷ (a ++ (b ++ (c ++ (d ++ (e ++ f))))))
    ≡ 1 + (length a + length b + length c + length d + length e) + length f
length-five x a b c d e f =
    let l1 = length-append e f in
    let l2 = length-append d (e ++ f) in
    let l3 = length-append c (d ++ (e ++ f)) in
    let l4 = length-append b (c ++ (d ++ (e ++ f))) in
    let l5 = length-append a (b ++ (c ++ (d ++ (e ++ f)))) in
    omega (arith, l1, l2, l3, l4, l5)

pub length-rules_from : (g : Grammar) (n : ℕ) (list : FileList) → length (rules_from g n list) ≡ rules_of_list list
length-rules_from g n absent = refl
length-rules_from g n nothing = refl
length-rules_from g n (include name others) = length-rules_from g n others
length-rules_from g n (rule t a b c d last p others) =
    let r = rule_with t a b c d last p in
    omega (
      arith,
      length-five (listed_rule g n r) (rules_from g (captures_from n r) a) (rules_from g (begin_from n r) b)
          (rules_from g (end_from n r) c) (rules_from g (while_from n r) d) (rules_from g (patterns_from n r) p)
          (rules_from g (n + rules_of_rule r) others),
      length-rules_from g (captures_from n r) a,
      length-rules_from g (begin_from n r) b,
      length-rules_from g (end_from n r) c,
      length-rules_from g (while_from n r) d,
      length-rules_from g (patterns_from n r) p,
      length-rules_from g (n + rules_of_rule r) others,
    )
length-rules_from g n (capture number name content p others) =
    omega (
      arith,
      length-append (capture_group g n p) (rules_from g (n + own_rule p) p ++ rules_from g
          (n + capture_rules p) others),
      length-append (rules_from g (n + own_rule p) p) (rules_from g (n + capture_rules p) others),
      length-capture_group g n p,
      length-rules_from g (n + own_rule p) p,
      length-rules_from g (n + capture_rules p) others,
    )

-- rules and unread texts are added

abbrev pub add : Walked → List Rule → ℕ → Walked
add w rules unread = record { rules = w.rules ++ rules; unread = w.unread + unread }

abbrev pub made : List Rule → ℕ → Walked
made rules unread = record { rules = rules; unread = unread }

made-same : {a b : List Rule} {u v : ℕ} → a ≡ b → u ≡ v → made a u ≡ made b v
made-same {a} {b} {u} {v} e f = ap (λ rules. made rules u) e ∙ ap (λ unread. made b unread) f

pub add-same : (w : Walked) {a b : List Rule} {u v : ℕ} → a ≡ b → u ≡ v → add w a u ≡ add w b v
add-same w {a} {b} {u} {v} e f = ap (λ rules. add w rules u) e ∙ ap (λ unread. add w b unread) f

-- a list is met behind others
pub then_after : (g : Grammar) (w : Walked) (rules : List Rule) (unread m : ℕ) (list : FileList)
    → m ≡ length w.rules + length rules
    → after g (add w rules unread) list ≡ add w (rules ++ rules_from g m list) (unread + count (texts_of list))
then_after g w rules unread m list is =
    made-same
    (append_assoc w.rules rules (rules_from g (length (w.rules ++ rules)) list)
    ∙ ap (λ n. w.rules ++ (rules ++ rules_from g n list)) (length-append w.rules rules ∙ sym is))
    (omega arith)

pub after_nothing : (g : Grammar) (w : Walked) → after g w nothing ≡ w
after_nothing g w = made-same (append-nil w.rules) (omega arith)

-- the rules of a rule, and those behind it
rules_behind : {X : Type 0} (x : X) (a b c d e f : List X)
    → (x ∷ (a ++ (b ++ (c ++ (d ++ (e ++ [])))))) ++ f ≡ x ∷ (a ++ (b ++ (c ++ (d ++ (e ++ f)))))
rules_behind x a b c d e f = ap (λ xs. x ∷ xs)
    (append_assoc a (b ++ (c ++ (d ++ (e ++ [])))) f
    ∙ ap (λ xs. a ++ xs) (append_assoc b (c ++ (d ++ (e ++ []))) f
    ∙ ap (λ xs. b ++ xs) (append_assoc c (d ++ (e ++ [])) f
    ∙ ap (λ xs. c ++ xs) (append_assoc d (e ++ []) f
    ∙ ap (λ xs. d ++ xs) (ap (λ ys. ys ++ f) (append-nil e))))))

count-six : (t a b c d e f : List (List ℕ)) → count (t ++ (a ++ (b ++ (c ++ (d ++ (e ++ f))))))
    ≡ count t + count a + count b + count c + count d + count e + count f
count-six t a b c d e f =
    let l1 = count_by-append is_unread e f in
    let l2 = count_by-append is_unread d (e ++ f) in
    let l3 = count_by-append is_unread c (d ++ (e ++ f)) in
    let l4 = count_by-append is_unread b (c ++ (d ++ (e ++ f))) in
    let l5 = count_by-append is_unread a (b ++ (c ++ (d ++ (e ++ f)))) in
    let l6 = count_by-append is_unread t (a ++ (b ++ (c ++ (d ++ (e ++ f))))) in
    omega (arith, l1, l2, l3, l4, l5, l6)

pub after_placed : (g : Grammar) (w : Walked) (r : FileRule) (others : FileList)
    → after g (after g w (placed r nothing)) others ≡ after g w (placed r others)
after_placed g w r others =
    let n = length w.rules in
    then_after g w (rules_from g n (placed r nothing)) (count (texts_of (placed r nothing))) (n + rules_of_rule r)
    others (let l = length-rules_from g n (placed r nothing) in omega (arith, l))
    ∙ add-same w
    (rules_behind (listed_rule g n r) (rules_from g (captures_from n r) r.captures)
    (rules_from g (begin_from n r) r.begin_captures) (rules_from g (end_from n r) r.end_captures)
    (rules_from g (while_from n r) r.while_captures) (rules_from g (patterns_from n r) r.patterns)
    (rules_from g (n + rules_of_rule r) others))
    (omega (
      arith,
      count-six (pattern_texts r.texts) (texts_of r.captures) (texts_of r.begin_captures) (texts_of r.end_captures)
          (texts_of r.while_captures) (texts_of r.patterns) [],
      count-six (pattern_texts r.texts) (texts_of r.captures) (texts_of r.begin_captures) (texts_of r.end_captures)
          (texts_of r.while_captures) (texts_of r.patterns) (texts_of others),
    ))

parts_joined : {X : Type 0} (x : X) (a b c d p : List X)
    → (((((x ∷ []) ++ a) ++ b) ++ c) ++ d) ++ p ≡ x ∷ (a ++ (b ++ (c ++ (d ++ (p ++ [])))))
parts_joined x a b c d p = ap (λ xs. x ∷ xs)
    (append_assoc ((a ++ b) ++ c) d p ∙ append_assoc (a ++ b) c (d ++ p) ∙ append_assoc a b (c ++ (d ++ p))
    ∙ ap (λ xs. a ++ (b ++ (c ++ (d ++ xs)))) (sym (append-nil p)))

group_joined : (g : Grammar) (n : ℕ) (p : FileList) → is_there p ≡ true
    → group_of None (members g (n + 1) p) ∷ rules_from g (n + 1) p
    ≡ capture_group g n p ++ (rules_from g (n + own_rule p) p ++ [])
group_joined g n absent there = absurd (cc)
group_joined g n nothing there = refl
group_joined g n (include name others) there =
    ap (λ xs. group_of None (members g (n + 1) (include name others)) ∷ xs) (sym (append-nil (rules_from g
    (n + 1) (include name others))))
group_joined g n (rule t a b c d last p others) there =
    ap (λ xs. group_of None (members g (n + 1) (rule t a b c d last p others)) ∷ xs) (sym (append-nil
    (rules_from g (n + 1) (rule t a b c d last p others))))
group_joined g n (capture number name content p others) there =
    ap (λ xs. group_of None (members g (n + 1) (capture number name content p others)) ∷ xs) (sym (append-nil
    (rules_from g (n + 1) (capture number name content p others))))

-- a rule, and then its parts
pub after_parts : (g : Grammar) (w w1 w2 w3 w4 w5 w6 : Walked) (r : FileRule) → w1 ≡ with_listed g w r
    → w2 ≡ after g w1 r.captures → w3 ≡ after g w2 r.begin_captures → w4 ≡ after g w3 r.end_captures
    → w5 ≡ after g w4 r.while_captures → w6 ≡ after g w5 r.patterns → w6 ≡ after g w (placed r nothing)
after_parts g w w1 w2 w3 w4 w5 w6 r e1 e2 e3 e4 e5 e6 =
    let n = length w.rules in
    let x = listed_rule g n r in
    let a = rules_from g (captures_from n r) r.captures in
    let b = rules_from g (begin_from n r) r.begin_captures in
    let c = rules_from g (end_from n r) r.end_captures in
    let d = rules_from g (while_from n r) r.while_captures in
    let p = rules_from g (patterns_from n r) r.patterns in
    let la = length-rules_from g (captures_from n r) r.captures in
    let lb = length-rules_from g (begin_from n r) r.begin_captures in
    let lc = length-rules_from g (end_from n r) r.end_captures in
    let ld = length-rules_from g (while_from n r) r.while_captures in
    let s0 = count (pattern_texts r.texts) in
    let s1 = s0 + count (texts_of r.captures) in
    let s2 = s1 + count (texts_of r.begin_captures) in
    let s3 = s2 + count (texts_of r.end_captures) in
    let s4 = s3 + count (texts_of r.while_captures) in
    let l1 = length-append (x ∷ []) a in
    let l2 = length-append ((x ∷ []) ++ a) b in
    let l3 = length-append (((x ∷ []) ++ a) ++ b) c in
    let l4 = length-append ((((x ∷ []) ++ a) ++ b) ++ c) d in
    let f2 : w2 ≡ add w ((x ∷ []) ++ a) s1 =
    e2 ∙ ap (λ v. after g v r.captures) e1 ∙ then_after g w (x ∷ []) s0 (captures_from n r) r.captures (omega arith) in
    let f3 : w3 ≡ add w (((x ∷ []) ++ a) ++ b) s2 =
    e3 ∙ ap (λ v. after g v r.begin_captures) f2
    ∙ then_after g w ((x ∷ []) ++ a) s1 (begin_from n r) r.begin_captures (omega (arith, l1, la)) in
    let f4 : w4 ≡ add w ((((x ∷ []) ++ a) ++ b) ++ c) s3 =
    e4 ∙ ap (λ v. after g v r.end_captures) f3
    ∙ then_after g w (((x ∷ []) ++ a) ++ b) s2 (end_from n r) r.end_captures (omega (arith, l1, la, l2, lb)) in
    let f5 : w5 ≡ add w (((((x ∷ []) ++ a) ++ b) ++ c) ++ d) s4 =
    e5 ∙ ap (λ v. after g v r.while_captures) f4
    ∙ then_after g w ((((x ∷ []) ++ a) ++ b) ++ c) s3 (while_from n r) r.while_captures
    (omega (arith, l1, la, l2, lb, l3, lc)) in
    e6 ∙ ap (λ v. after g v r.patterns) f5
    ∙ then_after g w (((((x ∷ []) ++ a) ++ b) ++ c) ++ d) s4 (patterns_from n r) r.patterns
    (omega (arith, l1, la, l2, lb, l3, lc, l4, ld))
    ∙ add-same w (parts_joined x a b c d p)
    (let six = count-six (pattern_texts r.texts) (texts_of r.captures) (texts_of r.begin_captures)
    (texts_of r.end_captures) (texts_of r.while_captures) (texts_of r.patterns) [] in omega (arith, six))

-- a capture's group, and then its rules
pub after_captured : (g : Grammar) (w w1 w2 : Walked) (number : ℕ) (name content : Option (List ℕ)) (p : FileList)
    → is_there p ≡ true → w1 ≡ after_group g w None p → w2 ≡ after g w1 p
    → w2 ≡ after g w (capture number name content p nothing)
after_captured g w w1 w2 number name content p there e1 e2 =
    let n = length w.rules in
    let x = group_of None (members g (n + 1) p) in
    let inner = rules_from g (n + 1) p in
    e2 ∙ ap (λ v. after g v p) e1
    ∙ made-same
    (append_assoc w.rules (x ∷ []) (rules_from g (length (w.rules ++ x ∷ [])) p)
    ∙ ap (λ k. w.rules ++ ((x ∷ []) ++ rules_from g k p)) (length-append w.rules (x ∷ []))
    ∙ ap (λ xs. w.rules ++ xs) (group_joined g n p there))
    (let t = count_by-append is_unread (texts_of p) [] in omega (arith, t))

-- a capture without rules
pub after_uncaptured : (g : Grammar) (w : Walked) (number : ℕ) (name content : Option (List ℕ))
    → w ≡ after g w (capture number name content absent nothing)
after_uncaptured g w number name content = made-same (sym (append-nil w.rules)) (omega arith)

pub after_capture_then : (g : Grammar) (w : Walked) (number : ℕ) (name content : Option (List ℕ)) (p others : FileList)
    → after g (after g w (capture number name content p nothing)) others
    ≡ after g w (capture number name content p others)
after_capture_then g w number name content p others =
    let n = length w.rules in
    let own = rules_from g n (capture number name content p nothing) in
    then_after g w own (count (texts_of (capture number name content p nothing))) (n + capture_rules p) others
    (let l = length-rules_from g n (capture number name content p nothing) in omega (arith, l))
    ∙ add-same w
    (append_assoc (capture_group g n p) (rules_from g (n + own_rule p) p ++ []) (rules_from g
    (n + capture_rules p) others)
    ∙ ap (λ xs. capture_group g n p ++ (xs ++ rules_from g (n + capture_rules p) others))
    (append-nil (rules_from g (n + own_rule p) p)))
    (let t = count_by-append is_unread (texts_of p) [] in
    let u = count_by-append is_unread (texts_of p) (texts_of others) in omega (arith, t, u))

pub after_include_then : (g : Grammar) (w : Walked) (name : List ℕ) (others : FileList)
    → after g (after g w (include name nothing)) others ≡ after g w (include name others)
after_include_then g w name others = ap (λ v. after g v others) (after_nothing g w)

-- what is small was small before
pub small_before : (g : Grammar) (w : Walked) (list : FileList) → IsSmall (after g w list) → IsSmall w
small_before g w list small =
    let l = length-append w.rules (rules_from g (length w.rules) list) in
    record { rules = omega (arith, l, small.rules); unread = omega (arith, small.unread) }

-- each part of a small whole is small

pub small_5 : (g : Grammar) (w w1 w2 w3 w4 w5 : Walked) (r : FileRule) → w1 ≡ with_listed g w r
    → w2 ≡ after g w1 r.captures → w3 ≡ after g w2 r.begin_captures → w4 ≡ after g w3 r.end_captures
    → w5 ≡ after g w4 r.while_captures → IsSmall (after g w (placed r nothing)) → IsSmall (after g w5 r.patterns)
small_5 g w w1 w2 w3 w4 w5 r e1 e2 e3 e4 e5 small =
    subst IsSmall (sym (after_parts g w w1 w2 w3 w4 w5 (after g w5 r.patterns) r e1 e2 e3 e4 e5 refl)) small

pub small_4 : (g : Grammar) (w w1 w2 w3 w4 : Walked) (r : FileRule) → w1 ≡ with_listed g w r
    → w2 ≡ after g w1 r.captures → w3 ≡ after g w2 r.begin_captures → w4 ≡ after g w3 r.end_captures
    → IsSmall (after g w (placed r nothing)) → IsSmall (after g w4 r.while_captures)
small_4 g w w1 w2 w3 w4 r e1 e2 e3 e4 small = small_before g (after g w4 r.while_captures) r.patterns
    (small_5 g w w1 w2 w3 w4 (after g w4 r.while_captures) r e1 e2 e3 e4 refl small)

pub small_3 : (g : Grammar) (w w1 w2 w3 : Walked) (r : FileRule) → w1 ≡ with_listed g w r
    → w2 ≡ after g w1 r.captures → w3 ≡ after g w2 r.begin_captures
    → IsSmall (after g w (placed r nothing)) → IsSmall (after g w3 r.end_captures)
small_3 g w w1 w2 w3 r e1 e2 e3 small = small_before g (after g w3 r.end_captures) r.while_captures
    (small_4 g w w1 w2 w3 (after g w3 r.end_captures) r e1 e2 e3 refl small)

pub small_2 : (g : Grammar) (w w1 w2 : Walked) (r : FileRule) → w1 ≡ with_listed g w r
    → w2 ≡ after g w1 r.captures
    → IsSmall (after g w (placed r nothing)) → IsSmall (after g w2 r.begin_captures)
small_2 g w w1 w2 r e1 e2 small = small_before g (after g w2 r.begin_captures) r.end_captures
    (small_3 g w w1 w2 (after g w2 r.begin_captures) r e1 e2 refl small)

pub small_1 : (g : Grammar) (w w1 : Walked) (r : FileRule) → w1 ≡ with_listed g w r
    → IsSmall (after g w (placed r nothing)) → IsSmall (after g w1 r.captures)
small_1 g w w1 r e1 small = small_before g (after g w1 r.captures) r.begin_captures
    (small_2 g w w1 (after g w1 r.captures) r e1 refl small)

-- member by member

pub after_entry : (g : Grammar) (w : Walked) (e : Entry) (others : FileList)
    → after g (after g w (entry_then e nothing)) others ≡ after g w (entry_then e others)
after_entry g w (Include name) others = after_include_then g w name others
after_entry g w (RuleEntry r) others = after_placed g w (rule_of r) others

pub entries_next : (g : Grammar) (w : Walked) (es : List Entry) (i : ℕ) (e : Entry) → i < length es
    → after g w (entry_list (drop i es))
    ≡ after g (after g w (entry_then (get_or es i e) nothing)) (entry_list (drop (i + 1) es))
entries_next g w es i e h = ap (after g w) (entries_more es i e h)
    ∙ sym (after_entry g w (get_or es i e) (entry_list (drop (i + 1) es)))

pub captures_next : (g : Grammar) (w : Walked) (cs : List Capture) (i : ℕ) (e : Capture) → i < length cs
    → after g w (capture_list (drop i cs))
    ≡ after g (after g w (capture_then (get_or cs i e) nothing)) (capture_list (drop (i + 1) cs))
captures_next g w cs i e h =
    let c = get_or cs i e in
    ap (after g w) (captures_more cs i e h)
    ∙ sym (after_capture_then g w c.number c.name c.content (if_there c.patterns) (capture_list (drop (i + 1) cs)))

pub entries_done : (g : Grammar) (w : Walked) (es : List Entry) (i : ℕ) → length es ≤ i
    → after g w (entry_list (drop i es)) ≡ w
entries_done g w es i h = ap (λ xs. after g w (entry_list xs)) (drop_of_length-le es h) ∙ after_nothing g w

pub captures_done : (g : Grammar) (w : Walked) (cs : List Capture) (i : ℕ) → length cs ≤ i
    → after g w (capture_list (drop i cs)) ≡ w
captures_done g w cs i h = ap (λ xs. after g w (capture_list xs)) (drop_of_length-le cs h) ∙ after_nothing g w

-- how many rules there is room for

pub room_of : (g : Grammar) (w : Walked) (list : FileList) → IsSmall (after g w list)
    → length w.rules + rules_of_list list ≤ 65_536
room_of g w list small =
    let l = length-append w.rules (rules_from g (length w.rules) list) in
    let m = length-rules_from g (length w.rules) list in
    omega (arith, l, m, small.rules)

pub room_of_capture : (g : Grammar) (w : Walked) (number : ℕ) (name content : Option (List ℕ)) (p : FileList)
    → IsSmall (after g w (capture number name content p nothing)) → length w.rules + rules_of_list p ≤ 65_536
room_of_capture g w number name content p small =
    let m = room_of g w (capture number name content p nothing) small in
    omega (arith, m)

pub small_captured : (g : Grammar) (w w1 : Walked) (number : ℕ) (name content : Option (List ℕ)) (p : FileList)
    → is_there p ≡ true → w1 ≡ after_group g w None p
    → IsSmall (after g w (capture number name content p nothing)) → IsSmall (after g w1 p)
small_captured g w w1 number name content p there e small =
    subst IsSmall (sym (after_captured g w w1 (after g w1 p) number name content p there e refl)) small

-- named rules

pub length-named_from : (g : Grammar) (n : ℕ) (rs : List NamedRule) → length (named_from g n rs) ≡ rules_of_named rs
length-named_from g n [] = refl
length-named_from g n (named ∷ rs) =
    let l = length-append (rules_from g n (placed named.rule nothing)) (named_from g
    (n + rules_of_rule named.rule) rs) in
    let m = length-rules_from g n (placed named.rule nothing) in
    let o = length-named_from g (n + rules_of_rule named.rule) rs in
    let q = sum_by-cons (λ x. rules_of_rule x.rule) named rs in
    omega (arith, l, m, o, q)

pub then_named : (g : Grammar) (w : Walked) (rules : List Rule) (unread m : ℕ) (rs : List NamedRule)
    → m ≡ length w.rules + length rules
    → after_named g (add w rules unread) rs ≡ add w (rules ++ named_from g m rs) (unread + count (named_texts rs))
then_named g w rules unread m rs is =
    made-same
    (append_assoc w.rules rules (named_from g (length (w.rules ++ rules)) rs)
    ∙ ap (λ n. w.rules ++ (rules ++ named_from g n rs)) (length-append w.rules rules ∙ sym is))
    (omega arith)

pub after_no_name : (g : Grammar) (w : Walked) → after_named g w [] ≡ w
after_no_name g w = made-same (append-nil w.rules) (omega arith)

pub after_name : (g : Grammar) (w : Walked) (named : NamedRule) (rs : List NamedRule)
    → after_named g (after g w (placed named.rule nothing)) rs ≡ after_named g w (named ∷ rs)
after_name g w named rs =
    let n = length w.rules in
    then_named g w (rules_from g n (placed named.rule nothing)) (count (texts_of (placed named.rule nothing)))
    (n + rules_of_rule named.rule) rs
    (let l = length-rules_from g n (placed named.rule nothing) in omega (arith, l))
    ∙ add-same w refl (sym (count_by-append is_unread (texts_of (placed named.rule nothing)) (named_texts rs)))

pub named_next : (g : Grammar) (w : Walked) (rs : List TableNamed) (i : ℕ) (x : TableNamed) → i < length rs
    → after_named g w (map named_view (drop i rs))
    ≡ after_named g (after g w (placed (rule_of (get_or rs i x).rule) nothing)) (map named_view (drop (i + 1) rs))
named_next g w rs i x h = ap (λ xs. after_named g w (map named_view xs)) (drop_more rs i x h)
    ∙ sym (after_name g w (named_view (get_or rs i x)) (map named_view (drop (i + 1) rs)))

pub named_done : (g : Grammar) (w : Walked) (rs : List TableNamed) (i : ℕ) → length rs ≤ i
    → after_named g w (map named_view (drop i rs)) ≡ w
named_done g w rs i h = ap (λ xs. after_named g w (map named_view xs)) (drop_of_length-le rs h) ∙ after_no_name g w

pub small_before_named : (g : Grammar) (w : Walked) (rs : List NamedRule) → IsSmall (after_named g w rs) → IsSmall w
small_before_named g w rs small =
    let l = length-append w.rules (named_from g (length w.rules) rs) in
    record { rules = omega (arith, l, small.rules); unread = omega (arith, small.unread) }

-- at most four texts a rule

length-option : (t : Option (List ℕ)) → length (option_to_list t) ≤ 1
length-option None = omega arith
length-option (Some x) = omega arith

length-kept : (t : Option (List ℕ)) → length (filter is_read_now (option_to_list t)) ≤ 1
length-kept t = let a = length-filter is_read_now (option_to_list t) in
    let b = count_by-le-length is_read_now (option_to_list t) in omega (arith, a, b, length-option t)

few_texts_of_rule : (t : Texts) → length (pattern_texts t) ≤ 4
few_texts_of_rule t =
    let f = filter is_read_now (option_to_list t.finish) in
    let k = filter is_read_now (option_to_list t.keep) in
    let l1 = length-append f k in
    let l2 = length-append (option_to_list t.begin) (f ++ k) in
    let l3 = length-append (option_to_list t.single) (option_to_list t.begin ++ (f ++ k)) in
    omega (arith, l1, l2, l3, length-kept t.finish, length-kept t.keep, length-option t.begin, length-option t.single)

pub few_unread : (list : FileList) → count (texts_of list) ≤ 4 * rules_of_list list
few_unread absent = omega arith
few_unread nothing = omega arith
few_unread (include name others) = few_unread others
few_unread (rule t a b c d last p others) =
    omega (
      arith,
      count-six (pattern_texts t) (texts_of a) (texts_of b) (texts_of c) (texts_of d) (texts_of p) (texts_of others),
      count_by-le-length is_unread (pattern_texts t),
      few_texts_of_rule t,
      few_unread a,
      few_unread b,
      few_unread c,
      few_unread d,
      few_unread p,
      few_unread others,
    )
few_unread (capture number name content p others) =
    omega (arith, count_by-append is_unread (texts_of p) (texts_of others), few_unread p, few_unread others)

pub few_unread_named : (rs : List NamedRule) → count (named_texts rs) ≤ 4 * rules_of_named rs
few_unread_named [] = omega arith
few_unread_named (named ∷ rs) =
    omega (
      arith,
      count_by-append is_unread (texts_of (placed named.rule nothing)) (named_texts rs),
      few_unread (placed named.rule nothing),
      sum_by-cons (λ x. rules_of_rule x.rule) named rs,
      few_unread_named rs,
    )

-- what holds where a call went well
pub on_ok : {T E : Type 0} {P Q : Type 0} (r : Result T E) → (P → Q) → OnOk r P → OnOk r Q
on_ok (Ok x) f h = f h
on_ok (Err e) f h = tt

-- the whole walk

abbrev pub start : Walked
start = made [] 0

pub whole : (g : Grammar) (w1 w2 w3 w4 : Walked) → w1 ≡ after_group g start (Some g.scope) g.patterns
    → w2 ≡ after g w1 g.patterns → w3 ≡ after_named g w2 g.repository → w4 ≡ after_named g w3 g.injections
    → w4 ≡ made (listed_rules g) (unread_texts g)
whole g w1 w2 w3 w4 e1 e2 e3 e4 =
    let x = group_of (Some g.scope) (members g 1 g.patterns) in
    let p = rules_from g 1 g.patterns in
    let r = named_from g (repository_from g) g.repository in
    let i = named_from g (injections_from g) g.injections in
    let lp = length-rules_from g 1 g.patterns in
    let lr = length-named_from g (repository_from g) g.repository in
    let la = length-append (x ∷ p) r in
    let f2 : w2 ≡ add start (x ∷ p) (count (texts_of g.patterns)) =
    e2 ∙ ap (λ v. after g v g.patterns) e1 ∙ made-same refl (omega arith) in
    let f3 : w3 ≡ add start ((x ∷ p) ++ r) (count (texts_of g.patterns) + count (named_texts g.repository)) =
    e3 ∙ ap (λ v. after_named g v g.repository) f2
    ∙ then_named g start (x ∷ p) (count (texts_of g.patterns)) (repository_from g) g.repository (omega (arith, lp)) in
    e4 ∙ ap (λ v. after_named g v g.injections) f3
    ∙ then_named g start ((x ∷ p) ++ r) (count (texts_of g.patterns) + count (named_texts g.repository))
    (injections_from g) g.injections (omega (arith, lp, lr, la))
    ∙ made-same (append_assoc (x ∷ p) r i)
    (let c1 = count_by-append is_unread (named_texts g.repository) (named_texts g.injections) in
    let c2 = count_by-append is_unread (texts_of g.patterns) (named_texts g.repository ++ named_texts g.injections) in
    omega (arith, c1, c2))

pub small_whole : (g : Grammar) → rule_count g ≤ 65_536 → IsSmall (made (listed_rules g) (unread_texts g))
small_whole g few =
    let p = rules_from g 1 g.patterns in
    let r = named_from g (repository_from g) g.repository in
    let i = named_from g (injections_from g) g.injections in
    let c1 = count_by-append is_unread (named_texts g.repository) (named_texts g.injections) in
    let c2 = count_by-append is_unread (texts_of g.patterns) (named_texts g.repository ++ named_texts g.injections) in
    record {
      rules = omega (
        arith,
        few,
        length-rules_from g 1 g.patterns,
        length-named_from g (repository_from g) g.repository,
        length-named_from g (injections_from g) g.injections,
        length-append r i,
        length-append p (r ++ i),
      );
      unread = omega (
        arith,
        few,
        c1,
        c2,
        few_unread g.patterns,
        few_unread_named g.repository,
        few_unread_named g.injections,
      );
    }

pub small_w4 : (g : Grammar) (w1 w2 w3 : Walked) → w1 ≡ after_group g start (Some g.scope) g.patterns
    → w2 ≡ after g w1 g.patterns → w3 ≡ after_named g w2 g.repository → rule_count g ≤ 65_536
    → IsSmall (after_named g w3 g.injections)
small_w4 g w1 w2 w3 e1 e2 e3 few =
    subst IsSmall (sym (whole g w1 w2 w3 (after_named g w3 g.injections) e1 e2 e3 refl)) (small_whole g few)

pub small_w3 : (g : Grammar) (w1 w2 : Walked) → w1 ≡ after_group g start (Some g.scope) g.patterns
    → w2 ≡ after g w1 g.patterns → rule_count g ≤ 65_536 → IsSmall (after_named g w2 g.repository)
small_w3 g w1 w2 e1 e2 few = small_before_named g (after_named g w2 g.repository) g.injections
    (small_w4 g w1 w2 (after_named g w2 g.repository) e1 e2 refl few)

pub small_w2 : (g : Grammar) (w1 : Walked) → w1 ≡ after_group g start (Some g.scope) g.patterns
    → rule_count g ≤ 65_536 → IsSmall (after g w1 g.patterns)
small_w2 g w1 e1 few = small_before_named g (after g w1 g.patterns) g.repository
    (small_w3 g w1 (after g w1 g.patterns) e1 refl few)
