-- The injections of a grammar, key by key and entry by entry.
use Rattle.std.proofs.Common.{◌≡◌, ℕ, ◌+◌, ◌<◌, ◌≤◌, List, [], ◌∷◌, ◌++◌, length, map, drop, get_or}
use Rattle.std.proofs.Common.{refl, ap, sym, ◌∙◌, arith, drop_of_length-le, All}
use Rattle.std.specs.Prelude.{Bool, true, false, cond}
use Rattle.std.specs.List.{filter, count_by}
use Rattle.std.proofs.lemmas.List.{drop_more, append_assoc, append-nil}
use Rattle.std.proofs.lemmas.List.Sums.{count_by-le-length, sum_by-cons}
use Rattle.std.proofs.lemmas.List.Elements.{filter-append}
use Rattle.std.proofs.lemmas.Option.{unwrap_or-slice_get}
use Rattle.std.specs.Rc.{rc_value}
use Rattle.scope_defs.specs.Selectors.{Entry}
use Rattle.scope_defs.specs.SelectorSyntax.{entries_of, no_entry}
use Rattle.injection_defs.specs.Injections.{Listed, has_rank}
use Rattle.grammar_defs.specs.FileRules.{NamedRule as FileNamed, Grammar}
use Rattle.grammar_defs.specs.GrammarShape.{rules_of_rule, rules_of_named, rule_count}
use Rattle.grammar_json.specs.FileViews.{rule_of}
use Rattle.grammar_json.specs.NamedViews.{named_view}
use Rattle.grammar_json.specs.declared.named.NamedRule.{NamedRule}
use Rattle.graph_defs.specs.ListedRules.{injections_from}
use Rattle.graph_defs.specs.ListedInjections.{entries_from, key_entries, listed_from, injections, is_no_selector, unread_keys}
use Rattle.rule_table.specs.Fits.{IsInjection}
use Rattle.rule_graph.specs.declared.injections.Key.{Key}
use Rattle.rule_graph.specs.Keyed.{entry_of_key, entries_of_key, listed_keys}
use Rattle.rule_graph.proofs.RangeLemmas.{Each, each_append, all_of_each}
use Rattle.rule_graph.proofs.WalkLemmas.{count_by-append}

-- ---- keys that are read

pub listed_keys-append : (keys more : List Key) → listed_keys (keys ++ more) ≡ listed_keys keys ++ listed_keys more
listed_keys-append [] more = refl
listed_keys-append (key ∷ keys) more =
    ap (λ l. entries_of_key key ++ l) (listed_keys-append keys more)
    ∙ sym (append_assoc (entries_of_key key) (listed_keys keys) (listed_keys more))

pub with_key : (keys : List Key) (key : Key) → listed_keys (keys ++ key ∷ []) ≡ listed_keys keys ++ entries_of_key key
with_key keys key =
    listed_keys-append keys (key ∷ []) ∙ ap (λ l. listed_keys keys ++ l) (append-nil (entries_of_key key))

-- what is read so far, and what is left to read
pub keys_next : (front : List Listed) (n : ℕ) (rs : List NamedRule) (i : ℕ) (x : NamedRule) → i < length rs
    → (front ++ key_entries (get_or rs i x).key n)
    ++ listed_from (n + rules_of_rule (rule_of (get_or rs i x).rule)) (map named_view (drop (i + 1) rs))
    ≡ front ++ listed_from n (map named_view (drop i rs))
keys_next front n rs i x h =
    append_assoc front (key_entries (get_or rs i x).key n)
    (listed_from (n + rules_of_rule (rule_of (get_or rs i x).rule)) (map named_view (drop (i + 1) rs)))
    ∙ ap (λ xs. front ++ listed_from n (map named_view xs)) (sym (drop_more rs i x h))

pub unread_next : (rs : List NamedRule) (i : ℕ) (x : NamedRule) → i < length rs
    → count_by is_no_selector ((get_or rs i x).key ∷ []) + unread_keys (map named_view (drop (i + 1) rs))
    ≡ unread_keys (map named_view (drop i rs))
unread_next rs i x h =
    sym (count_by-append is_no_selector ((get_or rs i x).key ∷ [])
    (map (λ named. named.key) (map named_view (drop (i + 1) rs))))
    ∙ ap (λ xs. unread_keys (map named_view xs)) (sym (drop_more rs i x h))

pub few_unread_keys : (rs : List FileNamed) → unread_keys rs ≤ rules_of_named rs
few_unread_keys [] = omega arith
few_unread_keys (named ∷ rs) =
    omega (
      arith,
      count_by-append is_no_selector (named.key ∷ []) (map (λ named. named.key) rs),
      count_by-le-length is_no_selector (named.key ∷ []),
      sum_by-cons (λ x. rules_of_rule x.rule) named rs,
      few_unread_keys rs,
    )

-- ---- by rank

abbrev pub left : Key → ℕ → List Listed
left key entry = entries_from (rc_value key.selector) key.rule.0 entry
    (drop entry (entries_of (rc_value key.selector)))

pub entries_next : (key : Key) (entry : ℕ) → entry < length (entries_of (rc_value key.selector))
    → entry_of_key key entry ∷ left key (entry + 1) ≡ left key entry
entries_next key entry h =
    let text : List ℕ = rc_value key.selector in
    ap (λ (e : Entry). record { priority = e.priority; selector = text; entry = entry; rule = key.rule.0 }
    ∷ left key (entry + 1)) (unwrap_or-slice_get (entries_of text) entry no_entry)
    ∙ ap (entries_from text key.rule.0 entry) (sym (drop_more (entries_of text) entry no_entry h))

-- what is pushed of an entry, and what is left
pub entry_pushed : (of : ℕ) (key : Key) (entry : ℕ) (front before all : List Listed)
    → entry < length (entries_of (rc_value key.selector))
    → all ≡ front ++ filter (has_rank of) (entry_of_key key entry ∷ [])
    → front ++ filter (has_rank of) (left key entry) ≡ before
    → all ++ filter (has_rank of) (left key (entry + 1)) ≡ before
entry_pushed of key entry front before all h pushed so =
    let p : Listed → Bool = has_rank of in
    ap (λ l. l ++ filter p (left key (entry + 1))) pushed
    ∙ append_assoc front (filter p (entry_of_key key entry ∷ [])) (filter p (left key (entry + 1)))
    ∙ ap (λ l. front ++ l) (sym (filter-append p (entry_of_key key entry ∷ []) (left key (entry + 1))))
    ∙ ap (λ l. front ++ filter p l) (entries_next key entry h)
    ∙ so

pub entries_done : (key : Key) (entry : ℕ) → length (entries_of (rc_value key.selector)) ≤ entry → left key entry ≡ []
entries_done key entry h =
    ap (entries_from (rc_value key.selector) key.rule.0 entry) (drop_of_length-le (entries_of (rc_value key.selector)) h)

pub keys_more : (of : ℕ) (front : List Listed) (keys : List Key) (i : ℕ) (x : Key) → i < length keys
    → (front ++ filter (has_rank of) (entries_of_key (get_or keys i x)))
    ++ filter (has_rank of) (listed_keys (drop (i + 1) keys))
    ≡ front ++ filter (has_rank of) (listed_keys (drop i keys))
keys_more of front keys i x h =
    append_assoc front (filter (has_rank of) (entries_of_key (get_or keys i x)))
    (filter (has_rank of) (listed_keys (drop (i + 1) keys)))
    ∙ ap (λ l. front ++ l)
    (sym (filter-append (has_rank of) (entries_of_key (get_or keys i x)) (listed_keys (drop (i + 1) keys))))
    ∙ ap (λ ks. front ++ filter (has_rank of) (listed_keys ks)) (sym (drop_more keys i x h))

-- ---- they fit

fit_entries : (count : ℕ) (text : List ℕ) (rule entry : ℕ) (es : List Entry) → rule < count
    → entry + length es ≤ length (entries_of text) → Each (IsInjection count) (entries_from text rule entry es)
fit_entries count text rule entry [] low le = tt
fit_entries count text rule entry (e ∷ es) low le = (
  record { entry = omega arith; rule = low },
  fit_entries count text rule (entry + 1) es low (omega arith),
)

fit_listed : (count n : ℕ) (rs : List FileNamed) → n + rules_of_named rs ≤ count
    → Each (IsInjection count) (listed_from n rs)
fit_listed count n [] le = tt
fit_listed count n (named ∷ rs) le =
    let s = sum_by-cons (λ x. rules_of_rule x.rule) named rs in
    each_append (IsInjection count) (key_entries named.key n) (listed_from (n + rules_of_rule named.rule) rs)
    (fit_entries count named.key n 0 (entries_of named.key) (omega (arith, s, le)) (omega arith))
    (fit_listed count (n + rules_of_rule named.rule) rs (omega (arith, s, le)))

each_filter : {T : Type 0} (P : T → Type 0) (p : T → Bool) (xs : List T) → Each P xs → Each P (filter p xs)
each_filter P p [] each = tt
each_filter P p (x ∷ xs) each = by (p x) (each_filter P p xs each.1)
  where
    by : (b : Bool) → Each P (filter p xs) → Each P (cond b (x ∷ filter p xs) (filter p xs))
    by true rest = (each.0, rest)
    by false rest = rest

pub injections_fit : (g : Grammar) → All (IsInjection (rule_count g)) (injections g)
injections_fit g =
    let P = IsInjection (rule_count g) in
    let all = listed_from (injections_from g) g.injections in
    let fit = fit_listed (rule_count g) (injections_from g) g.injections (omega arith) in
    all_of_each P (injections g)
    (each_append P (filter (has_rank 0) all) (filter (has_rank 1) all ++ filter (has_rank 2) all)
    (each_filter P (has_rank 0) all fit)
    (each_append P (filter (has_rank 1) all) (filter (has_rank 2) all)
    (each_filter P (has_rank 1) all fit) (each_filter P (has_rank 2) all fit)))
