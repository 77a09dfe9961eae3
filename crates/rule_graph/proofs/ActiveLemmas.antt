-- Active lists step by step: what an open list gives when its first member is a rule, a group that was replaced, or one
-- that wasn't; and what stamps tell of the groups that were.
use Rattle.std.proofs.Common.{◌≡◌, ◌≢◌, ℕ, zero, suc, ◌+◌, ◌<◌, List, [], ◌∷◌, ◌++◌, refl, ap, sym, ◌∙◌, subst}
use Rattle.std.proofs.Common.{length, get_or, set, arith, cond, map, All, inl, inr, reverse, append_assoc}
use Rattle.std.proofs.Common.{length-append}
use Rattle.std.proofs.lemmas.List.{reverse-append, append-nil, length-set, map-append, length-reverse}
use Rattle.std.proofs.lemmas.List.Elements.{All-head, All-tail, All-append, All-set}
use Rattle.scope_defs.specs.declared.types.RuleId.{RuleId}
use Rattle.rule_graph.specs.Listing.{numbers}
use Rattle.rule_graph.specs.Opening.{AreWithin}
use Rattle.std.specs.Prelude.{Bool, true, false, not, ◌==◌}
use Rattle.std.proofs.lemmas.Bool.{eq-eqb}
use Rattle.std.proofs.lemmas.Bool.Decides.{eqb_tells}
use Rattle.std.proofs.lemmas.List.{length-map, get_or-map, get_or-set_same, get_or-set_other}
use Rattle.std.proofs.lemmas.Option.{unwrap_or-slice_get}
use Rattle.rule_defs.specs.Rules.{Rule, no_rule}
use Rattle.rule_table.specs.Views.{rule_of, kind_of}
use Rattle.rule_table.specs.declared.rule.RuleKind.{RuleKind}
use Rattle.rule_table.specs.declared.rule.RuleKind.TheVariants.{Match, BeginEnd, BeginWhile, Group as TableGroup}
use Rattle.rule_table.specs.contracts.rule.RuleKind.{the_type}
use denote.Enum.Bare.{sameb}
use Rattle.rule_table.specs.declared.rule.Rule.{Rule as TableRule}
use Rattle.graph_defs.specs.ActiveLists.{rule_at, is_group, with_one, none, opened, active_list}

pub opened_end : (more : ℕ) (rules : List Rule) (replaced : ℕ → Bool) → opened more rules replaced [] ≡ []
opened_end zero rules replaced = refl
opened_end (suc more) rules replaced = refl

pub opened_rule : (more : ℕ) (rules : List Rule) (replaced : ℕ → Bool) (n : ℕ) (others : List ℕ)
    → is_group (rule_at rules n).kind ≡ false
    → opened more rules replaced (n ∷ others) ≡ n ∷ opened more rules replaced others
opened_rule zero rules replaced n others no_group = rw no_group refl
opened_rule (suc more) rules replaced n others no_group = rw no_group refl

pub opened_again : (more : ℕ) (rules : List Rule) (replaced : ℕ → Bool) (n : ℕ) (others : List ℕ)
    → is_group (rule_at rules n).kind ≡ true → replaced n ≡ true
    → opened more rules replaced (n ∷ others) ≡ opened more rules replaced others
opened_again zero rules replaced n others group before = rw (group, before) refl
opened_again (suc more) rules replaced n others group before = rw (group, before) refl

pub opened_group : (more : ℕ) (rules : List Rule) (replaced : ℕ → Bool) (n : ℕ) (others : List ℕ)
    → is_group (rule_at rules n).kind ≡ true → replaced n ≡ false
    → opened (suc more) rules replaced (n ∷ others)
    ≡ opened more rules (with_one n replaced) ((rule_at rules n).active ++ others)
opened_group more rules replaced n others group fresh = rw (group, fresh) refl

pub opened_out : (rules : List Rule) (replaced : ℕ → Bool) (n : ℕ) (others : List ℕ)
    → is_group (rule_at rules n).kind ≡ true → replaced n ≡ false → opened zero rules replaced (n ∷ others) ≡ []
opened_out rules replaced n others group fresh = rw (group, fresh) refl

-- the same groups were replaced

abbrev pub Same : (ℕ → Bool) → (ℕ → Bool) → Type 0
Same p q = (k : ℕ) → p k ≡ q k

same-with_one : (n : ℕ) (p q : ℕ → Bool) → Same p q → Same (with_one n p) (with_one n q)
same-with_one n p q same k = rw (same k) refl

at_no_group : (more : ℕ) (rules : List Rule) (p q : ℕ → Bool) (n : ℕ) (others : List ℕ)
    → is_group (rule_at rules n).kind ≡ false → opened more rules p others ≡ opened more rules q others
    → opened more rules p (n ∷ others) ≡ opened more rules q (n ∷ others)
at_no_group more rules p q n others no_group rest =
    opened_rule more rules p n others no_group
    ∙ ap (λ list. n ∷ list) rest
    ∙ sym (opened_rule more rules q n others no_group)

at_last : (rules : List Rule) (p q : ℕ → Bool) → Same p q → (n : ℕ) (others : List ℕ)
    → opened zero rules p others ≡ opened zero rules q others
    → (group is : Bool) → is_group (rule_at rules n).kind ≡ group → q n ≡ is
    → opened zero rules p (n ∷ others) ≡ opened zero rules q (n ∷ others)
at_last rules p q same n others rest false is no_group e = at_no_group zero rules p q n others no_group rest
at_last rules p q same n others rest true true group e =
    opened_again zero rules p n others group (same n ∙ e) ∙ rest ∙ sym (opened_again zero rules q n others group e)
at_last rules p q same n others rest true false group e =
    opened_out rules p n others group (same n ∙ e) ∙ sym (opened_out rules q n others group e)

at_more : (more : ℕ) (rules : List Rule) (p q : ℕ → Bool) → Same p q → (n : ℕ) (others : List ℕ)
    → opened (suc more) rules p others ≡ opened (suc more) rules q others
    → opened more rules (with_one n p) ((rule_at rules n).active ++ others)
    ≡ opened more rules (with_one n q) ((rule_at rules n).active ++ others)
    → (group is : Bool) → is_group (rule_at rules n).kind ≡ group → q n ≡ is
    → opened (suc more) rules p (n ∷ others) ≡ opened (suc more) rules q (n ∷ others)
at_more more rules p q same n others rest listed false is no_group e =
    at_no_group (suc more) rules p q n others no_group rest
at_more more rules p q same n others rest listed true true group e =
    opened_again (suc more) rules p n others group (same n ∙ e)
    ∙ rest
    ∙ sym (opened_again (suc more) rules q n others group e)
at_more more rules p q same n others rest listed true false group e =
    opened_group more rules p n others group (same n ∙ e) ∙ listed ∙ sym (opened_group more rules q n others group e)

pub opened_same : (more : ℕ) (rules : List Rule) (p q : ℕ → Bool) → Same p q → (list : List ℕ)
    → opened more rules p list ≡ opened more rules q list
opened_same more rules p q same [] = opened_end more rules p ∙ sym (opened_end more rules q)
opened_same zero rules p q same (n ∷ others) =
    at_last rules p q same n others (opened_same zero rules p q same others) (is_group (rule_at rules n).kind) (q n)
    refl refl
opened_same (suc more) rules p q same (n ∷ others) =
    at_more more rules p q same n others (opened_same (suc more) rules p q same others)
    (opened_same more rules (with_one n p) (with_one n q) (same-with_one n p q same)
    ((rule_at rules n).active ++ others))
    (is_group (rule_at rules n).kind) (q n) refl refl

-- stamps: the groups with the stamp were replaced

abbrev pub marked : List ℕ → ℕ → ℕ → Bool
marked stamps stamp k = get_or stamps k 0 == stamp

abbrev pub unmarked : List ℕ → ℕ → ℕ
unmarked [] stamp = 0
unmarked (s ∷ stamps) stamp = cond (s == stamp) 0 1 + unmarked stamps stamp

-- how long the lists of rules are that may still be replaced, each with one more
abbrev pub to_replace : List TableRule → List ℕ → ℕ → ℕ
to_replace [] stamps stamp = 0
to_replace (r ∷ rules) [] stamp = 0
to_replace (r ∷ rules) (s ∷ stamps) stamp = cond (s == stamp) 0 (length r.active + 1) + to_replace rules stamps stamp

pub unmarked-set : (stamps : List ℕ) (n stamp d : ℕ) → n < length stamps → get_or stamps n d ≢ stamp
    → unmarked stamps stamp ≡ suc (unmarked (set stamps n stamp) stamp)
unmarked-set [] n stamp d lt other = absurd (omega arith)
unmarked-set (s ∷ stamps) zero stamp d lt other = elim (eqb_tells s stamp) [
  | inl same ↦ absurd (other same.1)
  | inr differ ↦ rw (differ.0, eq-eqb stamp stamp refl) (omega arith)
]
unmarked-set (s ∷ stamps) (suc n) stamp d lt other =
    omega (arith, unmarked-set stamps n stamp d (omega arith) other)

pub to_replace-set : (rules : List TableRule) (stamps : List ℕ) (n stamp d : ℕ) (r : TableRule) → n < length rules
    → n < length stamps → get_or stamps n d ≢ stamp
    → to_replace rules stamps stamp ≡ to_replace rules (set stamps n stamp) stamp + length (get_or rules n r).active + 1
to_replace-set [] stamps n stamp d r lt lt' other = absurd (omega arith)
to_replace-set (x ∷ rules) [] n stamp d r lt lt' other = absurd (omega arith)
to_replace-set (x ∷ rules) (s ∷ stamps) zero stamp d r lt lt' other = elim (eqb_tells s stamp) [
  | inl same ↦ absurd (other same.1)
  | inr differ ↦ rw (differ.0, eq-eqb stamp stamp refl) (omega arith)
]
to_replace-set (x ∷ rules) (s ∷ stamps) (suc n) stamp d r lt lt' other =
    omega (arith, to_replace-set rules stamps n stamp d r (omega arith) (omega arith) other)

marked-set : (stamps : List ℕ) (n stamp : ℕ) → n < length stamps
    → Same (with_one n (marked stamps stamp)) (marked (set stamps n stamp) stamp)
marked-set stamps n stamp lt k = elim (eqb_tells k n) [
  | inl same ↦ rw same.0 (sym (ap (λ s. s == stamp) (ap (λ i. get_or (set stamps n stamp) i 0) same.1
      ∙ get_or-set_same stamps n stamp 0 lt) ∙ eq-eqb stamp stamp refl))
  | inr differ ↦ rw differ.0 (ap (λ s. s == stamp) (sym (get_or-set_other stamps n k stamp 0 differ.1)))
]

-- no stamp is there yet
pub unmarked-fresh : (stamps : List ℕ) (stamp : ℕ) → All (λ s. s < stamp) stamps → unmarked stamps stamp ≡ length stamps
unmarked-fresh [] stamp fresh = refl
unmarked-fresh (s ∷ stamps) stamp fresh = elim (eqb_tells s stamp) [
  | inl same ↦ absurd (omega (arith, fresh 0 0 (omega arith), same.1))
  | inr differ ↦ rw differ.0 (omega (arith, unmarked-fresh stamps stamp (λ k d lt. fresh (suc k) d (omega arith))))
]

pub marked-fresh : (stamps : List ℕ) (stamp : ℕ) → 0 < stamp → All (λ s. s < stamp) stamps
    → Same none (marked stamps stamp)
marked-fresh [] stamp some fresh k = elim (eqb_tells 0 stamp) [
  | inl same ↦ absurd (omega (arith, same.1))
  | inr differ ↦ sym differ.0
]
marked-fresh (s ∷ stamps) stamp some fresh zero = elim (eqb_tells s stamp) [
  | inl same ↦ absurd (omega (arith, fresh 0 0 (omega arith), same.1))
  | inr differ ↦ sym differ.0
]
marked-fresh (s ∷ stamps) stamp some fresh (suc k) =
    marked-fresh stamps stamp some (λ i d lt. fresh (suc i) d (omega arith)) k

unmarked_at : (stamps : List ℕ) (n stamp d : ℕ) → n < length stamps → get_or stamps n d ≢ stamp
    → marked stamps stamp n ≡ false
unmarked_at [] n stamp d lt other = absurd (omega arith)
unmarked_at (s ∷ stamps) zero stamp d lt other = elim (eqb_tells s stamp) [
  | inl same ↦ absurd (other same.1)
  | inr differ ↦ differ.0
]
unmarked_at (s ∷ stamps) (suc n) stamp d lt other = unmarked_at stamps n stamp d (omega arith) other

pub marked_at : (stamps : List ℕ) (n stamp d : ℕ) → n < length stamps → get_or stamps n d ≡ stamp
    → marked stamps stamp n ≡ true
marked_at [] n stamp d lt same = absurd (omega arith)
marked_at (s ∷ stamps) zero stamp d lt same = eq-eqb s stamp same
marked_at (s ∷ stamps) (suc n) stamp d lt same = marked_at stamps n stamp d (omega arith) same

-- a group is replaced where it has no stamp, and gets one
pub opened_stamped : (rules : List Rule) (stamps : List ℕ) (n stamp d : ℕ) (others : List ℕ)
    → n < length stamps → get_or stamps n d ≢ stamp → is_group (rule_at rules n).kind ≡ true
    → opened (unmarked stamps stamp) rules (marked stamps stamp) (n ∷ others)
    ≡ opened (unmarked (set stamps n stamp) stamp) rules (marked (set stamps n stamp) stamp)
    ((rule_at rules n).active ++ others)
opened_stamped rules stamps n stamp d others lt other group =
    ap (λ more. opened more rules (marked stamps stamp) (n ∷ others)) (unmarked-set stamps n stamp d lt other)
    ∙ opened_group (unmarked (set stamps n stamp) stamp) rules (marked stamps stamp) n others group
    (unmarked_at stamps n stamp d lt other)
    ∙ opened_same (unmarked (set stamps n stamp) stamp) rules (with_one n (marked stamps stamp))
    (marked (set stamps n stamp) stamp) (marked-set stamps n stamp lt) ((rule_at rules n).active ++ others)

-- rules by their numbers
pub rule_at-view : (rules : List TableRule) (n : ℕ) (r : TableRule) → n < length rules
    → rule_at (map rule_of rules) n ≡ rule_of (get_or rules n r)
rule_at-view rules n r lt =
    unwrap_or-slice_get (map rule_of rules) n no_rule ∙ get_or-map rule_of rules n r no_rule lt

-- How far a list is opened: the active rules so far, and what is still to be looked at, of which the last comes next.
pub record IsOpening (rules : List TableRule) (stamps : List ℕ) (stamp : ℕ) (active todo : List RuleId)
    (whole : List ℕ) : Type 0 where
  pub list : numbers active ++ opened (unmarked stamps stamp) (map rule_of rules) (marked stamps stamp)
      (numbers (reverse todo)) ≡ whole
  pub within : All (λ id. id < length rules) (numbers (reverse todo))
  pub len : length stamps ≡ length rules
  pub low : All (λ s. s < stamp + 1) stamps

turned : (todo : List RuleId) (id : RuleId) → numbers (reverse (todo ++ id ∷ [])) ≡ id.0 ∷ numbers (reverse todo)
turned todo id = ap numbers (reverse-append todo (id ∷ []))

pub opening_start : (rules : List TableRule) (stamps : List ℕ) (stamp : ℕ) (list todo : List RuleId)
    → All (λ id. id < length rules) (numbers list) → length stamps ≡ length rules → 0 < stamp
    → All (λ s. s < stamp) stamps → reverse todo ≡ list
    → IsOpening rules stamps stamp [] todo (active_list (map rule_of rules) (numbers list))
opening_start rules stamps stamp list todo within count some fresh start = record {
  list =
      ap (λ more. opened more (map rule_of rules) (marked stamps stamp) (numbers (reverse todo)))
      (unmarked-fresh stamps stamp fresh ∙ count ∙ sym (length-map rules rule_of))
      ∙ ap (λ ids. opened (length (map rule_of rules)) (map rule_of rules) (marked stamps stamp) (numbers ids)) start
      ∙ sym (opened_same (length (map rule_of rules)) (map rule_of rules) none (marked stamps stamp)
      (marked-fresh stamps stamp some fresh) (numbers list));
  within = subst (λ ids. All (λ id. id < length rules) (numbers ids)) (sym start) within;
  len = count;
  low = λ k d lt. omega (arith, fresh k d lt);
}

pub opening_next : (rules : List TableRule) (stamps : List ℕ) (stamp : ℕ) (active todo : List RuleId)
    (whole : List ℕ) (id : RuleId) → IsOpening rules stamps stamp active (todo ++ id ∷ []) whole
    → id.0 < length rules
opening_next rules stamps stamp active todo whole id is =
    All-head (λ n. n < length rules) id.0 (numbers (reverse todo))
    (subst (All (λ n. n < length rules)) (turned todo id) is.within)

opening_rest : (rules : List TableRule) (stamps : List ℕ) (stamp : ℕ) (active todo : List RuleId)
    (whole : List ℕ) (id : RuleId) → IsOpening rules stamps stamp active (todo ++ id ∷ []) whole
    → All (λ n. n < length rules) (numbers (reverse todo))
opening_rest rules stamps stamp active todo whole id is =
    All-tail (λ n. n < length rules) id.0 (numbers (reverse todo))
    (subst (All (λ n. n < length rules)) (turned todo id) is.within)

pub opening_rule : (rules : List TableRule) (stamps : List ℕ) (stamp : ℕ) (active todo : List RuleId)
    (whole : List ℕ) (id : RuleId) (r : TableRule) → r ≡ get_or rules id.0 r → is_group (rule_of r).kind ≡ false
    → IsOpening rules stamps stamp active (todo ++ id ∷ []) whole
    → IsOpening rules stamps stamp (active ++ id ∷ []) todo whole
opening_rule rules stamps stamp active todo whole id r at no_group is =
    let all = map rule_of rules in
    let more = unmarked stamps stamp in
    let before = marked stamps stamp in
    let rest = numbers (reverse todo) in
    let lt = opening_next rules stamps stamp active todo whole id is in
    let here : is_group (rule_at all id.0).kind ≡ false =
    ap (λ x. is_group x.kind) (rule_at-view rules id.0 r lt ∙ ap rule_of (sym at)) ∙ no_group in
    record {
      list =
          ap (λ ids. ids ++ opened more all before rest) (map-append (λ i. i.0) active (id ∷ []))
          ∙ append_assoc (numbers active) (id.0 ∷ []) (opened more all before rest)
          ∙ ap (λ ids. numbers active ++ ids) (sym (opened_rule more all before id.0 rest here))
          ∙ ap (λ ids. numbers active ++ opened more all before ids) (sym (turned todo id))
          ∙ is.list;
      within = opening_rest rules stamps stamp active todo whole id is;
      len = is.len;
      low = is.low;
    }

pub opening_again : (rules : List TableRule) (stamps : List ℕ) (stamp d : ℕ) (active todo : List RuleId)
    (whole : List ℕ) (id : RuleId) (r : TableRule) → r ≡ get_or rules id.0 r → is_group (rule_of r).kind ≡ true
    → get_or stamps id.0 d ≡ stamp
    → IsOpening rules stamps stamp active (todo ++ id ∷ []) whole
    → IsOpening rules stamps stamp active todo whole
opening_again rules stamps stamp d active todo whole id r at group same is =
    let all = map rule_of rules in
    let more = unmarked stamps stamp in
    let before = marked stamps stamp in
    let rest = numbers (reverse todo) in
    let lt = opening_next rules stamps stamp active todo whole id is in
    let here : is_group (rule_at all id.0).kind ≡ true =
    ap (λ x. is_group x.kind) (rule_at-view rules id.0 r lt ∙ ap rule_of (sym at)) ∙ group in
    record {
      list =
          ap (λ ids. numbers active ++ ids) (sym (opened_again more all before id.0 rest here
          (marked_at stamps id.0 stamp d (omega (arith, lt, is.len)) same)))
          ∙ ap (λ ids. numbers active ++ opened more all before ids) (sym (turned todo id))
          ∙ is.list;
      within = opening_rest rules stamps stamp active todo whole id is;
      len = is.len;
      low = is.low;
    }

pub opening_group : (rules : List TableRule) (stamps : List ℕ) (stamp d : ℕ) (active todo todo' : List RuleId)
    (whole : List ℕ) (id : RuleId) (r : TableRule) → r ≡ get_or rules id.0 r → is_group (rule_of r).kind ≡ true
    → get_or stamps id.0 d ≢ stamp → reverse todo' ≡ r.active ++ reverse todo
    → AreWithin (length rules) (map rule_of rules)
    → IsOpening rules stamps stamp active (todo ++ id ∷ []) whole
    → IsOpening rules (set stamps id.0 stamp) stamp active todo' whole
opening_group rules stamps stamp d active todo todo' whole id r at group other pushed within is =
    let all = map rule_of rules in
    let more = unmarked (set stamps id.0 stamp) stamp in
    let before = marked (set stamps id.0 stamp) stamp in
    let rest = numbers (reverse todo) in
    let lt = opening_next rules stamps stamp active todo whole id is in
    let view : rule_at all id.0 ≡ rule_of r = rule_at-view rules id.0 r lt ∙ ap rule_of (sym at) in
    let here : is_group (rule_at all id.0).kind ≡ true = ap (λ x. is_group x.kind) view ∙ group in
    let both : numbers (reverse todo') ≡ numbers r.active ++ rest =
    ap numbers pushed ∙ map-append (λ i. i.0) r.active (reverse todo) in
    record {
      list =
          ap (λ ids. numbers active ++ opened more all before ids)
          (both ∙ ap (λ x. x.active ++ rest) (sym view))
          ∙ ap (λ ids. numbers active ++ ids) (sym (opened_stamped all stamps id.0 stamp d rest
          (omega (arith, lt, is.len)) other here))
          ∙ ap (λ ids. numbers active ++ opened (unmarked stamps stamp) all (marked stamps stamp) ids)
          (sym (turned todo id))
          ∙ is.list;
      within =
          subst (All (λ n. n < length rules)) (sym both)
          (All-append (λ n. n < length rules) (numbers r.active) rest
          (subst (λ x. All (λ n. n < length rules) x.active)
          (get_or-map rule_of rules id.0 r (rule_of r) lt ∙ ap rule_of (sym at))
          (within id.0 (rule_of r) (omega (arith, lt, length-map rules rule_of))))
          (opening_rest rules stamps stamp active todo whole id is));
      len = length-set stamps id.0 stamp ∙ is.len;
      low = All-set (λ s. s < stamp + 1) stamps id.0 stamp (omega arith) is.low;
    }

pub opening_end : (rules : List TableRule) (stamps : List ℕ) (stamp : ℕ) (active : List RuleId) (whole : List ℕ)
    → IsOpening rules stamps stamp active [] whole → numbers active ≡ whole
opening_end rules stamps stamp active whole is =
    sym (append-nil (numbers active))
    ∙ ap (λ ids. numbers active ++ ids) (sym (opened_end (unmarked stamps stamp) (map rule_of rules)
    (marked stamps stamp)))
    ∙ is.list

-- less is left once a group is replaced
pub replaced_less : (rules : List TableRule) (stamps : List ℕ) (stamp d : ℕ) (todo todo' : List RuleId) (id : RuleId)
    (r : TableRule) → r ≡ get_or rules id.0 r → id.0 < length rules → length stamps ≡ length rules
    → get_or stamps id.0 d ≢ stamp → reverse todo' ≡ r.active ++ reverse todo
    → length todo' + to_replace rules (set stamps id.0 stamp) stamp
    < length (todo ++ id ∷ []) + to_replace rules stamps stamp
replaced_less rules stamps stamp d todo todo' id r at lt len other pushed =
    let same : length r.active ≡ length (get_or rules id.0 r).active = ap (λ x. length x.active) at in
    omega (
      arith,
      same,
      sym (length-reverse todo') ∙ ap length pushed ∙ length-append r.active (reverse todo),
      length-reverse todo,
      length-append todo (id ∷ []),
      to_replace-set rules stamps id.0 stamp d r lt (omega (arith, lt, len)) other,
    )

-- which kind a test tells

pub kind_group : (k : RuleKind) → false ≡ not (sameb the_type k TableGroup) → is_group (kind_of k) ≡ true
kind_group Match e = e
kind_group BeginEnd e = e
kind_group BeginWhile e = e
kind_group TableGroup e = refl

pub kind_no_group : (k : RuleKind) → true ≡ not (sameb the_type k TableGroup) → is_group (kind_of k) ≡ false
kind_no_group Match e = refl
kind_no_group BeginEnd e = refl
kind_no_group BeginWhile e = refl
kind_no_group TableGroup e = e
