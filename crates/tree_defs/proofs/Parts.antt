-- The parts of a tree that stands stand too, one behind the other.
use Rattle.std.proofs.Common.{◌≡◌, ℕ, List, [], ◌∷◌, ◌++◌, Bool, Some, None, refl}
use Rattle.std.proofs.Common.{sym, ap, ◌∙◌, subst, append_assoc, append-nil}
use Rattle.text_pos.specs.declared.length.Length.{Length}
use Rattle.text_pos.specs.declared.kinds.Kinds.{Kinds}
use Rattle.pairing_defs.specs.declared.Mark.{Mark}
use Rattle.tree_defs.specs.Tree.{Tree, Nothing, Text, Bracket, Lone, Pair, Two, Three}
use Rattle.tree_defs.specs.Items.{Items, end, text, lone, pair, unclosed, stray, unclosed_then, items_then}
use Rattle.tree_defs.specs.Items.{behind, Stands}
use Rattle.tree_defs.proofs.Opened.{IsMore, more_then}

-- for items that are put before others: what they take of the marks
pub record Splits (limit : ℕ) (level : ℕ) (before : Items → Items) (rest : Items) (at : Length)
    (ms : List Mark) : Type 0 where
  pub front : List Mark
  pub back : List Mark
  pub are : ms ≡ front ++ back
  pub tail : Stands limit level rest (behind (before end) at) back
  pub again : (other : Items) (more : List Mark) → (IsMore other → IsMore rest)
      → Stands limit level other (behind (before end) at) more → Stands limit level (before other) at (front ++ more)
  pub ends : (other : Items) → (IsMore other → IsMore rest) → behind (before other) at
      ≡ behind other (behind (before end) at)

abbrev pub Splitting : ℕ → ℕ → (Items → Items) → Type 0
Splitting limit level before = (rest : Items) (at : Length) (ms : List Mark) → Stands limit level (before rest) at ms
    → Splits limit level before rest at ms

-- something follows where something else did
abbrev Keeping : (Items → Items) → Type 0
Keeping before = (other rest : Items) → (IsMore other → IsMore rest) → IsMore (before other) → IsMore (before rest)

unclosed_keeps : (o : Length) (k : ℕ) (inside rest : Items) → IsMore (unclosed_then o k inside rest)
unclosed_keeps o k inside end = tt
unclosed_keeps o k inside (text a b c) = tt
unclosed_keeps o k inside (lone a b c) = tt
unclosed_keeps o k inside (pair a b c d e) = tt
unclosed_keeps o k inside (unclosed a b c) = tt
unclosed_keeps o k inside stray = tt

keeps : (t : Tree) → Keeping (items_then t)
keeps Nothing = λ other rest fits more. fits more
keeps (Text len cut) = λ other rest fits more. tt
keeps (Bracket len kind) = λ other rest fits more. tt
keeps (Lone len kinds) = λ other rest fits more. tt
keeps (Pair o k inside None) = λ other rest fits more. unclosed_keeps o k (items_then inside end) rest
keeps (Pair o k inside (Some c)) = λ other rest fits more. tt
keeps (Two a b) = λ other rest fits more. keeps a (items_then b other) (items_then b rest) (keeps b other rest fits)
    more
keeps (Three a b c) = λ other rest fits more. keeps a (items_then b (items_then c other))
    (items_then b (items_then c rest)) (keeps b (items_then c other) (items_then c rest) (keeps c other rest fits)) more

no_end : {A : Type 0} → IsMore end → A
no_end h = absurd h

module _ (limit level : ℕ) where
  nothing_splits : Splitting limit level (λ rest. rest)
  nothing_splits rest at ms stands = record
      { front = []; back = ms; are = refl; tail = stands; again = λ other more fits s. s; ends = λ other fits. refl }

  text_splits : (len : Length) (cut : Bool) → Splitting limit level (λ rest. text len cut rest)
  text_splits len cut rest at ms stands = record {
    front = stands.cuts;
    back = stands.more;
    are = stands.are;
    tail = stands.rest;
    again = λ other more fits s. record {
      cuts = stands.cuts;
      more = more;
      are = refl;
      cut_ones =
          stands.cut_ones;
      lie = stands.lie;
      rest = s;
    };
    ends = λ other fits. refl;
  }

  lone_splits : (len : Length) (kinds : Kinds) → Splitting limit level (λ rest. lone len kinds rest)
  lone_splits len kinds rest at ms stands = record {
    front = stands.mark ∷ [];
    back = stands.more;
    are = stands.are;
    tail = stands.rest;
    again = λ other more fits s. record {
      mark = stands.mark;
      more = more;
      are = refl;
      place = stands.place;
      role =
          stands.role;
      rest = s;
    };
    ends = λ other fits. refl;
  }

  pair_splits : (o : Length) (k : ℕ) (inside : Items) (c : Length)
      → Splitting limit level (λ rest. pair o k inside c rest)
  pair_splits o k inside c rest at ms stands = record {
    front = stands.mark ∷ (stands.within ++ stands.last ∷ []);
    back = stands.more;
    are = stands.are ∙ ap (λ l. stands.mark ∷ l) (sym (append_assoc stands.within (stands.last ∷ []) stands.more));
    tail = stands.rest;
    again = λ other more fits s. record {
      mark = stands.mark;
      within = stands.within;
      last = stands.last;
      more = more;
      kinds = stands.kinds;
      are = ap (λ l. stands.mark ∷ l) (append_assoc stands.within (stands.last ∷ []) more);
      place = stands.place;
      role = stands.role;
      room = stands.room;
      held = stands.held;
      not_missed = stands.not_missed;
      last_place = stands.last_place;
      last_role = stands.last_role;
      takes = stands.takes;
      passes =
          stands.passes;
      rest = s;
    };
    ends = λ other fits. refl;
  }

  -- nothing follows a pair without closer
  unclosed_again : (o : Length) (k : ℕ) (inside : Items) (at : Length) (front : List Mark)
      → Stands limit level (unclosed o k inside) at front → (other : Items) (more : List Mark) → (IsMore other → ⊥)
      → Stands limit level other (behind (unclosed o k inside) at) more
      → Stands limit level (unclosed_then o k inside other) at (front ++ more)
  unclosed_again o k inside at front stands end more none s =
      subst (λ l. Stands limit level (unclosed o k inside) at l) (sym (ap (λ l. front ++ l) s ∙ append-nil front))
      stands
  unclosed_again o k inside at front stands (text a b c) more none s = absurd (none tt)
  unclosed_again o k inside at front stands (lone a b c) more none s = absurd (none tt)
  unclosed_again o k inside at front stands (pair a b c d e) more none s = absurd (none tt)
  unclosed_again o k inside at front stands (unclosed a b c) more none s = absurd (none tt)
  unclosed_again o k inside at front stands stray more none s = absurd (none tt)

  unclosed_ends : (o : Length) (k : ℕ) (inside : Items) (at : Length) (other : Items) → (IsMore other → ⊥)
      → behind (unclosed_then o k inside other) at ≡ behind other (behind (unclosed o k inside) at)
  unclosed_ends o k inside at end none = refl
  unclosed_ends o k inside at (text a b c) none = absurd (none tt)
  unclosed_ends o k inside at (lone a b c) none = absurd (none tt)
  unclosed_ends o k inside at (pair a b c d e) none = absurd (none tt)
  unclosed_ends o k inside at (unclosed a b c) none = absurd (none tt)
  unclosed_ends o k inside at stray none = absurd (none tt)

  unclosed_splits : (o : Length) (k : ℕ) (inside : Items) (rest : Items) (at : Length) (ms : List Mark)
      → Stands limit level (unclosed_then o k inside rest) at ms
      → Splits limit level (unclosed_then o k inside) rest at ms
  unclosed_splits o k inside end at ms stands = record {
    front = ms;
    back = [];
    are = sym (append-nil ms);
    tail = refl;
    again = λ other more fits s. unclosed_again o k inside at ms stands other more fits s;
    ends = λ other fits. unclosed_ends o k inside at other fits;
  }
  unclosed_splits o k inside (text a b c) at ms stands = absurd stands
  unclosed_splits o k inside (lone a b c) at ms stands = absurd stands
  unclosed_splits o k inside (pair a b c d e) at ms stands = absurd stands
  unclosed_splits o k inside (unclosed a b c) at ms stands = absurd stands
  unclosed_splits o k inside stray at ms stands = absurd stands

  both_split : (a b : Items → Items) → Keeping b → Splitting limit level a → Splitting limit level b
      → Splitting limit level (λ rest. a (b rest))
  both_split a b keeping a_splits b_splits rest at ms stands =
      let p : Splits limit level a (b rest) at ms = a_splits (b rest) at ms stands in
      let mid : Length = behind (a end) at in
      let q : Splits limit level b rest mid p.back = b_splits rest mid p.back p.tail in
      let ending : behind (a (b end)) at ≡ behind (b end) mid = p.ends (b end) (keeping end rest (λ h. no_end h)) in
      record {
        front = p.front ++ q.front;
        back = q.back;
        are = p.are ∙ ap (λ l. p.front ++ l) q.are ∙ sym (append_assoc p.front q.front q.back);
        tail = subst (λ x. Stands limit level rest x q.back) (sym ending) q.tail;
        again = λ other more fits s.
            subst (λ l. Stands limit level (a (b other)) at l) (sym (append_assoc p.front q.front more))
            (p.again (b other) (q.front ++ more) (keeping other rest fits)
            (q.again other more fits (subst (λ x. Stands limit level other x more) ending s)));
        ends = λ other fits. p.ends (b other) (keeping other rest fits) ∙ q.ends other fits
            ∙ ap (λ x. behind other x) (sym ending);
      }

  pub splits : (t : Tree) → Splitting limit level (items_then t)
  splits Nothing = nothing_splits
  splits (Text len cut) = text_splits len cut
  splits (Bracket len kind) = λ rest at ms stands. absurd stands
  splits (Lone len kinds) = lone_splits len kinds
  splits (Pair o k inside None) = unclosed_splits o k (items_then inside end)
  splits (Pair o k inside (Some c)) = pair_splits o k (items_then inside end) c
  splits (Two a b) = both_split (items_then a) (items_then b) (keeps b) (splits a) (splits b)
  splits (Three a b c) = both_split (items_then a) (λ rest. items_then b (items_then c rest))
      (λ other rest fits more. keeps b (items_then c other) (items_then c rest) (keeps c other rest fits) more)
      (splits a) (both_split (items_then b) (items_then c) (keeps c) (splits b) (splits c))

-- ---- trees are put together
abbrev pub EndsShut : Tree → Type 0
EndsShut Nothing = ⊥
EndsShut (Text len cut) = Unit {0}
EndsShut (Bracket len kind) = ⊥
EndsShut (Lone len kinds) = Unit {0}
EndsShut (Pair o k inside None) = ⊥
EndsShut (Pair o k inside (Some c)) = Unit {0}
EndsShut (Two a b) = EndsShut b
EndsShut (Three a b c) = EndsShut c

shut_more : (t : Tree) (rest : Items) → EndsShut t → IsMore (items_then t rest)
shut_more Nothing rest shut = absurd shut
shut_more (Text len cut) rest shut = tt
shut_more (Bracket len kind) rest shut = absurd shut
shut_more (Lone len kinds) rest shut = tt
shut_more (Pair o k inside None) rest shut = absurd shut
shut_more (Pair o k inside (Some c)) rest shut = tt
shut_more (Two a b) rest shut = more_then a (items_then b rest) (shut_more b rest shut)
shut_more (Three a b c) rest shut = more_then a (items_then b (items_then c rest))
    (more_then b (items_then c rest) (shut_more c rest shut))

module _ (limit level : ℕ) where
  abbrev Joining : (Items → Items) → Type 0
  Joining before = (at : Length) (ms : List Mark) → Stands limit level (before end) at ms
      → (other : Items) (more : List Mark) → Stands limit level other (behind (before end) at) more
      → Stands limit level (before other) at (ms ++ more)

  text_joins : (len : Length) (cut : Bool) → Joining (λ rest. text len cut rest)
  text_joins len cut at ms stands other more s = record {
    cuts = stands.cuts;
    more = more;
    cut_ones = stands.cut_ones;
    lie = stands.lie;
    rest = s;
    are = ap (λ l. l ++ more) (stands.are ∙ ap (λ l. stands.cuts ++ l) stands.rest ∙ append-nil stands.cuts);
  }

  lone_joins : (len : Length) (kinds : Kinds) → Joining (λ rest. lone len kinds rest)
  lone_joins len kinds at ms stands other more s = record {
    mark = stands.mark;
    more = more;
    place = stands.place;
    role = stands.role;
    rest = s;
    are = ap (λ l. l ++ more) (stands.are ∙ ap (λ l. stands.mark ∷ l) stands.rest);
  }

  pair_joins : (o : Length) (k : ℕ) (inside : Items) (c : Length) → Joining (λ rest. pair o k inside c rest)
  pair_joins o k inside c at ms stands other more s = record {
    mark = stands.mark;
    within = stands.within;
    last = stands.last;
    more = more;
    kinds = stands.kinds;
    are = ap (λ l. l ++ more) (stands.are ∙ ap (λ l. stands.mark ∷ (stands.within ++ stands.last ∷ l)) stands.rest)
        ∙ ap (λ l. stands.mark ∷ l) (append_assoc stands.within (stands.last ∷ []) more);
    place = stands.place;
    role = stands.role;
    room = stands.room;
    held = stands.held;
    not_missed = stands.not_missed;
    last_place = stands.last_place;
    last_role = stands.last_role;
    takes = stands.takes;
    passes = stands.passes;
    rest =
        s;
  }

  both_join : (a b : Items → Items) → Keeping b → Splitting limit level a → ((other : Items) → IsMore (b other))
      → Joining b → Joining (λ rest. a (b rest))
  both_join a b keeping a_splits b_more b_joins at ms stands other more s =
      let p : Splits limit level a (b end) at ms = a_splits (b end) at ms stands in
      let mid : Length = behind (a end) at in
      let ending : behind (a (b end)) at ≡ behind (b end) mid = p.ends (b end) (λ h. h) in
      let joined : Stands limit level (b other) mid (p.back ++ more) =
      b_joins mid p.back p.tail other more (subst (λ x. Stands limit level other x more) ending s) in
      subst (λ l. Stands limit level (a (b other)) at l)
      (sym (ap (λ l. l ++ more) p.are ∙ append_assoc p.front p.back more))
      (p.again (b other) (p.back ++ more) (λ h. b_more end) joined)

  -- what ends in no pair without closer stands before whatever stands behind it
  pub joins : (t : Tree) → EndsShut t → Joining (items_then t)
  joins Nothing shut = absurd shut
  joins (Text len cut) shut = text_joins len cut
  joins (Bracket len kind) shut = absurd shut
  joins (Lone len kinds) shut = lone_joins len kinds
  joins (Pair o k inside None) shut = absurd shut
  joins (Pair o k inside (Some c)) shut = pair_joins o k (items_then inside end) c
  joins (Two a b) shut = both_join (items_then a) (items_then b) (keeps b) (splits limit level a)
      (λ other. shut_more b other shut) (joins b shut)
  joins (Three a b c) shut = both_join (items_then a) (λ rest. items_then b (items_then c rest))
      (λ other rest fits more. keeps b (items_then c other) (items_then c rest) (keeps c other rest fits) more)
      (splits limit level a)
      (λ other. more_then b (items_then c other) (shut_more c other shut))
      (both_join (items_then b) (items_then c) (keeps c) (splits limit level b) (λ other. shut_more c other shut)
      (joins c shut))
