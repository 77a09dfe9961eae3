-- Of the rows of items, those that pass a test are at most twice the openers of pairs that meet a change, where the
-- marks of no other pair pass.
use Rattle.std.proofs.Common.{◌≡◌, ℕ, ◌+◌, ◌*◌, ◌≤◌, Bool, true, false, cond, List, [], ◌∷◌, ◌++◌, length}
use Rattle.std.proofs.Common.{Some, None, refl, sym, ap, ◌∙◌, subst, arith, append_assoc, length-append}
use Rattle.std.specs.List.{slice_get, count_by, AllByRecursion}
use Rattle.std.proofs.lemmas.List.Sums.{sum_by-cons, sum_by-append}
use Rattle.text_pos.specs.declared.length.Length.{Length}
use Rattle.text_pos.specs.Lengths.{plus}
use Rattle.pairing_defs.specs.declared.Role.{Role}
use Rattle.pairing_defs.specs.declared.Role.TheVariants.{Opener, Closer}
use Rattle.pairing_defs.specs.declared.Mark.{Mark}
use Rattle.pairing_defs.specs.declared.Row.{Row}
use Rattle.pairing_defs.specs.Pairing.{Entry}
use Rattle.tree_defs.specs.Items.{Items, end, text, lone, pair, unclosed, stray, rows_in, behind, IsAt, opens}
use Rattle.tree_defs.specs.Reuse.{SeenAs}
use Rattle.tree_defs.specs.Ends.{EndAt, IsInLine}
use Rattle.tree_defs.specs.Rows.{tree_rows, AreFull}
use Rattle.change_defs.specs.declared.Placed.{Placed}
use Rattle.change_defs.specs.FreshMarks.{is_met, is_met_with, is_met_by, is_met_opener, is_met_row}
use Rattle.fresh_laws.proofs.Each.{all_front, all_back}
use Rattle.fresh_laws.proofs.RowParts.{opener_full, closer_full, full_long, rows_long, PairRows, pair_rows, at_front}

abbrev pub HasPartner : Row → Type 0
HasPartner r = r.partner ≡ None → ⊥

no_other : {a : ℕ} → Some a ≡ None → ⊥
no_other e = cc

-- the row of a pair's opener
opener_met : (ps : List Placed) (whole : List Row) (r q : Row) (role : Role) (kind partner : ℕ)
    → SeenAs role (opens kind) → r.partner ≡ Some partner → slice_get whole partner ≡ Some q
    → is_met_opener ps whole r role ≡ is_met ps r.mark q.mark
opener_met ps whole r q (Closer kinds) kind partner seen with_it there = absurd seen
opener_met ps whole r q (Opener other) kind partner seen with_it there =
    ap (λ o. is_met_by ps whole r.mark o) with_it ∙ ap (λ o. is_met_with ps r.mark o) there

-- items that stand in all rows
pub record Standing (whole : List Row) (test : Length → Bool) (its : Items) (at : Length) (rs : List Row) : Type 0 where
  pub n : ℕ
  pub es : List Entry
  pub front : List Row
  pub back : List Row
  pub are : whole ≡ front ++ (rs ++ back)
  pub long : length front ≡ n
  pub full : AreFull rs (tree_rows its at n es)
  pub ends : EndAt test its at
  pub partners : AllByRecursion HasPartner rs

module _ (ps : List Placed) (whole : List Row) (test : Length → Bool) (passes : Mark → Bool) where
  abbrev pub met : List Row → ℕ
  met rs = count_by (is_met_row ps whole) rs

  abbrev pub passing : List Row → ℕ
  passing rs = count_by (λ r. passes r.mark) rs

  pub IsBound : Items → Length → Type 0
  IsBound its at = (rs : List Row) → Standing whole test its at rs → passing rs ≤ 2 * met rs

  pub end_bound : (at : Length) → IsBound end at
  unfolding IsBound
  end_bound at [] s = omega arith
  end_bound at (r ∷ rs) s = absurd s.full

  pub text_bound : (len : Length) (cut : Bool) (rest : Items) (at : Length) → IsBound rest (plus at len)
      → IsBound (text len cut rest) at
  unfolding IsBound
  text_bound len cut rest at h rs s = h rs (record {
    n = s.n;
    es = s.es;
    front = s.front;
    back = s.back;
    are = s.are;
    long = s.long;
    full = s.full;
    ends = s.ends.1;
    partners = s.partners;
  })

  pub lone_bound : (len : Length) (kinds : _) (rest : Items) (at : Length) → IsBound (lone len kinds rest) at
  unfolding IsBound
  lone_bound len kinds rest at [] s = absurd s.full
  lone_bound len kinds rest at (r ∷ rs) s = absurd (s.partners.0 s.full.0.partner)

  pub unclosed_bound : (opener : Length) (kind : ℕ) (inside : Items) (at : Length)
      → IsBound (unclosed opener kind inside) at
  unfolding IsBound
  unclosed_bound opener kind inside at [] s = absurd s.full
  unclosed_bound opener kind inside at (r ∷ rs) s = absurd (s.partners.0 s.full.0.partner)

  pub stray_bound : (at : Length) → IsBound stray at
  unfolding IsBound
  stray_bound at rs s = absurd s.ends

  -- the marks of a pair don't pass where it meets no change
  abbrev pub IsFair : Length → Length → Items → Length → Type 0
  IsFair at opener inside closer = (o c : Mark) → IsAt o at opener → IsAt c (behind inside (plus at opener)) closer
      → IsInLine closer → is_met ps o c ≡ false → (passes o ≡ false) × (passes c ≡ false)

  at_most_one : (b : Bool) → cond b 1 0 ≤ 1
  at_most_one true = omega arith
  at_most_one false = omega arith

  counted : (f : Row → Bool) (r : Row) (inside : List Row) (q : Row) (rest : List Row)
      → count_by f (r ∷ (inside ++ q ∷ rest))
      ≡ cond (f r) 1 0 + (count_by f inside + (cond (f q) 1 0 + count_by f rest))
  counted f r inside q rest =
      let one : Row → ℕ = λ x. cond (f x) 1 0 in
      sum_by-cons one r (inside ++ q ∷ rest)
      ∙ ap (λ n. cond (f r) 1 0 + n) (sum_by-append one inside (q ∷ rest)
      ∙ ap (λ n. count_by f inside + n) (sum_by-cons one q rest))

  -- the two marks of a pair, what passes inside and behind, and what meets
  pair_counts : (m first last other : Bool) (a b c d : ℕ) → (m ≡ false → (first ≡ false) × (last ≡ false)) → a ≤ 2 * c
      → b ≤ 2 * d
      → cond first 1 0 + (a + (cond last 1 0 + b)) ≤ 2 * (cond m 1 0 + (c + (cond other 1 0 + d)))
  pair_counts true first last other a b c d fair h i =
      let u = at_most_one first in let v = at_most_one last in omega (arith, h, i, u, v)
  pair_counts false first last other a b c d fair h i =
      let none = fair refl in rw (none.0, none.1) (omega (arith, h, i))

  module _ (opener : Length) (kind : ℕ) (inside : Items) (closer : Length) (rest : Items) (at : Length) where
    abbrev from : Length
    from = behind inside (plus at opener)

    -- the rows of the pair and of what is behind it, from a number on
    abbrev Split : List Row → ℕ → List Entry → Type 0
    Split rs n es = PairRows rs (opener_full opener kind inside at n es)
        (tree_rows inside (plus at opener) (n + 1) (record { row = n; kind = kind } ∷ es))
        (closer_full opener kind inside closer at n es)
        (tree_rows rest (plus from closer) (n + 1 + rows_in inside + 1) es)

    -- all rows, around those of the pair
    around : (front : List Row) (rs back : List Row) (r : Row) (ins : List Row) (q : Row) (last : List Row)
        → whole ≡ front ++ (rs ++ back) → rs ≡ r ∷ (ins ++ q ∷ last)
        → whole ≡ front ++ (r ∷ (ins ++ q ∷ (last ++ back)))
    around front rs back r ins q last is are =
        is ∙ ap (λ l. front ++ (l ++ back)) are ∙ ap (λ l. front ++ (r ∷ l)) (append_assoc ins (q ∷ last) back)

    inside_stands : (rs : List Row) (s : Standing whole test (pair opener kind inside closer rest) at rs)
        (p : Split rs s.n s.es)
        → Standing whole test inside (plus at opener) p.inside
    inside_stands rs s p = record {
      n = s.n + 1;
      es = record { row = s.n; kind = kind } ∷ s.es;
      front = s.front ++ p.opener ∷ [];
      back = p.closer ∷ (p.rest ++ s.back);
      are = around s.front rs s.back p.opener p.inside p.closer p.rest s.are p.are
          ∙ sym (append_assoc s.front (p.opener ∷ []) (p.inside ++ p.closer ∷ (p.rest ++ s.back)));
      long = length-append s.front (p.opener ∷ []) ∙ ap (λ n. n + 1) s.long;
      full = p.insides;
      ends = s.ends.2;
      partners = all_front HasPartner p.inside (p.closer ∷ p.rest) (subst (λ l. AllByRecursion HasPartner l) p.are s.partners).1;
    }

    inside_long : (n : ℕ) (es : List Entry) (ins : List Row) → AreFull ins (tree_rows inside (plus at opener) n es)
        → length ins ≡ rows_in inside
    inside_long n es ins full =
        full_long ins (tree_rows inside (plus at opener) n es) full ∙ rows_long inside (plus at opener) n es

    rest_stands : (rs : List Row) (s : Standing whole test (pair opener kind inside closer rest) at rs)
        (p : Split rs s.n s.es)
        → Standing whole test rest (plus from closer) p.rest
    rest_stands rs s p = record {
      n = s.n + 1 + rows_in inside + 1;
      es = s.es;
      front = s.front ++ (p.opener ∷ (p.inside ++ p.closer ∷ []));
      back = s.back;
      are = around s.front rs s.back p.opener p.inside p.closer p.rest s.are p.are
          ∙ ap (λ l. s.front ++ (p.opener ∷ l)) (sym (append_assoc p.inside (p.closer ∷ []) (p.rest ++ s.back)))
          ∙ sym (append_assoc s.front (p.opener ∷ (p.inside ++ p.closer ∷ [])) (p.rest ++ s.back));
      long =
          let h = length-append s.front (p.opener ∷ (p.inside ++ p.closer ∷ [])) in
          let i = length-append p.inside (p.closer ∷ []) in
          let j = inside_long (s.n + 1) (record { row = s.n; kind = kind } ∷ s.es) p.inside p.insides in
          let k = s.long in
          omega (arith, h, i, j, k);
      full = p.rests;
      ends = s.ends.5;
      partners = (all_back HasPartner p.inside (p.closer ∷ p.rest) (subst (λ l. AllByRecursion HasPartner l) p.are s.partners).1).1;
    }

    -- the partner's row of the opener's
    closer_there : (rs : List Row) (s : Standing whole test (pair opener kind inside closer rest) at rs)
        (p : Split rs s.n s.es)
        → slice_get whole (s.n + 1 + rows_in inside) ≡ Some p.closer
    closer_there rs s p =
        let here : whole ≡ (s.front ++ (p.opener ∷ p.inside)) ++ p.closer ∷ (p.rest ++ s.back) =
        around s.front rs s.back p.opener p.inside p.closer p.rest s.are p.are
        ∙ sym (append_assoc s.front (p.opener ∷ p.inside) (p.closer ∷ (p.rest ++ s.back))) in
        let long : s.n + 1 + rows_in inside ≡ length (s.front ++ (p.opener ∷ p.inside)) =
        let h = length-append s.front (p.opener ∷ p.inside) in
        let j = inside_long (s.n + 1) (record { row = s.n; kind = kind } ∷ s.es) p.inside p.insides in
        let k = s.long in omega (arith, h, j, k) in
        ap (λ n. slice_get whole n) long ∙ ap (λ l. slice_get l (length (s.front ++ (p.opener ∷ p.inside)))) here
        ∙ at_front (s.front ++ (p.opener ∷ p.inside)) p.closer (p.rest ++ s.back)

    pub pair_bound : IsFair at opener inside closer → IsBound inside (plus at opener)
        → IsBound rest (plus from closer) → IsBound (pair opener kind inside closer rest) at
    unfolding IsBound
    pair_bound fair h i rs s =
        let p : Split rs s.n s.es = pair_rows rs _ _ _ _ s.full in
        let r = p.opener in
        let q = p.closer in
        let is_row : is_met_row ps whole r ≡ is_met ps r.mark q.mark =
        opener_met ps whole r q r.mark.role kind (s.n + 1 + rows_in inside) p.is_opener.seen p.is_opener.partner (closer_there rs s p) in
        let o : IsAt r.mark at opener = record { line = p.is_opener.line; col = p.is_opener.col; to = p.is_opener.to } in
        let c : IsAt q.mark from closer = record { line = p.is_closer.line; col = p.is_closer.col; to = p.is_closer.to } in
        let few = pair_counts (is_met_row ps whole r) (passes r.mark) (passes q.mark) (is_met_row ps whole q)
        (passing p.inside) (passing p.rest) (met p.inside) (met p.rest)
        (λ unmet. fair r.mark q.mark o c s.ends.3 (sym is_row ∙ unmet)) (h p.inside (inside_stands rs s p)) (i p.rest (rest_stands rs s p)) in
        let left : passing rs ≡ _ = ap (λ l. passing l) p.are ∙ counted (λ x. passes x.mark) r p.inside q p.rest in
        let right : met rs ≡ _ = ap (λ l. met l) p.are ∙ counted (is_met_row ps whole) r p.inside q p.rest in
        rw (left, right) few

  pub bounds : (its : Items) (at : Length) → IsBound its at → (rs : List Row) → Standing whole test its at rs
      → count_by (λ r. passes r.mark) rs ≤ 2 * count_by (is_met_row ps whole) rs
  unfolding IsBound
  bounds its at h rs s = h rs s
