-- A text, an opener that is met at the limit and an unexpected closer grow the list that they are put in.
use Rattle.std.proofs.Common.{◌≡◌, ℕ, ◌+◌, ◌≤◌, ◌&&◌, ◌||◌, List, [], ◌∷◌, length, Bool, true, false, IsTrue, refl, sym}
use Rattle.std.proofs.Common.{subst, arith}
use Rattle.text_pos.specs.declared.length.Length.{Length}
use Rattle.text_pos.specs.declared.kinds.Kinds.{Kinds}
use Rattle.text_pos.specs.KindSet.{has_kind}
use Rattle.text_pos.specs.Lengths.{plus, IsLess}
use Rattle.pairing_defs.specs.declared.Role.{Role}
use Rattle.pairing_defs.specs.declared.Role.TheVariants.{Opener, Closer}
use Rattle.pairing_defs.specs.declared.Mark.{Mark}
use Rattle.tree_defs.specs.Tree.{Text, Lone}
use Rattle.tree_defs.specs.Items.{IsOpener, IsWithin, missed_in}
use Rattle.reuse_parser.specs.declared.place.Around.{Around}
use Rattle.reuse_parser.specs.Parsing.{start_of, end_of, size_of, next_start, Follow, Stopped, Fine, Grows, role_has}
use Rattle.reuse_parser.specs.Parsing.{HoldsAt}
use Rattle.tree_defs.specs.Ends.{EndAt}
use Rattle.reuse_parser.proofs.Marks.{size_ends, in_line, is_at, not_less_itself, less_behind, less_at_next, not_both}

-- ---- text
follow_next : (at last : Length) (ms : List Mark) → Follow at last ms → Follow (next_start last ms) last ms
follow_next at last [] follow = not_less_itself last
follow_next at last (m ∷ ms) follow = (not_less_itself (start_of m), follow.1, follow.2, follow.3)

stopped_at : (a : Around) (at : Length) (ms : List Mark) → Stopped a at ms → at ≡ next_start a.end ms
stopped_at a at [] stopped = stopped
stopped_at a at (m ∷ ms) stopped = stopped.0

pub holds_next : (test : Length → Bool) (last : Length) (ms : List Mark) → HoldsAt test last ms
    → test (next_start last ms) ≡ true
holds_next test last [] holds = holds
holds_next test last (m ∷ ms) holds = holds.0

pub text_grows : (a : Around) (at len : Length) (ms : List Mark) → a.level ≤ a.limit → IsLess at (next_start a.end ms)
    → Follow at a.end ms → plus at len ≡ next_start a.end ms → Grows a at ms (Text len false) (next_start a.end ms) ms
text_grows a at len ms room less follow long = record {
  more = λ stopped. not_less_itself at (subst (λ p. IsLess at p) (sym (stopped_at a at ms stopped)) less);
  done = [];
  are = refl;
  leaf = refl;
  long = long;
  shallow = omega (arith, room);
  follow = follow_next at a.end ms follow;
  less = less_at_next (length ms) at (next_start a.end ms) less;
  still = λ test holds. holds;
  ends = λ test its holds none ends. (
    subst (λ p. test p ≡ true) (sym long) (holds_next test a.end ms holds),
    subst (λ p. EndAt test its p) (sym long) ends,
  );
  leads = λ its more has stop h fine0.
      let fine : Fine a has stop its (plus at len) more = subst (λ p. Fine a has stop its p more) (sym long) fine0 in
      record {
        stands = record { cuts = []; more = more; are = refl; cut_ones = refl; lie = tt; rest = fine.stands };
        ends = fine.ends;
        apart = fine.apart;
        passes = fine.passes;
      };
}

-- ---- an opener that is met at the limit
no_closer : (r : Role) (k : ℕ) → IsOpener r → role_has r k ≡ false
no_closer (Opener kind) k is = refl
no_closer (Closer kinds) k is = absurd is

no_truth : IsTrue false → ⊥
no_truth t = cc

pub not_stopped : (a : Around) (m : Mark) (rest : List Mark) → ((k : ℕ) → role_has m.role k ≡ false)
    → ¬ Stopped a (start_of m) (m ∷ rest)
not_stopped a m rest none stopped =
    let k = stopped.1.0 in no_truth (subst (λ b. IsTrue (b && has_kind a.above k)) (none k) stopped.1.1)

pub cut_grows : (a : Around) (m : Mark) (rest : List Mark) → a.level ≤ a.limit → a.limit ≤ a.level → IsOpener m.role
    → Follow (start_of m) a.end (m ∷ rest) → Grows a (start_of m) (m ∷ rest) (Text (size_of m) true) (end_of m) rest
cut_grows a m rest room full opener follow = record {
  more = not_stopped a m rest (λ k. no_closer m.role k opener);
  done = m ∷ [];
  are = refl;
  leaf = refl;
  long = size_ends m follow.1;
  shallow = omega (arith, room);
  follow = follow.3;
  less = less_behind a.end (start_of m) (end_of m) (m ∷ rest) rest (omega arith);
  still = λ test holds. holds.2;
  ends = λ test its holds none ends. (
    subst (λ p. test p ≡ true) (sym (size_ends m follow.1)) holds.1,
    subst (λ p. EndAt test its p) (sym (size_ends m follow.1)) ends,
  );
  leads = λ its more has stop h fine0.
      let ends = size_ends m follow.1 in
      let fine : Fine a has stop its (plus (start_of m) (size_of m)) more =
      subst (λ p. Fine a has stop its p more) (sym ends) fine0 in
      let within : IsWithin (start_of m) (size_of m) m = record {
        from = not_less_itself (start_of m);
        to = subst (λ p. ¬ IsLess p (end_of m)) (sym ends) (not_less_itself (end_of m));
      } in
      record {
        stands = record {
          cuts = m ∷ [];
          more = more;
          are = refl;
          cut_ones = (full, (opener, tt));
          lie = (within, tt);
          rest = fine.stands;
        };
        ends = fine.ends;
        apart = fine.apart;
        passes = fine.passes;
      };
}

-- ---- an unexpected closer
none_met : (a : Around) (m : Mark) (kinds : Kinds) (rest : List Mark) → m.role ≡ Closer kinds
    → ¬ ((k : ℕ) × IsTrue (has_kind kinds k && has_kind a.above k)) → ¬ Stopped a (start_of m) (m ∷ rest)
none_met a m kinds rest role apart stopped =
    let k = stopped.1.0 in
    apart (k, subst (λ r. IsTrue (role_has r k && has_kind a.above k)) role stopped.1.1)

pub lone_grows : (a : Around) (m : Mark) (kinds : Kinds) (rest : List Mark) → a.level ≤ a.limit
    → m.role ≡ Closer kinds → ¬ ((k : ℕ) × IsTrue (has_kind kinds k && has_kind a.above k))
    → Follow (start_of m) a.end (m ∷ rest) → Grows a (start_of m) (m ∷ rest) (Lone (size_of m) kinds) (end_of m) rest
lone_grows a m kinds rest room role apart follow = record {
  more = none_met a m kinds rest role apart;
  done = m ∷ [];
  are = refl;
  leaf = refl;
  long = size_ends m follow.1;
  shallow = omega (arith, room);
  follow = follow.3;
  less = less_behind a.end (start_of m) (end_of m) (m ∷ rest) rest (omega arith);
  still = λ test holds. holds.2;
  ends = λ test its holds none ends. (
    in_line m follow.1,
    subst (λ p. test p ≡ true) (sym (size_ends m follow.1)) holds.1,
    subst (λ p. EndAt test its p) (sym (size_ends m follow.1)) ends,
  );
  leads = λ its more has stop h fine0.
      let fine : Fine a has stop its (plus (start_of m) (size_of m)) more =
      subst (λ p. Fine a has stop its p more) (sym (size_ends m follow.1)) fine0 in
      record {
        stands = record {
          mark = m;
          more = more;
          are = refl;
          place = is_at m follow.1;
          role = role;
          rest = fine.stands;
        };
        ends = fine.ends;
        apart = λ k t. subst (λ b. (b || missed_in its k) ≡ false)
            (sym (not_both (has_kind kinds k) (has_kind a.above k) (λ both. apart (k, both)) t)) (fine.apart k t);
        passes = λ n. fine.passes (n + 1);
      };
}
