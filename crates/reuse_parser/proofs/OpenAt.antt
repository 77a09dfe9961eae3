-- The open entries before a place of a list.
use Rattle.std.proofs.Common.{◌≡◌, ℕ, ◌<◌, ◌||◌, ◌==◌, List, [], ◌∷◌, ◌++◌, length, Bool, true, false, IsTrue}
use Rattle.std.proofs.Common.{refl, sym, ap, ◌∙◌, subst, arith, append_assoc}
use Rattle.std.proofs.lemmas.Bool.Decides.{nat_tests}
use Rattle.text_pos.specs.declared.length.Length.{Length}
use Rattle.text_pos.specs.declared.kinds.Kinds.{Kinds}
use Rattle.text_pos.specs.KindSet.{has_kind}
use Rattle.pairing_defs.specs.declared.Role.TheVariants.{Opener}
use Rattle.pairing_defs.specs.declared.Mark.{Mark}
use Rattle.pairing_defs.specs.Pairing.{Entry, Open, open_after, nothing_open}
use Rattle.bracket_marks.specs.MarkedLine.{MarkedLine, marks_in}
use Rattle.mark_source.specs.Source.{AreMarked}
use Rattle.mark_source.proofs.Ahead.{all_ahead}
use Rattle.mark_source.proofs.Places.{all_in_order}
use Rattle.tree_defs.specs.Items.{Items, missed_in, left_by, Stands}
use Rattle.tree_defs.specs.Reuse.{AreAmong, Clear, Walked}
use Rattle.tree_defs.specs.Rows.{start}
use Rattle.tree_defs.proofs.Steps.{open_append, opener_open}
use Rattle.tree_defs.proofs.Walk.{walks}
use Rattle.reuse_parser.specs.declared.place.Around.{Around}
use Rattle.reuse_parser.specs.Parsing.{start_of, end_of, Fine, NoneBy, IsWithin}
use Rattle.reuse_parser.specs.Reading.{IsMark}
use Rattle.reuse_parser.specs.Reusing.{ahead_of}
use Rattle.reuse_parser.specs.Counting.{IsOpenAt}
use Rattle.reuse_parser.proofs.Sources.{first_place}

none_by_all : (es : List Entry) → NoneBy (λ k. true) es → es ≡ []
none_by_all [] none = refl
none_by_all (e ∷ es) none = absurd (no none.0)
  where
    no : true ≡ false → ⊥
    no h = cc

clear_all : (above : Kinds) (its : Items) (es : List Entry) → ((k : ℕ) → IsTrue (has_kind above k) → missed_in its k ≡ false)
    → AreAmong above es → Clear its es
clear_all above its [] apart among = tt
clear_all above its (e ∷ es) apart among = (apart e.kind among.0, clear_all above its es apart among.1)

-- items that leave nothing open keep the entries
pub open_on : (lines : List MarkedLine) (a : Around) (at to : Length) (its : Items) (done : List Mark)
    → IsOpenAt lines a at → ahead_of lines at ≡ done ++ ahead_of lines to → Fine a (λ k. true) to its at done
    → IsOpenAt lines a to
open_on lines a at to its done opens are fine =
    let s : Open = open_after a.limit nothing_open opens.front in
    let w : Walked a.limit its at done s =
    walks a.limit its at done s (subst (λ n. Stands a.limit n its at done) (sym opens.level) fine.stands)
    (clear_all a.above its s.entries fine.apart opens.among) in
    let same : (open_after a.limit nothing_open (opens.front ++ done)).entries ≡ s.entries =
    ap (λ (o : Open). o.entries) (open_append a.limit opens.front done nothing_open) ∙ w.entries
    ∙ ap (λ es. es ++ s.entries) (none_by_all (left_by s.rows its) (fine.passes s.rows)) in record {
      front = opens.front ++ done;
      are = opens.are ∙ ap (λ l. opens.front ++ l) are ∙ sym (append_assoc opens.front done (ahead_of lines to));
      level = ap length same ∙ opens.level;
      among = subst (λ es. AreAmong a.above es) (sym same) opens.among;
    }

-- an opener that isn't cut is one entry more
pub open_within : (lines : List MarkedLine) (a b : Around) (m : Mark) (kind : ℕ) → IsOpenAt lines a (start_of m)
    → IsMark lines (start_of m) m → m.role ≡ Opener kind → a.level < a.limit → IsWithin a kind b
    → IsOpenAt lines b (end_of m)
open_within lines a b m kind opens is role room w =
    let s : Open = open_after a.limit nothing_open opens.front in
    let level = opens.level in
    let e : Entry = record { row = s.rows; kind = kind } in
    let same : (open_after a.limit nothing_open (opens.front ++ m ∷ [])).entries ≡ e ∷ s.entries =
    ap (λ (o : Open). o.entries) (open_append a.limit opens.front (m ∷ []) nothing_open
    ∙ opener_open a.limit s m kind [] role (omega (arith, level, room))) in
    let there : (open_after b.limit nothing_open (opens.front ++ m ∷ [])).entries ≡ e ∷ s.entries =
    ap (λ n. (open_after n nothing_open (opens.front ++ m ∷ [])).entries) w.limit ∙ same in
    let deeper = w.level in
    let longer = ap length there in record {
      front = opens.front ++ m ∷ [];
      are = opens.are ∙ ap (λ l. opens.front ++ l) is.is
          ∙ sym (append_assoc opens.front (m ∷ []) (ahead_of lines (end_of m)));
      level = omega (arith, longer, level, deeper);
      among = subst (λ es. AreAmong b.above es) (sym there) (
        is_true (has_kind b.above kind) (w.above kind ∙ either_true (has_kind a.above kind) (kind == kind) (same_kind kind)),
        more s.entries opens.among,
      );
    }
  where
    is_true : (x : Bool) → x ≡ true → IsTrue x
    is_true x h = h

    same_kind : (k : ℕ) → (k == k) ≡ true
    same_kind k = grind (arith, nat_tests)

    either_true : (x y : Bool) → y ≡ true → (x || y) ≡ true
    either_true true y h = refl
    either_true false y h = h

    first_true : (x y : Bool) → IsTrue x → IsTrue (x || y)
    first_true true y h = refl
    first_true false y h = cc

    more : (es : List Entry) → AreAmong a.above es → AreAmong b.above es
    more [] among = tt
    more (f ∷ es) among = (
      subst (λ x. IsTrue x) (sym (w.above f.kind)) (first_true (has_kind a.above f.kind) (f.kind == kind) among.0),
      more es among.1,
    )

-- nothing is open at the start
pub open_first : (lines : List MarkedLine) (a : Around) → AreMarked lines → a.level ≡ 0 → IsOpenAt lines a start
open_first lines a marked none = record {
  front = [];
  are = sym (all_ahead first_place (marks_in lines) (all_in_order lines marked));
  level = sym none;
  among = tt;
}
