-- What the loop over a list keeps.
use Rattle.std.proofs.Common.{◌≡◌, ℕ, List, count_by, refl, sym, ap, ◌∙◌, subst, arith}
use Rattle.text_pos.specs.declared.length.Length.{Length}
use Rattle.text_pos.specs.Lengths.{IsLess}
use Rattle.bracket_marks.specs.MarkedLine.{MarkedLine}
use Rattle.mark_source.specs.Source.{Source, ahead}
use Rattle.tree_defs.specs.Tree.{Tree}
use Rattle.reuse_parser.specs.declared.place.Around.{Around}
use Rattle.reuse_parser.specs.declared.old.Old.{Old}
use Rattle.reuse_defs.specs.Since.{Since}
use Rattle.reuse_parser.specs.Reusing.{AreShort}
use Rattle.reuse_parser.specs.Reading.{StandsAt}
use Rattle.reuse_parser.specs.Olds.{Calmly, IsReady, IsSame, IsSet, IsSince, unsettled_ahead, Went}
use Rattle.reuse_parser.specs.Counting.{IsCalm, IsOutside}
use Rattle.reuse_defs.specs.Settled.{is_unsettled}
use Rattle.change_defs.specs.declared.Change.{Change}
use Rattle.reuse_parser.proofs.Gathering.{Gathered}

pub record Going (a : Around) (from : Length) (first : Source) (before : ℕ) (old : Old) (ts : List Tree) (at : Length)
    (source : Source) (steps : ℕ) (now : Old) : Type 0 where
  pub gathered : Gathered first.lines a from ts at
  pub stands : StandsAt source at
  pub ready : IsSet first.lines a.limit now at
  pub went : Went a.limit first before old source steps now

-- the same of a tree and changes that are the same
pub calm_on : (limit : ℕ) (a b : Old) (lines new : List MarkedLine) → IsSame a b → new ≡ lines
    → IsCalm limit a.reader.tree a.mapper lines → IsCalm limit b.reader.tree b.mapper new
calm_on limit a b lines new same is calm = subst (λ l. IsCalm limit b.reader.tree b.mapper l) (sym is)
    (subst (λ t. IsCalm limit t b.mapper lines) (sym same.tree)
    (subst (λ m. IsCalm limit a.reader.tree m lines) (sym same.changes) calm))

same_back : (a b : Old) → IsSame a b → IsSame b a
same_back a b same = record { tree = sym same.tree; changes = sym same.changes }

-- a fact of a place that holds where both texts are calm
pub calmly_on : (P : Tree → List Change → Length → Type 0) (limit : ℕ) (a b : Old) (lines new : List MarkedLine)
    (at : Length) → IsSame a b → new ≡ lines → Calmly limit a lines P at → Calmly limit b new P at
calmly_on P limit a b lines new at same is holds = λ calm.
    subst (λ t. P t b.mapper at) (sym same.tree) (subst (λ m. P a.reader.tree m at) (sym same.changes)
    (holds (calm_on limit b a new lines (same_back a b same) (sym is) calm)))

pub set_on : (limit : ℕ) (a b : Old) (lines new : List MarkedLine) (at : Length) → IsSame a b → new ≡ lines
    → IsReady b at → IsSet lines limit a at → IsSet new limit b at
set_on limit a b lines new at same is ready set = record {
  ready = ready;
  outside = calmly_on IsOutside limit a b lines new at same is set.outside;
}

pub ahead_on : (a b : Old) (s : Source) → IsSame a b → unsettled_ahead b s ≡ unsettled_ahead a s
ahead_on a b s same = ap (λ t. count_by (is_unsettled t b.mapper) (ahead s)) same.tree
    ∙ ap (λ m. count_by (is_unsettled a.reader.tree m) (ahead s)) same.changes

pub went_on : (limit : ℕ) (s0 s1 s2 : Source) (n0 n1 n2 : ℕ) (o0 o1 o2 : Old) → Went limit s0 n0 o0 s1 n1 o1
    → Went limit s1 n1 o1 s2 n2 o2 → Went limit s0 n0 o0 s2 n2 o2
went_on limit s0 s1 s2 n0 n1 n2 o0 o1 o2 h k =
    let e = ahead_on o0 o1 s1 h.same in let f = ahead_on o0 o1 s2 h.same in record {
      lines = k.lines ∙ h.lines;
      few = omega (arith, h.few, k.few);
      few_given = omega (arith, h.few_given, k.few_given);
      same = record { tree = k.same.tree ∙ h.same.tree; changes = k.same.changes ∙ h.same.changes };
      fresh = λ calm.
          let x = h.fresh calm in let y = k.fresh (calm_on limit o0 o1 s0.lines s1.lines h.same h.lines calm) in
          omega (arith, x, y, e, f);
      fresh_given = λ calm.
          let x = h.fresh_given calm in
          let y = k.fresh_given (calm_on limit o0 o1 s0.lines s1.lines h.same h.lines calm) in omega (arith, x, y, e, f);
    }

pub went_none : (limit : ℕ) (s : Source) (n : ℕ) (o : Old) → Went limit s n o s n o
went_none limit s n o = record {
  lines = refl;
  few = omega arith;
  few_given = omega arith;
  same = record { tree = refl; changes = refl };
  fresh = λ calm. omega arith;
  fresh_given = λ calm. omega arith;
}

-- what is read of the old tree alone
pub went_same : (limit : ℕ) (s : Source) (n : ℕ) (o p : Old) → IsSame o p → Went limit s n o s n p
went_same limit s n o p same = record {
  lines = refl;
  few = omega arith;
  few_given = omega arith;
  same = same;
  fresh = λ calm. omega arith;
  fresh_given = λ calm. omega arith;
}

pub ready_on : (old : Old) (at to : Length) → IsReady old at → (¬ IsLess to at) → IsReady old to
ready_on old at to ready up p from later = ready p from (through at to p up later)
  where
    through : (a b c : Length) → ¬ IsLess b a → ¬ IsLess c b → ¬ IsLess c a
    through a b c h k l = grind (arith, h, k, l)

pub since_on : (limit : ℕ) (a b : Old) (lines new : List MarkedLine) → IsSince limit a lines → IsSame a b
    → new ≡ lines → IsSince limit b new
since_on limit a b lines new since same is = record {
  since = subst (λ l. Since limit b.reader.tree b.mapper l) (sym is)
      (subst (λ t. Since limit t b.mapper lines) (sym same.tree)
      (subst (λ m. Since limit a.reader.tree m lines) (sym same.changes) since.since));
  short = subst AreShort (sym is) since.short;
}
