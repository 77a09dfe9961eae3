-- Which nodes miss without a character of a set, by cases on the first of them.
use Rattle.std.proofs.Common.{◌≡◌, ℕ, ◌+◌, ◌<◌, ◌≤◌, Bool, true, false, List, [], ◌∷◌, ◌++◌, map}
use Rattle.std.proofs.Common.{Option, Some, None, refl, sym, ◌∙◌, subst, arith}
use Rattle.std.proofs.lemmas.Bool.{lt-ltb, false≢true}
use Rattle.std.specs.Prelude.{Result, Ok, Err, IfOk, nat_lt, slice_get, IfSome, IsSomeAnd, replicate}
use Rattle.char_sets.specs.Ranges.{in_set}
use Rattle.char_sets.specs.declared.char_set.CharRange.{CharRange}
use Rattle.pattern_defs.specs.declared.nodes.ListId.{ListId}
use Rattle.pattern_defs.specs.declared.nodes.Arm.{Arm}
use Rattle.pattern_defs.specs.declared.nodes.Anchor.{Anchor}
use Rattle.pattern_defs.specs.declared.nodes.PatNode.{PatNode}
use Rattle.pattern_defs.specs.declared.nodes.PatNode.TheVariants.{One, At, Choice, Group, Ahead, Behind}
use Rattle.pattern_defs.specs.declared.outcomes.Flags.{Flags}
use Rattle.pattern_defs.specs.Patterns.{NodeLists, Tree, nodes_of}
use Rattle.pattern_defs.specs.Attempt.{Subject, Todo, Node, Close, Again, Captures, Ran, Hit, Miss, Spent, is_char}
use Rattle.pattern_defs.specs.Attempt.{go_on, before, repeat_ways, is_greatest, with_whole}
use Rattle.onig_scan.specs.declared.front.Front.{Front}
use Rattle.onig_scan.specs.Runs.{AllEnd, EndsWith, EndsFrom, Nowhere}
use Rattle.onig_scan.specs.Bounds.{subject_of, IsBound, AreArmBounds}
use Rattle.onig_scan.specs.Fronts.{IsWithout, IsBare, Stays, IsFrontOf, IsBehind, IsFront, AreFronts, IsWithin}
use Rattle.onig_scan.specs.Fronts.{IsWider, IsFrontOfOwn, IsFrontOfRepeat, IsFrontOfAll}
use Rattle.onig_scan.proofs.Runs.{at_more, ends_where, ends_looked, from_act, ends_empty, ends_At}
use Rattle.onig_scan.proofs.Runs.{ends_Close, ends_Group, ends_Choice, ends_Ahead, ends_needed, ends_whole}
use Rattle.onig_scan.proofs.Runs.{ends_Atomic, ends_Repeat, ends_stuck, ends_narrow}
use Rattle.onig_scan.proofs.BoundLaws.{own_bound, arms_bound}

-- a wider front

without_within : (small large : List CharRange) (text : List ℕ) (at : ℕ) → IsWithin small large
    → IsWithout large text at → IsWithout small text at
without_within small large text at within without =
    record { scalar = without.scalar; without = by_char (slice_get text at) without.scalar without.without }
  where
    by_test : (c : ℕ) (b : Bool) → in_set small c ≡ b → c < 1_114_112 → in_set large c ≡ false → b ≡ false
    by_test c false is scalar none = refl
    by_test c true is scalar none = let there : in_set large c ≡ true = within c scalar is in cc

    by_char : (o : Option ℕ) → IfSome o (λ c. c < 1_114_112) → is_char (in_set large) o ≡ false
        → is_char (in_set small) o ≡ false
    by_char None scalar none = refl
    by_char (Some c) scalar none = by_test c (in_set small c) refl scalar none

bare_within : (small large : List CharRange) (text : List ℕ) (place at : ℕ) → IsWithin small large
    → IsBare large text place at → IsBare small text place at
bare_within small large text place at within bare =
    record { here = bare.here; bare = without_within small large text place within bare.bare }

stays_wider : (small large : Bool) (place to : ℕ) → (small ≡ true → large ≡ true) → Stays small place to
    → Stays large place to
stays_wider false large place to wider stays = absurd stays
stays_wider true false place to wider stays = absurd (false≢true (wider refl))
stays_wider true true place to wider stays = stays

front_wider : (s : Subject) (place : ℕ) (todo : List Todo) (small large : Front) (cost : ℕ) → IsWider small large →
    IsFrontOf s place todo small cost → IsFrontOf s place todo large cost
front_wider s place todo small large cost wider is =
    ends_narrow todo cost (λ at bare. bare_within small.set large.set s.text place at wider.set bare)
    (λ to stays. stays_wider small.stays large.stays place to wider.stays stays) is

pub IsFront-wider : (lists : NodeLists) (nodes : List PatNode) (behind : Option Front) (small large : Front)
    (cost : ℕ) → IsWider small large →
    IsFront lists nodes behind small cost → IsFront lists nodes behind large cost
IsFront-wider lists nodes behind small large cost wider is =
    record {
      front = λ text flags place rest it. front_wider (subject_of lists text flags) place
          (map Node nodes ++ rest) small large cost wider (is.front text flags place rest it);
    }

pub AreFronts-wider : (lists : NodeLists) (ids : List ListId) (behind : Option Front) (small large : Front) (cost : ℕ)
    → IsWider small large →
    AreFronts lists ids behind small cost → AreFronts lists ids behind large cost
AreFronts-wider lists [] behind small large cost wider are = tt
AreFronts-wider lists (id ∷ ids) behind small large cost wider are = (
  are.0,
  are.1,
  are.2,
  IsFront-wider lists (nodes_of lists id) behind small large are.0 wider are.3,
  AreFronts-wider lists ids behind small large are.1 wider are.4,
)

pub AreFronts-push : (lists : NodeLists) (ids : List ListId) (id : ListId) (behind : Option Front) (f : Front)
    (cost last all : ℕ) → all ≡ cost + last →
    AreFronts lists ids behind f cost → IsFront lists (nodes_of lists id) behind f last
    → AreFronts lists (ids ++ id ∷ []) behind f all
AreFronts-push lists [] id behind f cost last all sum are is = (last, 0, omega arith, is, tt)
AreFronts-push lists (i ∷ ids) id behind f cost last all sum are is =
    let fits : are.0 + are.1 ≤ cost = are.2 in (
      are.0,
      are.1 + last,
      omega arith,
      are.3,
      AreFronts-push lists ids id behind f are.1 last (are.1 + last) refl
          are.4 is,
    )

-- nodes

pub IsFront-nil : (lists : NodeLists) (f : Front) → IsFront lists [] (Some f) f f.cost
IsFront-nil lists f = record { front = λ text flags place rest it. it }

pub IsFront-cons : (lists : NodeLists) (first : PatNode) (nodes : List PatNode) (behind after : Option Front)
    (f : Front) (cost : ℕ) →
    IfSome after (λ a. IsFront lists nodes behind a a.cost) → IsFront lists (first ∷ []) after f cost
    → IsFront lists (first ∷ nodes) behind f cost
IsFront-cons lists first nodes behind None f cost others is =
    record { front = λ text flags place rest it. is.front text flags place (map Node nodes ++ rest) tt }
IsFront-cons lists first nodes behind (Some a) f cost others is =
    record {
      front = λ text flags place rest it. is.front text flags place (map Node nodes ++ rest)
          (others.front text flags place rest it);
    }

pub IsFront-One : (lists : NodeLists) (set : List CharRange) (nodes : List PatNode) (behind : Option Front)
    (stays : Bool) (cost : ℕ) →
    IsFront lists (One set ∷ nodes) behind (record { set = set; cost = cost; stays = stays }) 1
IsFront-One lists set nodes behind stays cost =
    record {
      front = λ text flags place rest it. from_act (Node (One set)) (map Node nodes ++ rest) 0
          (λ fuel at captures left bare enough fits.
          let none : is_char (in_set set) (slice_get text at) ≡ false = rw bare.here bare.bare.without in
          ends_where (is_char (in_set set) (slice_get text at)) (go_on (subject_of lists text flags) fuel)
          (map Node nodes ++ rest) (at + 1) captures left 0
          (λ there. absurd (false≢true (sym none ∙ there))));
    }

pub IsFront-At : (lists : NodeLists) (anchor : Anchor) (f : Front)
    → IsFront lists (At anchor ∷ []) (Some f) f (f.cost + 1)
IsFront-At lists anchor f = record { front = λ text flags place rest it. ends_At anchor rest f.cost it }

pub at_front : (lists : NodeLists) (anchor : Anchor) (after : Option Front) (f : Front) → IsSomeAnd after (λ g. f ≡ g) →
    IsFront lists (At anchor ∷ []) after f (f.cost + 1)
at_front lists anchor None f same = absurd same
at_front lists anchor (Some a) f same =
    let There : Front → Type 0 = λ x. IsFront lists (At anchor ∷ []) (Some a) x (x.cost + 1) in
    subst There (sym same) (IsFront-At lists anchor a)

pub IsFront-Group : (lists : NodeLists) (number : ℕ) (body : ListId) (after closed : Option Front) (f : Front) →
    IfSome closed (λ g. IsSomeAnd after (λ a. g ≡ record a { cost = a.cost + 1 })) →
    IsFront lists (nodes_of lists body) closed f f.cost → IsFront lists (Group number body ∷ []) after f (f.cost + 1)
IsFront-Group lists number body after None f close is =
    record {
      front = λ text flags place rest it. ends_Group number body rest f.cost
          (λ at. is.front text flags place (Close number at ∷ rest) tt);
    }
IsFront-Group lists number body None (Some g) f close is = absurd close
IsFront-Group lists number body (Some a) (Some g) f close is =
    record {
      front = λ text flags place rest it. ends_Group number body rest f.cost (λ at.
          let Behind : Front → Type 0 = λ b. IsFrontOf (subject_of lists text flags) place (Close number at ∷ rest) b
          b.cost in
          is.front text flags place (Close number at ∷ rest)
          (subst Behind (sym close) (ends_Close number at rest a.cost it)));
    }

all_fronts : (lists : NodeLists) (ids : List ListId) (behind : Option Front) (f : Front) (cost : ℕ)
    → AreFronts lists ids behind f cost →
    (text : List ℕ) (flags : Flags) (place : ℕ) (rest : List Todo)
    → IsBehind (subject_of lists text flags) place rest behind →
    AllEnd (subject_of lists text flags) (IsBare f.set text place) (Stays f.stays place)
    (map (λ id. before lists id rest) ids) cost
all_fronts lists [] behind f cost are text flags place rest it = tt
all_fronts lists (id ∷ ids) behind f cost are text flags place rest it = (
  are.0,
  are.1,
  are.2,
  (are.3).front text flags place rest it,
  all_fronts lists ids behind f are.1 are.4 text flags
      place rest it,
)

pub IsFront-Choice : (lists : NodeLists) (ids : List ListId) (after : Option Front) (f : Front) (cost : ℕ)
    → AreFronts lists ids after f cost →
    IsFront lists (Choice ids ∷ []) after f (cost + 1)
IsFront-Choice lists ids after f cost are =
    record {
      front = λ text flags place rest it. ends_Choice ids rest cost
          (all_fronts lists ids after f cost are text flags place rest it);
    }

-- lookaround whose visits are bounded

pub IsFront-Ahead : (lists : NodeLists) (body : ListId) (wanted : Bool) (after : Option Front) (f : Front)
    (visits : ℕ) →
    IsBound lists (nodes_of lists body) 1 visits → IsSomeAnd after (λ a. f ≡ record a { cost = a.cost + visits }) →
    IsFront lists (Ahead body wanted ∷ []) after f (f.cost + 1)
IsFront-Ahead lists body wanted None f visits bound is = absurd is
IsFront-Ahead lists body wanted (Some a) f visits bound is =
    let Found : Front → Type 0 = λ g. IsFront lists (Ahead body wanted ∷ []) (Some a) g (g.cost + 1) in
    subst Found (sym is) (record {
      front = λ text flags place rest it.
          let one : EndsFrom (subject_of lists text flags) (IsBare a.set text place) (Stays a.stays place)
          (Node (Ahead body wanted) ∷ rest) (visits + a.cost + 1) =
          ends_Ahead body wanted rest visits a.cost
          (ends_narrow (before lists body []) visits (λ at bare. tt) (λ to end. end)
          (own_bound lists body visits bound text flags)) it in
          more_cost _ _ _ _ (visits + a.cost + 1) (a.cost + visits + 1) (omega arith) one;
    })
  where
    more_cost : (s : Subject) (From P : ℕ → Type 0) (todo : List Todo) (cost more : ℕ) → cost ≡ more
        → EndsFrom s From P todo cost → EndsFrom s From P todo more
    more_cost s From P todo cost more e is = let Ends : ℕ → Type 0 = λ n. EndsFrom s From P todo n in subst Ends e is

pub IsFront-Behind : (lists : NodeLists) (arms : List Arm) (wanted : Bool) (after : Option Front) (f : Front)
    (visits : ℕ) →
    AreArmBounds lists arms visits → IsSomeAnd after (λ a. f ≡ record a { cost = a.cost + visits }) →
    IsFront lists (Behind arms wanted ∷ []) after f (f.cost + 1)
IsFront-Behind lists arms wanted None f visits bound is = absurd is
IsFront-Behind lists arms wanted (Some a) f visits bound is =
    let Found : Front → Type 0 = λ g. IsFront lists (Behind arms wanted ∷ []) (Some a) g (g.cost + 1) in
    subst Found (sym is) (record {
      front = λ text flags place rest it.
          from_act (Node (Behind arms wanted)) rest (a.cost + visits) (λ fuel at captures left bare enough fits.
          let enough' : visits + a.cost ≤ left = omega arith in
          at_more _ left (visits + a.cost) (a.cost + visits) (omega arith)
          (ends_looked wanted _ (go_on (subject_of lists text flags) fuel) rest at captures left visits a.cost enough'
          (arms_bound lists text flags arms visits fuel at captures left bound (omega arith) fits)
          (λ seen l more below. it.ends fuel at seen l bare more (omega arith))));
    })

-- lists that are run by themselves

-- what is run by itself, before the end of its list
own_front : (lists : NodeLists) (body : ListId) (f : Front) (text : List ℕ) (flags : Flags) (place : ℕ) →
    IsFront lists (nodes_of lists body) (Some (record { set = []; cost = 1; stays = true })) f f.cost →
    IsFrontOf (subject_of lists text flags) place (before lists body []) f f.cost
own_front lists body f text flags place own = own.front text flags place [] (ends_empty (λ at bare. bare.here))

own_misses : (lists : NodeLists) (body : ListId) (f : Front) (text : List ℕ) (flags : Flags) (place : ℕ) → f.stays
    ≡ false →
    IsFront lists (nodes_of lists body) (Some (record { set = []; cost = 1; stays = true })) f f.cost →
    EndsFrom (subject_of lists text flags) (IsBare f.set text place) Nowhere (before lists body []) f.cost
own_misses lists body f text flags place stays own =
    let Staying : ℕ → Bool → Type 0 = λ to b. Stays b place to in
    ends_narrow (before lists body []) f.cost (λ at bare. bare) (λ to there. subst (Staying to) stays there)
    (own_front lists body f text flags place own)

-- a list that is run by itself and needs a character
pub IsFrontOfOwn-some : (lists : NodeLists) (body : ListId) (after : Option Front) (f : Front) → f.stays ≡ false →
    IsFront lists (nodes_of lists body) (Some (record { set = []; cost = 1; stays = true })) f f.cost
    → IsFrontOfOwn lists body after f f.cost
IsFrontOfOwn-some lists body after f stays own =
    record {
      atomic = record {
        front = λ text flags place rest it. ends_whole body rest f.cost
            (own_misses lists body f text flags place stays own);
      };
      ahead = record {
        front = λ text flags place rest it. ends_needed body rest f.cost
            (own_misses lists body f text flags place stays own);
      };
    }

-- a lookahead, wanted or not
pub IsFrontOfBoth : (lists : NodeLists) (body : ListId) (wanted : Bool) (inner a f : Front) → IsWithin inner.set f.set
    → IsWithin a.set f.set →
    f.stays ≡ a.stays → f.cost ≡ inner.cost + a.cost →
    IsFront lists (nodes_of lists body) (Some (record { set = []; cost = 1; stays = true })) inner inner.cost
    → IsFront lists (Ahead body wanted ∷ []) (Some a) f (f.cost + 1)
IsFrontOfBoth lists body wanted inner a f inside behind stays cost own =
    record {
      front = λ text flags place rest it. at_cost _ _ _ _
          (ends_Ahead body wanted rest inner.cost a.cost (first text flags place) (others text flags place rest it));
    }
  where
    first : (text : List ℕ) (flags : Flags) (place : ℕ) →
        EndsFrom (subject_of lists text flags) (IsBare f.set text place) (Stays inner.stays place)
        (before lists body []) inner.cost
    first text flags place =
        ends_narrow (before lists body []) inner.cost
        (λ at bare. bare_within inner.set f.set text place at inside bare) (λ to there. there)
        (own_front lists body inner text flags place own)

    others : (text : List ℕ) (flags : Flags) (place : ℕ) (rest : List Todo)
        → IsFrontOf (subject_of lists text flags) place rest a a.cost →
        EndsFrom (subject_of lists text flags) (IsBare f.set text place) (Stays f.stays place) rest a.cost
    others text flags place rest it =
        ends_narrow rest a.cost (λ at bare. bare_within a.set f.set text place at behind bare)
        (λ to there. let Staying : Bool → Type 0 = λ b. Stays b place to in subst Staying (sym stays) there) it

    at_cost : (s : Subject) (From P : ℕ → Type 0) (todo : List Todo)
        → EndsFrom s From P todo (inner.cost + a.cost + 1) → EndsFrom s From P todo (f.cost + 1)
    at_cost s From P todo is = let Ends : ℕ → Type 0 = λ n. EndsFrom s From P todo (n + 1) in subst Ends (sym cost) is

-- one that may take nothing
pub IsFrontOfOwn-none : (lists : NodeLists) (body : ListId) (inner a f : Front) → IsWithin inner.set f.set
    → IsWithin a.set f.set →
    f.stays ≡ a.stays → f.cost ≡ inner.cost + a.cost →
    IsFront lists (nodes_of lists body) (Some (record { set = []; cost = 1; stays = true })) inner inner.cost
    → IsFrontOfOwn lists body (Some a) f f.cost
IsFrontOfOwn-none lists body inner a f inside behind stays cost own =
    record {
      atomic = record {
        front = λ text flags place rest it. at_cost _ _ _ _
            (ends_Atomic body rest inner.cost a.cost (λ at to bare there. record { here = there; bare = bare.bare })
            (first text flags place) (others text flags place rest it));
      };
      ahead = IsFrontOfBoth lists body true inner a f inside behind stays cost own;
    }
  where
    first : (text : List ℕ) (flags : Flags) (place : ℕ) →
        EndsFrom (subject_of lists text flags) (IsBare f.set text place) (λ to. to ≡ place) (before lists body [])
        inner.cost
    first text flags place =
        ends_narrow (before lists body []) inner.cost
        (λ at bare. bare_within inner.set f.set text place at inside bare)
        (λ to there. staying inner.stays place to there)
        (own_front lists body inner text flags place own)
      where
        staying : (b : Bool) (place to : ℕ) → Stays b place to → to ≡ place
        staying true place to there = there
        staying false place to there = absurd there

    others : (text : List ℕ) (flags : Flags) (place : ℕ) (rest : List Todo)
        → IsFrontOf (subject_of lists text flags) place rest a a.cost →
        EndsFrom (subject_of lists text flags) (IsBare f.set text place) (Stays f.stays place) rest a.cost
    others text flags place rest it =
        ends_narrow rest a.cost (λ at bare. bare_within a.set f.set text place at behind bare)
        (λ to there. let Staying : Bool → Type 0 = λ b. Stays b place to in subst Staying (sym stays) there) it

    at_cost : (s : Subject) (From P : ℕ → Type 0) (todo : List Todo)
        → EndsFrom s From P todo (inner.cost + a.cost + 1) → EndsFrom s From P todo (f.cost + 1)
    at_cost s From P todo is = let Ends : ℕ → Type 0 = λ n. EndsFrom s From P todo (n + 1) in subst Ends (sym cost) is

-- repeats

-- the list again behind itself: where it took nothing, the repeat ends
again_front : (lists : NodeLists) (body : ListId) (least : ℕ) (most : Option ℕ) (greedy : Bool) (text : List ℕ)
    (flags : Flags) (place begun : ℕ) (rest : List Todo) (a : Front) →
    begun ≡ place → IsFrontOf (subject_of lists text flags) place rest a a.cost →
    IsFrontOf (subject_of lists text flags) place (Again body least most greedy 1 begun ∷ rest) a (a.cost + 1)
again_front lists body least most greedy text flags place begun rest a same it =
    ends_stuck body least most greedy begun rest a.cost (λ at bare. bare.here ∙ sym same) it

-- what stands behind the list
again_behind : (lists : NodeLists) (body : ListId) (least : ℕ) (most : Option ℕ) (greedy : Bool) (text : List ℕ)
    (flags : Flags) (place begun : ℕ) (rest : List Todo) (after again : Option Front) →
    IfSome again (λ g. IsSomeAnd after (λ a. g ≡ record a { cost = a.cost + 1 })) → begun ≡ place
    → IsBehind (subject_of lists text flags) place rest after →
    IsBehind (subject_of lists text flags) place (Again body least most greedy 1 begun ∷ rest) again
again_behind lists body least most greedy text flags place begun rest after None is same it = tt
again_behind lists body least most greedy text flags place begun rest None (Some g) is same it = absurd is
again_behind lists body least most greedy text flags place begun rest (Some a) (Some g) is same it =
    let Behind : Front → Type 0 = λ b. IsFrontOf (subject_of lists text flags) place
    (Again body least most greedy 1 begun ∷ rest) b b.cost in
    subst Behind (sym is) (again_front lists body least most greedy text flags place begun rest a same it)

-- a repeat that takes something: its body alone
pub IsFrontOfRepeat-some : (lists : NodeLists) (body : ListId) (least : ℕ) (after again : Option Front) (f : Front)
    → 0 < least →
    IfSome again (λ g. IsSomeAnd after (λ a. g ≡ record a { cost = a.cost + 1 })) →
    IsFront lists (nodes_of lists body) again f f.cost → IsFrontOfRepeat lists body least after f f.cost
IsFrontOfRepeat-some lists body least after again f some more is =
    record {
      is = λ most greedy. record {
        front = λ text flags place rest it.
            ends_Repeat body least most greedy rest f.cost (λ at bare.
            by_case (subject_of lists text flags) (IsBare f.set text place) (Stays f.stays place)
            (before lists body (Again body least most greedy 1 at ∷ rest)) rest
            (is.front text flags place (Again body least most greedy 1 at ∷ rest)
            (again_behind lists body least most greedy text flags place at rest after again more bare.here it))
            (nat_lt 0 least) (lt-ltb 0 least some) (is_greatest most 0) greedy);
      };
    }
  where
    by_case : (s : Subject) (From P : ℕ → Type 0) (more rest : List Todo) → EndsFrom s From P more f.cost
        → (below : Bool) → below ≡ true → (greatest greedy : Bool) →
        AllEnd s From P (repeat_ways false below greatest greedy more rest) f.cost
    by_case s From P more rest one true is greatest greedy = (f.cost, 0, omega arith, one, tt)
    by_case s From P more rest one false is greatest greedy = absurd (false≢true is)

-- one that may take nothing: its body and what follows it
pub IsFrontOfRepeat-none : (lists : NodeLists) (body : ListId) (least : ℕ) (a inner f : Front) (again : Option Front) →
    IfSome again (λ g. g ≡ record a { cost = a.cost + 1 }) → IsWider inner f → IsWider a f → f.cost
    ≡ inner.cost + a.cost →
    IsFront lists (nodes_of lists body) again inner inner.cost → IsFrontOfRepeat lists body least (Some a) f f.cost
IsFrontOfRepeat-none lists body least a inner f again more inside behind cost is =
    record {
      is = λ most greedy. record {
        front = λ text flags place rest it.
            ends_Repeat body least most greedy rest f.cost (λ at bare.
            by_case (subject_of lists text flags) (IsBare f.set text place) (Stays f.stays place)
            (before lists body (Again body least most greedy 1 at ∷ rest)) rest
            (front_wider (subject_of lists text flags) place _ inner f inner.cost inside
            (is.front text flags place (Again body least most greedy 1 at ∷ rest)
            (again_behind lists body least most greedy text flags place at rest (Some a) again more bare.here it)))
            (front_wider (subject_of lists text flags) place rest a f a.cost behind it)
            (nat_lt 0 least) (is_greatest most 0) greedy);
      };
    }
  where
    fits : inner.cost + a.cost ≤ f.cost
    fits = omega (arith, cost)

    by_case : (s : Subject) (From P : ℕ → Type 0) (more rest : List Todo) → EndsFrom s From P more inner.cost
        → EndsFrom s From P rest a.cost → (below greatest greedy : Bool) →
        AllEnd s From P (repeat_ways false below greatest greedy more rest) f.cost
    by_case s From P more rest one other true greatest greedy = (inner.cost, 0, omega arith, one, tt)
    by_case s From P more rest one other false true greedy = (a.cost, 0, omega arith, other, tt)
    by_case s From P more rest one other false false true =
        (inner.cost, a.cost, fits, one, (a.cost, 0, omega arith, other, tt))
    by_case s From P more rest one other false false false =
        (a.cost, inner.cost, omega (arith, cost), other, (inner.cost, 0, omega arith, one, tt))

-- a whole pattern

pub IsFrontOfAll-top : (tree : Tree) (f : Front) → f.stays ≡ false
    → IsFront tree.lists (nodes_of tree.lists tree.top) None f f.cost → IsFrontOfAll tree f.set f.cost
IsFrontOfAll-top tree f stays is =
    record {
      misses = λ text at flags budget without enough.
          let none : Captures = replicate (tree.groups + 1) None in
          let ran : Ran = go_on (subject_of tree.lists text flags) budget (before tree.lists tree.top []) at none
          budget in
          let ends : EndsWith (Stays f.stays at) ran budget f.cost =
          (is.front text flags at [] tt).ends budget at none budget (record { here = refl; bare = without }) enough
          (omega arith) in
          let Ends : Bool → Type 0 = λ b. EndsWith (Stays b at) ran budget f.cost in
          by_ran at budget ran (subst Ends stays ends);
    }
  where
    by_ran : (at budget : ℕ) (ran : Ran) → EndsWith (Stays false at) ran budget f.cost → (rest : ℕ)
        × (with_whole at ran ≡ Miss rest)
    by_ran at budget (Hit to captures left) e = absurd e.ends
    by_ran at budget (Miss left) e = (left, refl)
    by_ran at budget Spent e = absurd e.ends

-- what holds of a found value

pub lifted : {A E : Type 0} (P Q : A → Type 0) (r : Result (Option A) E) → ((a : A) → P a → Q a)
    → IfOk r (λ o. IfSome o P) → IfOk r (λ o. IfSome o Q)
lifted P Q (Ok None) f h = tt
lifted P Q (Ok (Some a)) f h = f a h
lifted P Q (Err e) f h = tt

pub if_found : {A : Type 0} (P Q : A → Type 0) (o : Option A) → ((a : A) → P a → Q a) → IfSome o P → IfSome o Q
if_found P Q None f h = tt
if_found P Q (Some a) f h = f a h

-- a copy at so many visits more
pub copied_more : (after copy more : Option Front) (visits : ℕ) → IfSome copy (λ f. IsSomeAnd after (λ g. f ≡ g)) →
    IfSome more (λ f. IsSomeAnd copy (λ g. f ≡ record g { cost = g.cost + visits })) →
    IfSome more (λ f. IsSomeAnd after (λ a. f ≡ record a { cost = a.cost + visits }))
copied_more after copy None visits same is = tt
copied_more after None (Some f) visits same is = absurd is
copied_more None (Some g) (Some f) visits same is = absurd same
copied_more (Some a) (Some g) (Some f) visits same is =
    let More : Front → Type 0 = λ x. f ≡ record x { cost = x.cost + visits } in
    subst More same is

-- the same front, where it is copied
pub copied_front : (P : Front → Type 0) (Q : Option Front → Front → Type 0) (after copy : Option Front)
    → ((a : Front) → P a → Q (Some a) a) →
    IfSome after P → IfSome copy (λ f. IsSomeAnd after (λ g. f ≡ g)) → IfSome copy (λ f. Q after f)
copied_front P Q after None holds is same = tt
copied_front P Q None (Some f) holds is same = absurd same
copied_front P Q (Some a) (Some f) holds is same =
    let There : Front → Type 0 = λ x. Q (Some a) x in
    subst There (sym same) (holds a is)

pub any_front : (o : Option Front) → IfSome o (λ f. Unit {0})
any_front None = tt
any_front (Some f) = tt

-- a front at so many visits more
pub more_front : (Q : Front → ℕ → Type 0) (visits : ℕ) (front more : Option Front)
    → IfSome front (λ f. Q f (f.cost + visits)) →
    ((f : Front) (cost : ℕ) → Q f cost → Q (record f { cost = f.cost + visits }) cost) →
    IfSome more (λ f. IsSomeAnd front (λ g. f ≡ record g { cost = g.cost + visits })) → IfSome more (λ f. Q f f.cost)
more_front Q visits front None is same more = tt
more_front Q visits None (Some f) is same more = absurd more
more_front Q visits (Some g) (Some f) is same more =
    let There : Front → Type 0 = λ x. Q x x.cost in
    subst There (sym more) (same g (g.cost + visits) is)

-- the number of its visits is no part of what a front says
pub IsFront-cost : (lists : NodeLists) (nodes : List PatNode) (behind : Option Front) (f : Front) (visits cost : ℕ) →
    IsFront lists nodes behind f cost → IsFront lists nodes behind (record f { cost = visits }) cost
IsFront-cost lists nodes behind f visits cost is = record { front = is.front }
