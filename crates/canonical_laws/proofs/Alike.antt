-- Attempts of a pattern and of its canonical form: the same at every visit.
use Rattle.std.proofs.Common.{◌≡◌, ℕ, zero, suc, ◌+◌, ◌-◌, ◌<◌, List, [], ◌∷◌, ◌++◌, map, replicate, refl, ap}
use Rattle.std.proofs.Common.{◌∙◌, subst}
use Rattle.std.specs.Prelude.{Bool, true, false, ◌&&◌, Option, Some, None, IfSome, nat_lt, nat_le, nat_eq, slice_get}
use Rattle.std.specs.Prelude.{slice_set, unwrap_or}
use Rattle.std.specs.Prelude.{option_map}
use Rattle.std.proofs.lemmas.Option.{slice_get-map, slice_get_within, get_or_from_slice_get}
use Rattle.char_sets.specs.declared.char_set.CharRange.{CharRange}
use Rattle.char_sets.specs.Ranges.{in_set}
use Rattle.pattern_defs.specs.declared.nodes.ListId.{ListId}
use Rattle.pattern_defs.specs.declared.nodes.Arm.{Arm}
use Rattle.pattern_defs.specs.declared.nodes.Anchor.{Anchor}
use Rattle.pattern_defs.specs.declared.nodes.Anchor.TheVariants.{LineStart, LineEnd, First, Mark, End, LastEnd}
use Rattle.pattern_defs.specs.declared.nodes.Anchor.TheVariants.{WordEdge, NoWordEdge}
use Rattle.pattern_defs.specs.declared.nodes.PatNode.{PatNode}
use Rattle.pattern_defs.specs.declared.nodes.PatNode.TheVariants.{One, At, Choice, Group, Repeat, Ahead, Behind}
use Rattle.pattern_defs.specs.declared.nodes.PatNode.TheVariants.{Atomic, Back}
use Rattle.pattern_defs.specs.declared.outcomes.Flags.{Flags}
use Rattle.pattern_defs.specs.declared.outcomes.Place.{Place}
use Rattle.pattern_defs.specs.Patterns.{NodeLists, Tree, nodes_of}
use Rattle.pattern_defs.specs.Attempt.{Subject, Captures, Todo, Node, Close, Again, Ran, Hit, Miss, Spent, Going}
use Rattle.pattern_defs.specs.Attempt.{before, or_else, where_holds, tries, is_char, holds_at, looked, arms_run}
use Rattle.pattern_defs.specs.Attempt.{is_greatest, repeat_ways, repeats, kept_whole, capture_of, stands_again, backs}
use Rattle.pattern_defs.specs.Attempt.{act, look, go_on, with_whole, attempt}
use Rattle.canonical_patterns.specs.Canonical.{AreCodes, set_of, canonical_node, canonical}
use Rattle.canonical_laws.proofs.CodeSets.{set_of-has}

-- what is still to match, with its sets in canonical form
abbrev pub canonical_todo : Todo → Todo
canonical_todo (Node node) = Node (canonical_node node)
canonical_todo (Close number from) = Close number from
canonical_todo (Again body least most greedy count begun) = Again body least most greedy count begun

abbrev pub canonical_lists : NodeLists → NodeLists
canonical_lists lists = map (λ nodes. map canonical_node nodes) lists

abbrev pub canonical_subject : Subject → Subject
canonical_subject s = record s { lists = canonical_lists s.lists }

-- the other goes on from what is still to match in canonical form as the one does from it
pub record GoesAlike (go other : Going) : Type 0 where
  pub alike : (todo : List Todo) (at : ℕ) (captures : Captures) (left : ℕ) →
      other (map canonical_todo todo) at captures left ≡ go todo at captures left

-- ---- lists of nodes

nodes_of-canonical : (lists : NodeLists) (id : ListId) → nodes_of (canonical_lists lists) id
    ≡ map canonical_node (nodes_of lists id)
nodes_of-canonical lists id =
    ap (λ o. unwrap_or o []) (slice_get-map (λ nodes. map canonical_node nodes) lists id.0)
    ∙ by_list (slice_get lists id.0)
  where
    by_list : (o : Option (List PatNode)) → unwrap_or (option_map (λ nodes. map canonical_node nodes) o) []
        ≡ map canonical_node (unwrap_or o [])
    by_list None = refl
    by_list (Some nodes) = refl

nodes-canonical : (nodes : List PatNode) (rest : List Todo) →
    map Node (map canonical_node nodes) ++ map canonical_todo rest ≡ map canonical_todo (map Node nodes ++ rest)
nodes-canonical [] rest = refl
nodes-canonical (node ∷ nodes) rest = ap (λ todo. Node (canonical_node node) ∷ todo) (nodes-canonical nodes rest)

before-canonical : (lists : NodeLists) (id : ListId) (rest : List Todo) →
    before (canonical_lists lists) id (map canonical_todo rest) ≡ map canonical_todo (before lists id rest)
before-canonical lists id rest =
    ap (λ nodes. map Node nodes ++ map canonical_todo rest) (nodes_of-canonical lists id)
    ∙ nodes-canonical (nodes_of lists id) rest

-- ---- single characters and anchors

is_char-canonical : (set : List CharRange) (o : Option ℕ) → IfSome o (λ c. c < 1_114_112) →
    is_char (in_set (set_of (in_set set))) o ≡ is_char (in_set set) o
is_char-canonical set None is_code = refl
is_char-canonical set (Some c) is_code = set_of-has (in_set set) c is_code

codes-at : (text : List ℕ) (at : ℕ) → AreCodes text → IfSome (slice_get text at) (λ c. c < 1_114_112)
codes-at text at codes = by_char (slice_get text at) refl
  where
    by_char : (o : Option ℕ) → slice_get text at ≡ o → IfSome o (λ c. c < 1_114_112)
    by_char None e = tt
    by_char (Some c) e =
        subst (λ n. n < 1_114_112) (get_or_from_slice_get text at c 0 e) (codes at 0 (slice_get_within text at c e))

holds_at-canonical : (anchor : Anchor) (s : Subject) (at : ℕ) → holds_at anchor (canonical_subject s) at
    ≡ holds_at anchor s at
holds_at-canonical LineStart s at = refl
holds_at-canonical LineEnd s at = refl
holds_at-canonical First s at = refl
holds_at-canonical Mark s at = refl
holds_at-canonical End s at = refl
holds_at-canonical LastEnd s at = refl
holds_at-canonical WordEdge s at = refl
holds_at-canonical NoWordEdge s at = refl

-- ---- ways on

module _ (s : Subject) (go other : Going) (goes : GoesAlike go other) where
  list-alike : (id : ListId) (rest : List Todo) (at : ℕ) (captures : Captures) (left : ℕ) →
      other (before (canonical_lists s.lists) id (map canonical_todo rest)) at captures left
      ≡ go (before s.lists id rest) at captures left
  list-alike id rest at captures left =
      ap (λ todo. other todo at captures left) (before-canonical s.lists id rest)
      ∙ goes.alike (before s.lists id rest) at captures left

  where_holds-alike : (b : Bool) (todo : List Todo) (at : ℕ) (captures : Captures) (left : ℕ) →
      where_holds b other (map canonical_todo todo) at captures left ≡ where_holds b go todo at captures left
  where_holds-alike true todo at captures left = goes.alike todo at captures left
  where_holds-alike false todo at captures left = refl

  or_else-alike : (ran : Ran) (next next' : ℕ → Ran) → ((left : ℕ) → next' left ≡ next left)
      → or_else ran next' ≡ or_else ran next
  or_else-alike (Hit at captures left) next next' same = refl
  or_else-alike (Miss left) next next' same = same left
  or_else-alike Spent next next' same = refl

  tries-alike : (ways : List (List Todo)) (at : ℕ) (captures : Captures) (left : ℕ) →
      tries other (map (λ todo. map canonical_todo todo) ways) at captures left ≡ tries go ways at captures left
  tries-alike [] at captures left = refl
  tries-alike (todo ∷ ways) at captures left =
      ap
      (λ ran. or_else ran (λ rest. tries other (map (λ todo. map canonical_todo todo) ways) at captures rest))
      (goes.alike todo at captures left)
      ∙ or_else-alike (go todo at captures left) (λ rest. tries go ways at captures rest)
      (λ rest. tries other (map (λ todo. map canonical_todo todo) ways) at captures rest)
      (λ rest. tries-alike ways at captures rest)

  choices-canonical : (ids : List ListId) (rest : List Todo) →
      map (λ id. before (canonical_lists s.lists) id (map canonical_todo rest)) ids
      ≡ map (λ todo. map canonical_todo todo) (map (λ id. before s.lists id rest) ids)
  choices-canonical [] rest = refl
  choices-canonical (id ∷ ids) rest =
      ap (λ todo. todo ∷ map (λ id. before (canonical_lists s.lists) id (map canonical_todo rest)) ids)
      (before-canonical s.lists id rest)
      ∙ ap (λ ways. map canonical_todo (before s.lists id rest) ∷ ways) (choices-canonical ids rest)

  choice-alike : (ids : List ListId) (rest : List Todo) (at : ℕ) (captures : Captures) (left : ℕ) →
      tries other (map (λ id. before (canonical_lists s.lists) id (map canonical_todo rest)) ids) at captures left
      ≡ tries go (map (λ id. before s.lists id rest) ids) at captures left
  choice-alike ids rest at captures left =
      ap (λ ways. tries other ways at captures left) (choices-canonical ids rest)
      ∙ tries-alike (map (λ id. before s.lists id rest) ids) at captures left

  ways-canonical : (stuck below greatest greedy : Bool) (more rest : List Todo) →
      repeat_ways stuck below greatest greedy (map canonical_todo more) (map canonical_todo rest)
      ≡ map (λ todo. map canonical_todo todo) (repeat_ways stuck below greatest greedy more rest)
  ways-canonical true below greatest greedy more rest = refl
  ways-canonical false true greatest greedy more rest = refl
  ways-canonical false false true greedy more rest = refl
  ways-canonical false false false true more rest = refl
  ways-canonical false false false false more rest = refl

  repeats-alike : (body : ListId) (least : ℕ) (most : Option ℕ) (greedy : Bool) (count begun : ℕ) (rest : List Todo)
      (at : ℕ) (captures : Captures) (left : ℕ) →
      repeats (canonical_subject s) other body least most greedy count begun (map canonical_todo rest) at captures left
      ≡ repeats s go body least most greedy count begun rest at captures left
  repeats-alike body least most greedy count begun rest at captures left =
      ap
      (λ todo. tries other
      (repeat_ways (nat_lt 0 count && nat_eq at begun) (nat_lt count least) (is_greatest most count) greedy todo
      (map canonical_todo rest))
      at captures left)
      (before-canonical s.lists body (Again body least most greedy (count + 1) at ∷ rest))
      ∙ ap (λ ways. tries other ways at captures left)
      (ways-canonical (nat_lt 0 count && nat_eq at begun) (nat_lt count least) (is_greatest most count) greedy
      (before s.lists body (Again body least most greedy (count + 1) at ∷ rest)) rest)
      ∙ tries-alike
      (repeat_ways (nat_lt 0 count && nat_eq at begun) (nat_lt count least) (is_greatest most count) greedy
      (before s.lists body (Again body least most greedy (count + 1) at ∷ rest)) rest)
      at captures left

  -- ---- attempts of their own

  looked-alike : (wanted : Bool) (ran : Ran) (rest : List Todo) (at : ℕ) (captures : Captures) →
      looked wanted ran other (map canonical_todo rest) at captures ≡ looked wanted ran go rest at captures
  looked-alike true (Hit end seen left) rest at captures = goes.alike rest at seen left
  looked-alike true (Miss left) rest at captures = refl
  looked-alike false (Hit end seen left) rest at captures = refl
  looked-alike false (Miss left) rest at captures = goes.alike rest at captures left
  looked-alike true Spent rest at captures = refl
  looked-alike false Spent rest at captures = refl

  own-alike : (id : ListId) (at : ℕ) (captures : Captures) (left : ℕ) →
      other (before (canonical_lists s.lists) id []) at captures left ≡ go (before s.lists id []) at captures left
  own-alike id at captures left = list-alike id [] at captures left

  arm-alike : (b : Bool) (id : ListId) (at : ℕ) (captures : Captures) (left : ℕ) →
      where_holds b other (before (canonical_lists s.lists) id []) at captures left
      ≡ where_holds b go (before s.lists id []) at captures left
  arm-alike true id at captures left = own-alike id at captures left
  arm-alike false id at captures left = refl

  arms_run-alike : (arms : List Arm) (at : ℕ) (captures : Captures) (left : ℕ) →
      arms_run (canonical_subject s) other arms at captures left ≡ arms_run s go arms at captures left
  arms_run-alike [] at captures left = refl
  arms_run-alike (arm ∷ arms) at captures left =
      ap (λ ran. or_else ran (λ rest. arms_run (canonical_subject s) other arms at captures rest))
      (arm-alike (nat_le arm.length at) arm.body (at - arm.length) captures left)
      ∙ or_else-alike
      (where_holds (nat_le arm.length at) go (before s.lists arm.body []) (at - arm.length) captures left)
      (λ rest. arms_run s go arms at captures rest)
      (λ rest. arms_run (canonical_subject s) other arms at captures rest)
      (λ rest. arms_run-alike arms at captures rest)

  kept_whole-alike : (ran : Ran) (rest : List Todo) →
      kept_whole ran other (map canonical_todo rest) ≡ kept_whole ran go rest
  kept_whole-alike (Hit end seen left) rest = goes.alike rest end seen left
  kept_whole-alike (Miss left) rest = refl
  kept_whole-alike Spent rest = refl

  backs-alike : (o : Option Place) (fold : Bool) (rest : List Todo) (at : ℕ) (captures : Captures) (left : ℕ) →
      backs (canonical_subject s) other o fold (map canonical_todo rest) at captures left
      ≡ backs s go o fold rest at captures left
  backs-alike None fold rest at captures left = refl
  backs-alike (Some taken) fold rest at captures left =
      where_holds-alike (stands_again fold s.text taken at) rest (at + (taken.to - taken.from)) captures left

  -- ---- one visit

  act-alike : AreCodes s.text → (first : Todo) (rest : List Todo) (at : ℕ) (captures : Captures) (left : ℕ) →
      act (canonical_subject s) other (canonical_todo first) (map canonical_todo rest) at captures left
      ≡ act s go first rest at captures left
  act-alike codes (Node (One set)) rest at captures left =
      ap (λ b. where_holds b other (map canonical_todo rest) (at + 1) captures left)
      (is_char-canonical set (slice_get s.text at) (codes-at s.text at codes))
      ∙ where_holds-alike (is_char (in_set set) (slice_get s.text at)) rest (at + 1) captures left
  act-alike codes (Node (At anchor)) rest at captures left =
      ap (λ b. where_holds b other (map canonical_todo rest) at captures left) (holds_at-canonical anchor s at)
      ∙ where_holds-alike (holds_at anchor s at) rest at captures left
  act-alike codes (Node (Choice ids)) rest at captures left = choice-alike ids rest at captures left
  act-alike codes (Node (Group number body)) rest at captures left =
      list-alike body (Close number at ∷ rest) at captures left
  act-alike codes (Node (Repeat body least most greedy)) rest at captures left =
      repeats-alike body least most greedy 0 at rest at captures left
  act-alike codes (Node (Ahead body wanted)) rest at captures left =
      ap (λ ran. looked wanted ran other (map canonical_todo rest) at captures) (own-alike body at captures left)
      ∙ looked-alike wanted (go (before s.lists body []) at captures left) rest at captures
  act-alike codes (Node (Behind arms wanted)) rest at captures left =
      ap (λ ran. looked wanted ran other (map canonical_todo rest) at captures) (arms_run-alike arms at captures left)
      ∙ looked-alike wanted (arms_run s go arms at captures left) rest at captures
  act-alike codes (Node (Atomic body)) rest at captures left =
      ap (λ ran. kept_whole ran other (map canonical_todo rest)) (own-alike body at captures left)
      ∙ kept_whole-alike (go (before s.lists body []) at captures left) rest
  act-alike codes (Node (Back number fold)) rest at captures left =
      backs-alike (capture_of captures number) fold rest at captures left
  act-alike codes (Close number from) rest at captures left =
      goes.alike rest at (slice_set captures number (Some (record { from = from; to = at }))) left
  act-alike codes (Again body least most greedy count begun) rest at captures left =
      repeats-alike body least most greedy count begun rest at captures left

  look-alike : AreCodes s.text → (todo : List Todo) (at : ℕ) (captures : Captures) (left : ℕ) →
      look (canonical_subject s) other (map canonical_todo todo) at captures left ≡ look s go todo at captures left
  look-alike codes todo at captures zero = refl
  look-alike codes [] at captures (suc left) = refl
  look-alike codes (first ∷ rest) at captures (suc left) = act-alike codes first rest at captures left

-- ---- attempts

go_on-alike : (s : Subject) (fuel : ℕ) → AreCodes s.text → GoesAlike (go_on s fuel) (go_on (canonical_subject s) fuel)
unfolding go_on
go_on-alike s zero codes = record { alike = λ todo at captures left. refl }
go_on-alike s (suc fuel) codes =
    record {
      alike = look-alike s (go_on s fuel) (go_on (canonical_subject s) fuel) (go_on-alike s fuel codes) codes;
    }

pub attempt-canonical : (tree : Tree) (text : List ℕ) (at : ℕ) (flags : Flags) (budget : ℕ) → AreCodes text →
    attempt (canonical tree) text at flags budget ≡ attempt tree text at flags budget
attempt-canonical tree text at flags budget codes =
    ap (with_whole at)
    (list-alike subject (go_on subject budget) (go_on (canonical_subject subject) budget)
    (go_on-alike subject budget codes) tree.top [] at (replicate (tree.groups + 1) None) budget)
  where
    subject : Subject
    subject = record { lists = tree.lists; text = text; flags = flags }
