-- Where the reader of an old tree finds no node with a row, no closed pair can be reused that starts there.
use Rattle.std.proofs.Common.{◌≡◌, ◌<◌, List, true, Option, Some, None, sym, ◌∙◌, subst, arith}
use Rattle.std.proofs.lemmas.Bool.Decides.{nat_tests}
use Rattle.text_pos.specs.declared.length.Length.{Length}
use Rattle.text_pos.specs.Lengths.{plus, IsLess}
use Rattle.change_defs.specs.declared.Change.{Change}
use Rattle.change_defs.specs.Changes.{before, distance}
use Rattle.change_laws.proofs.Order.{plus_less}
use Rattle.node_reader.specs.Asks as asks
use Rattle.node_reader.specs.Asks.{IsPassing, IsLongest}
use Rattle.node_reader.specs.Laws.{IsBest}
use Rattle.node_reader.specs.Starts.{is_some, starting}
use Rattle.node_reader.specs.declared.ask.Ask.{Ask}
use Rattle.node_reader.proofs.Nested.{longest}
use Rattle.tree_defs.specs.Tree.{Tree, is_bare}
use Rattle.tree_defs.specs.Shape.{length_of}
use Rattle.tree_defs.specs.Cuts as cuts
use Rattle.tree_defs.specs.Rows.{start}
use Rattle.reuse_defs.specs.Settled.{node_of}
use Rattle.reuse_parser.specs.declared.place.Around.{Around}
use Rattle.reuse_parser.specs.Reusing.{HasRoom}
use Rattle.reuse_parser.specs.Counting.{NonePasses}
use Rattle.reuse_parser.proofs.AheadOf.{up_to, from_plus}
use Rattle.reuse_parser.proofs.Moved.{not_is_less, is_less_not}
use Rattle.reuse_parser.proofs.Starting.{first_in, part_of, Part}
use Rattle.reuse_parser.proofs.Beside.{Beside, beside, bare_no_pair, pair_starts}
use Rattle.reuse_parser.proofs.Beside as side
use Rattle.reuse_parser.proofs.Outside.{less_itself, then_up}

abbrev pub IsBareIf : Option Tree → Type 0
IsBareIf None = Unit {0}
IsBareIf (Some t) = is_bare t ≡ true

has_room_is : (r : Option Length) (len : Length) → HasRoom r len → asks.HasRoom r len
has_room_is None len room = tt
has_room_is (Some r) len room = room

some_long : (o i c : Length) → 0 < o.cols → is_some (plus (plus o i) c) ≡ true
some_long o i c some = grind (arith, nat_tests)

pub none_passes : (t : Tree) (changes : List Change) (a : Around) (at from : Length) (room : Option Length)
    (found : Option Tree) → before changes at ≡ Some from → room ≡ distance changes at
    → IsLongest (record { above = a.above; level = a.level; limit = a.limit; room = room }) t from found
    → IsBareIf found → NonePasses t changes a at
none_passes t changes a at from room found here is answer bare p there opener before_at fits can =
    let ask : Ask = record { above = a.above; level = a.level; limit = a.limit; room = room } in
    let same : from ≡ p.from = some_same from p.from (sym here ∙ before_at) in
    let some : is_some (length_of (node_of p)) ≡ true = some_long p.opener (length_of p.inside) p.closer opener.1 in
    let among : cuts.IsIn (node_of p) (starting t p.from) = pair_starts t start p some there in
    let lng : IsLongest ask t p.from found = subst (λ q. IsLongest ask t q found) same answer in
    let passing : IsPassing ask (node_of p) = (
      has_room_is room (length_of (node_of p)) (subst (λ r. HasRoom r (length_of (node_of p))) (sym is) fits),
      can,
    ) in
    let start_less : IsLess p.from (plus p.from p.opener) = less_itself p.from p.opener opener in
    let end_less : IsLess p.from (plus p.from (length_of (node_of p))) =
    then_up p.from (plus p.from p.opener) (plus p.from (length_of (node_of p))) start_less
    (longer p.from p.opener (length_of p.inside) p.closer) in
    by ask among passing start_less end_less found lng (longest ask t p.from found lng (node_of p) among) bare
  where
    some_same : (x y : Length) → Some x ≡ Some y → x ≡ y
    some_same x y h = cc

    longer : (f o i c : Length) → ¬ IsLess (plus f (plus (plus o i) c)) (plus f o)
    longer f o i c = is_less_not (plus f (plus (plus o i) c)) (plus f o)
        (plus_less f (plus (plus o i) c) o
        ∙ not_is_less (plus (plus o i) c) o (up_to o (plus o i) (plus (plus o i) c) (from_plus o i) (from_plus (plus o i) c)))

    by : (ask : Ask) → cuts.IsIn (node_of p) (starting t p.from) → IsPassing ask (node_of p)
        → IsLess p.from (plus p.from p.opener) → IsLess p.from (plus p.from (length_of (node_of p)))
        → (found : Option Tree) → IsLongest ask t p.from found → IsBest ask found (node_of p) → IsBareIf found → ⊥
    by ask among passing start_less end_less None lng best bare = best passing
    by ask among passing start_less end_less (Some n) lng best bare =
        let f : cuts.IsIn n (starting t p.from) × IsPassing ask n = first_in ask (starting t p.from) n lng in
        let q : Part n p.from t start 0 = part_of n ask.above ask.level ask.limit f.1.1 p.from t start 0 f.0 in
        let up : ¬ IsLess (plus p.from (length_of n)) (plus p.from (length_of (node_of p))) =
        is_less_not (plus p.from (length_of n)) (plus p.from (length_of (node_of p)))
        (plus_less p.from (length_of n) (length_of (node_of p))
        ∙ not_is_less (length_of n) (length_of (node_of p)) (best passing)) in
        lies n (beside q.part p there) bare start_less end_less
        (then_up p.from (plus p.from (length_of (node_of p))) (plus p.from (length_of n)) end_less up)
      where
        lies : (n : Tree) → Beside n p.from p → is_bare n ≡ true → IsLess p.from (plus p.from p.opener)
            → IsLess p.from (plus p.from (length_of (node_of p))) → IsLess p.from (plus p.from (length_of n)) → ⊥
        lies n (side.behind up) bare start_less end_less long = up long
        lies n (side.before up) bare start_less end_less long = up end_less
        lies n (side.holds among) bare start_less end_less long = bare_no_pair n p.from p bare among
        lies n (side.held up far) bare start_less end_less long = up start_less
