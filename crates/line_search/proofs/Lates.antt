-- An end whose text is made of captures, within some groups.
use Rattle.std.proofs.Common.{◌≡◌, ℕ, ◌≤◌, [], refl}
use Rattle.std.specs.Prelude.{Bool, true, false, nat_le, Option, Some, None, option_and_then, if◌then◌else◌}
use Rattle.std.proofs.lemmas.List.Elements.{All-nil, All-cons, All-head}
use Rattle.std.proofs.lemmas.Bool.{leb-true, le-leb}
use Rattle.pattern_defs.specs.Patterns.{Tree}
use Rattle.line_defs.specs.Search.{OfEnd, choice_of, with_groups}
use Rattle.line_search.specs.Choices.{HaveRoom}

pub late_within : (groups : ℕ) (o : Option Tree) → HaveRoom groups (choice_of OfEnd o) →
    choice_of OfEnd o ≡ choice_of OfEnd (option_and_then (with_groups groups) o)
late_within groups None room = refl
late_within groups (Some tree) room =
    let few : tree.groups ≤ groups =
    All-head (λ choice. choice.tree.groups ≤ groups) (record { of = OfEnd; tree = tree }) [] room in
    let e : nat_le tree.groups groups ≡ true = le-leb tree.groups groups few in rw e refl

pub late_above : (groups : ℕ) (o : Option Tree) → (HaveRoom groups (choice_of OfEnd o) → ⊥) →
    [] ≡ choice_of OfEnd (option_and_then (with_groups groups) o)
late_above groups None above = refl
late_above groups (Some tree) above = by (nat_le tree.groups groups) refl
  where
    by : (b : Bool) → nat_le tree.groups groups ≡ b →
        [] ≡ choice_of OfEnd (if b then Some tree else None)
    by true low = absurd (above (All-cons (λ choice. choice.tree.groups ≤ groups)
        (record { of = OfEnd; tree = tree }) [] (leb-true tree.groups groups low)
        (All-nil (λ choice. choice.tree.groups ≤ groups))))
    by false high = refl
