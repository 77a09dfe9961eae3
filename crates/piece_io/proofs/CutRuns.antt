-- The lines of whole runs.
use Rattle.std.proofs.Common.{◌≡◌, ℕ, List, [], ◌∷◌, ◌++◌, false, Option, Some, None, refl, ap, sym, ◌∙◌}
use Rattle.std.proofs.Common.{append_assoc, subst}
use Rattle.std.specs.Prelude.{MatchOption}
use Rattle.std.proofs.lemmas.List.{append-nil}
use Rattle.piece_io.specs.Cuts.{Cutting, cuts_of, first_cut, ended, to_come}
use Rattle.piece_io.specs.CutLaws.{HasCut, to_come-ended, to_come-next}
use Rattle.piece_io.specs.CutRuns.{Event, Fed, HandedOut, start, Leads, HandsOut, bytes_fed, cuts_handed_out}
use Rattle.piece_io.specs.CutRuns.{EachLineOnceInOrder}
use Rattle.piece_io.specs.declared.line_cutter.Cut.{Cut}
use Rattle.piece_io.specs.declared.line_cutter.Cut.TheVariants.{Line, TooLong}

abbrev found : Cut × Cutting → Option (Cut × Cutting) → Cut × Cutting
found other None = other
found other (Some next) = next

-- while more may come, the first of two or more lines is handed out
record IsFirstOf (cuts : List Cut) (cut : Cut) (next : Cutting) : Type 0 where
  pub split : cuts ≡ cut ∷ next.cuts
  pub open_ : next.ended ≡ false
  pub left : HasCut next.cuts

first-of : (cuts : List Cut) (cut : Cut) (next : Cutting) → first_cut cuts false ≡ Some (cut, next)
    → IsFirstOf cuts cut next
first-of [] cut next is = cc
first-of (TooLong ∷ []) cut next is = cc
first-of (Line [] ∷ []) cut next is = cc
first-of (Line (b ∷ bytes) ∷ []) cut next is = cc
first-of (first ∷ second ∷ later) cut next is =
    let same : (first, record { cuts = second ∷ later; ended = false }) ≡ (cut, next) = ap (found (cut, next)) is in
    record {
      split = ap (λ (p : Cut × Cutting). p.0 ∷ p.1.cuts) same;
      open_ = sym (ap (λ (p : Cut × Cutting). p.1.ended) same);
      left = subst HasCut (ap (λ (p : Cut × Cutting). p.1.cuts) same) tt;
    }

-- what is handed out until nothing is there is all that is to come
handed-to_come : (c : Cutting) (cuts : List Cut) → HandsOut c cuts → to_come c ≡ cuts
handed-to_come c [] none =
    let P : Option (Cut × Cutting) → Type 0 =
    λ r. MatchOption r (to_come c ≡ []) (λ next. to_come c ≡ next.0 ∷ to_come next.1) in
    subst P none (to_come-next c)
handed-to_come c (cut ∷ cuts) hands =
    let P : Option (Cut × Cutting) → Type 0 =
    λ r. MatchOption r (to_come c ≡ []) (λ next. to_come c ≡ next.0 ∷ to_come next.1) in
    let here : to_come c ≡ cut ∷ to_come hands.0 = subst P hands.1 (to_come-next c) in
    here ∙ ap (λ later. cut ∷ later) (handed-to_come hands.0 cuts hands.2)

-- what was handed out and what is left are the lines of all bytes fed
along : (events : List Event) (c now : Cutting) (handed_out : List Cut) (bytes : List ℕ) → c.ended ≡ false
    → HasCut c.cuts
    → handed_out ++ c.cuts ≡ cuts_of bytes → Leads c events now
    → ((handed_out ++ cuts_handed_out events) ++ now.cuts ≡ cuts_of (bytes ++ bytes_fed events)) × HasCut now.cuts
along [] c now handed_out bytes open_ left is leads = (
  ap (λ cuts. cuts ++ now.cuts) (append-nil handed_out) ∙ ap (λ (c : Cutting). handed_out ++ c.cuts) (sym leads) ∙ is
      ∙ ap cuts_of (sym (append-nil bytes)),
  subst (λ (c : Cutting). HasCut c.cuts) leads left,
)
along (Fed piece ∷ events) c now handed_out bytes open_ left is leads =
    let later = along events leads.0 now handed_out (bytes ++ piece) leads.2 leads.3 (leads.1 handed_out bytes is)
    leads.4 in
    (later.0 ∙ ap cuts_of (append_assoc bytes piece (bytes_fed events)), later.1)
along (HandedOut cut ∷ events) c now handed_out bytes open_ left is leads =
    let first : IsFirstOf c.cuts cut leads.0 =
    first-of c.cuts cut leads.0 (ap (first_cut c.cuts) (sym open_) ∙ leads.1) in
    let here : (handed_out ++ cut ∷ []) ++ leads.0.cuts ≡ cuts_of bytes =
    append_assoc handed_out (cut ∷ []) leads.0.cuts ∙ ap (λ cuts. handed_out ++ cuts) (sym first.split) ∙ is in
    let later = along events leads.0 now (handed_out ++ cut ∷ []) bytes first.open_ first.left here leads.2 in (
      ap (λ cuts. cuts ++ now.cuts) (sym (append_assoc handed_out (cut ∷ []) (cuts_handed_out events)))
          ∙ later.0,
      later.1,
    )

pub each_line_once_in_order : EachLineOnceInOrder
each_line_once_in_order events now last leads hands =
    let all = along events start now [] [] refl tt refl leads in
    ap (λ cuts. cuts_handed_out events ++ cuts) (sym (handed-to_come (ended now) last hands))
    ∙ to_come-ended (cuts_handed_out events) now.cuts (bytes_fed events) all.1 all.0
