-- One change more, behind others.
use Rattle.std.proofs.Common.{◌≡◌, ℕ, ◌&&◌, true, false, List, [], ◌∷◌, ◌++◌, length, take, refl, sym, ap, ◌∙◌, subst}
use Rattle.std.specs.List.{list_all}
use Rattle.std.proofs.Math.Seq.{take-length}
use Rattle.std.proofs.lemmas.List.{map-append}
use Rattle.std.proofs.lemmas.List.Folds.{list_all-append}
use Rattle.text_pos.specs.declared.length.Length.{Length}
use Rattle.text_pos.specs.Lengths.{plus}
use Rattle.tree_defs.specs.Ends.{fits}
use Rattle.change_defs.specs.declared.Change.{Change}
use Rattle.change_defs.specs.declared.Joint.{Joint}
use Rattle.change_defs.specs.declared.Placed.{Placed}
use Rattle.change_defs.specs.Changes.{first_joint, carried, end_joint, placed_at, placed_from, placed, last_joint, is_less}
use Rattle.change_defs.specs.Changes.{starts_behind, are_in_order, joint_fits, placed_fits, fits_behind}
use Rattle.change_laws.proofs.Placing.{both_true, placed_more, order_more, last_not_behind}
use Rattle.edit_mapper.specs.Places.{changes_in, ArePlaces, last_end}

last_end_placed : (joint : Joint) (cs : List Change) → last_end joint (placed_from joint cs) ≡ last_joint joint cs
last_end_placed joint [] = refl
last_end_placed joint (c ∷ cs) = last_end_placed (end_joint joint c) cs

pub last_is : (ps : List Placed) (n : ℕ) → ArePlaces ps → n ≡ length ps
    → last_end first_joint (take n ps) ≡ last_joint first_joint (changes_in ps)
last_is ps n are e = ap (λ k. last_end first_joint (take k ps)) e ∙ ap (λ qs. last_end first_joint qs) (take-length ps)
    ∙ ap (λ qs. last_end first_joint qs) are.same ∙ last_end_placed first_joint (changes_in ps)

pub starts_not_before : (joint : Joint) (cs : List Change) (c : Change) → joint ≡ last_joint first_joint cs
    → starts_behind cs c ≡ true → is_less c.start joint.old ≡ false
starts_not_before joint cs c e h = subst (λ j. is_less c.start j.old ≡ false) (sym e) (last_not_behind cs c h)

-- the four places that fit
pub record AllFit (joint : Joint) (c : Change) : Type 0 where
  pub start : fits c.start ≡ true
  pub from : fits (carried joint c.start) ≡ true
  pub end : fits (plus c.start c.old) ≡ true
  pub to : fits (plus (carried joint c.start) c.new) ≡ true

fit_at : (joint : Joint) (c : Change) → placed_fits (placed_at joint c) ≡ true → AllFit joint c
fit_at joint c h =
    let both = both_true (joint_fits (placed_at joint c).from) (joint_fits (placed_at joint c).to) h in
    let from = both_true (fits c.start) (fits (carried joint c.start)) both.0 in
    let to = both_true (fits (plus c.start c.old)) (fits (plus (carried joint c.start) c.new)) both.1 in
    record { start = from.0; from = from.1; end = to.0; to = to.1 }

pub fits_there : (joint : Joint) (cs : List Change) (c : Change) → joint ≡ last_joint first_joint cs
    → fits_behind cs c ≡ true → AllFit joint c
fits_there joint cs c e h = subst (λ j. AllFit j c) (sym e) (fit_at (last_joint first_joint cs) c h)

changes_more : (ps : List Placed) (joint : Joint) (c : Change)
    → changes_in (ps ++ placed_at joint c ∷ []) ≡ changes_in ps ++ c ∷ []
changes_more ps joint c = map-append (λ (p : Placed). p.change) ps (placed_at joint c ∷ [])

pub places_more : (ps : List Placed) (joint : Joint) (c : Change) → ArePlaces ps
    → joint ≡ last_joint first_joint (changes_in ps) → starts_behind (changes_in ps) c ≡ true
    → fits_behind (changes_in ps) c ≡ true → ArePlaces (ps ++ placed_at joint c ∷ [])
places_more ps joint c are e order fit =
    let cs : List Change = changes_in ps in
    let more = changes_more ps joint c in
    let there : placed (cs ++ c ∷ []) ≡ ps ++ placed_at joint c ∷ [] =
    placed_more first_joint cs c ∙ ap (λ qs. qs ++ placed_at (last_joint first_joint cs) c ∷ []) (sym are.same)
    ∙ ap (λ j. ps ++ placed_at j c ∷ []) (sym e) in
    let one : placed_fits (placed_at joint c) ≡ true = subst (λ j. placed_fits (placed_at j c) ≡ true) (sym e) fit in
    let all : list_all placed_fits ps ≡ true = subst (λ qs. list_all placed_fits qs ≡ true) (sym are.same) are.fit in
    let all_more : list_all placed_fits (ps ++ placed_at joint c ∷ []) ≡ true =
    list_all-append placed_fits ps (placed_at joint c ∷ []) ∙ ap (λ b. b && (placed_fits (placed_at joint c) && true)) all
    ∙ ap (λ b. b && true) one in
    record {
      same = sym (ap (λ ds. placed ds) more ∙ there);
      order = subst (λ ds. are_in_order ds ≡ true) (sym more) (order_more cs c are.order order);
      fit = subst (λ ds. list_all placed_fits (placed ds) ≡ true) (sym more)
          (subst (λ qs. list_all placed_fits qs ≡ true) (sym there) all_more);
    }

pub joint_there : (ps qs : List Placed) (n v : ℕ) (cs : List Change) (joint : Joint) → ArePlaces ps → qs ≡ ps
    → length qs ≡ v → n ≡ v → changes_in ps ≡ cs → joint ≡ last_end first_joint (take n qs)
    → joint ≡ last_joint first_joint cs
joint_there ps qs n v cs joint are same long count of is =
    is ∙ ap (λ l. last_end first_joint (take n l)) same
    ∙ last_is ps n are (count ∙ sym long ∙ ap (λ l. length l) same) ∙ ap (λ l. last_joint first_joint l) of

pub pushed : (ps more : List Placed) (cs : List Change) (joint : Joint) (c : Change) (from old_end new_end : Length)
    → ArePlaces ps → changes_in ps ≡ cs → joint ≡ last_joint first_joint cs → starts_behind cs c ≡ true
    → fits_behind cs c ≡ true → from ≡ carried joint c.start → old_end ≡ plus c.start c.old → new_end ≡ plus from c.new
    → more ≡ ps ++ record { change = c; from = record { old = c.start; new = from }; to = record { old = old_end; new = new_end } } ∷ []
    → ArePlaces more
pushed ps more cs joint c from old_end new_end are of there order fit from_is old_is new_is is =
    let one : placed_at joint c ≡ record { change = c; from = record { old = c.start; new = from }; to = record { old = old_end; new = new_end } } =
    sym (ap (λ l. record { change = c; from = record { old = c.start; new = from }; to = record { old = l; new = new_end } }) old_is
    ∙ ap (λ l. record { change = c; from = record { old = c.start; new = from }; to = record { old = plus c.start c.old; new = l } }) new_is
    ∙ ap (λ l. record { change = c; from = record { old = c.start; new = l }; to = record { old = plus c.start c.old; new = plus l c.new } }) from_is) in
    subst (λ l. ArePlaces l) (ap (λ p. ps ++ p ∷ []) one ∙ sym is)
    (places_more ps joint c are (there ∙ ap (λ l. last_joint first_joint l) (sym of))
    (subst (λ l. starts_behind l c ≡ true) (sym of) order) (subst (λ l. fits_behind l c ≡ true) (sym of) fit))
