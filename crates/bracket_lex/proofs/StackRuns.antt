-- The open entries before each row of a text.
use Rattle.std.proofs.Common.{◌≡◌, ℕ, ◌+◌, ◌<◌, ◌⊎◌, nat_le, List, [], ◌∷◌, ◌++◌, length, Some, None, refl, sym, ap}
use Rattle.std.proofs.Common.{◌∙◌, arith, inl, inr}
use Rattle.std.proofs.lemmas.Bool.{cases_Bool}
use Rattle.text_pos.specs.declared.kinds.Kinds.{Kinds}
use Rattle.pairing_defs.specs.declared.Role.{Role}
use Rattle.pairing_defs.specs.declared.Role.TheVariants.{Opener, Closer}
use Rattle.pairing_defs.specs.declared.Mark.{Mark}
use Rattle.pairing_defs.specs.Pairing.{Entry, Open, Placed, of_kind, from_last, closer_row, left_open, rows_by}
use Rattle.pairing_defs.specs.Pairing.{open_by, placed_from, open_after, nothing_open}
use Rattle.bracket_lex.proofs.OpenEntries.{IsStack, IsEntry, stack_more, entry_below, Last, last_of, split_at_last}
use Rattle.bracket_lex.proofs.OpenStacks.{IsIn, HasLevels, Stacks, ClosedFirst, Step, behind_row, no_rows}

-- ---- one role each
opener_kind : (p : Placed) (kind other : ℕ) → p.mark.role ≡ Opener kind → p.mark.role ≡ Opener other → other ≡ kind
opener_kind p kind other is too = let roles : Opener other ≡ Opener kind = sym too ∙ is in cc

no_opener : {A : Type 0} (p : Placed) (kinds : Kinds) (kind : ℕ) → p.mark.role ≡ Closer kinds → p.mark.role
    ≡ Opener kind → A
no_opener p kinds kind is too = absurd (let roles : Closer kinds ≡ Opener kind = sym is ∙ too in cc)

closes_nothing : {A : Type 0} (p : Placed) (c : ℕ) → p.closes ≡ None → p.closes ≡ Some c → A
closes_nothing p c is too = absurd (cc)

-- ---- levels
opener_levels : (p : Placed) (kind : ℕ) (es : List Entry) → p.mark.role ≡ Opener kind → p.level ≡ length es → p.own
    ≡ of_kind kind es → HasLevels p es
opener_levels p kind es role level own = record {
  opener = λ other too. (level, own ∙ ap (λ k. of_kind k es) (sym (opener_kind p kind other role too)));
  alone = λ kinds too none. no_opener p kinds kind too role;
}

lone_levels : (p : Placed) (kinds : Kinds) (es : List Entry) → p.mark.role ≡ Closer kinds → p.level ≡ length es
    → p.own ≡ 0 → HasLevels p es
lone_levels p kinds es role level own = record
    { opener = λ kind too. no_opener p kinds kind role too; alone = λ others too none. (level, own) }

closer_levels : (p : Placed) (kinds : Kinds) (c : ℕ) (es : List Entry) → p.mark.role ≡ Closer kinds → p.closes
    ≡ Some c → HasLevels p es
closer_levels p kinds c es role closes =
    record {
      opener = λ kind too. no_opener p kinds kind role too;
      alone = λ others too none. closes_nothing p c none closes;
    }

-- ---- steps
same_entry : (e : Entry) (row kind : ℕ) → e.row ≡ row → e.kind ≡ kind
    → ◌≡◌ {A = Entry} (record { row = row; kind = kind }) e
same_entry e row kind is too = rw (← is, ← too) refl

opener_from : (n kind : ℕ) (es : List Entry) (p : Placed) → p.mark.role ≡ Opener kind
    → (e : Entry) (under : List Entry) → IsEntry e under (record { row = n; kind = kind } ∷ es)
    → IsIn e es ⊎ ((e.row ≡ n) × (p.mark.role ≡ Opener e.kind))
opener_from n kind es p role e under (inl same) =
    inr (ap (λ x. x.row) (sym same.0), role ∙ ap (λ x. Opener x.kind) same.0)
opener_from n kind es p role e under (inr deeper) = inl (under, deeper)

opener_step : (n kind : ℕ) (es : List Entry) (p : Placed) → p.mark.role ≡ Opener kind → p.closes ≡ None
    → Step n es (record { row = n; kind = kind } ∷ es) p
opener_step n kind es p role none = record {
  from = λ e among. opener_from n kind es p role e among.0 among.1;
  stays = λ e among first. closes_nothing p first.closed none first.closes;
  old = λ e among. inr (among.0, inr among.1);
  new = λ e row too. (es, inl (same_entry e n kind row (opener_kind p kind e.kind role too), refl));
}

lone_step : (n : ℕ) (kinds : Kinds) (es : List Entry) (p : Placed) → p.mark.role ≡ Closer kinds → p.closes ≡ None
    → Step n es es p
lone_step n kinds es p role none = record {
  from = λ e among. inl among;
  stays = λ e among first. closes_nothing p first.closed none first.closes;
  old = λ e among. inr among;
  new = λ e row too. no_opener p kinds e.kind role too;
}

closer_old : (n : ℕ) (kinds : Kinds) (es : List Entry) (entry : Entry) (below : List Entry) (p : Placed)
    → IsStack n es → from_last kinds es ≡ entry ∷ below → p.closes ≡ Some entry.row
    → (e : Entry) (under : List Entry) → IsEntry e under es → ClosedFirst n p e.row ⊎ IsIn e below
closer_old n kinds es entry below p stack found closes e under among =
    elim (split_at_last kinds n es entry below e under stack found among) [
      | inl left ↦ inr (under, left)
      | inr off ↦ inl (record {
        closed = entry.row;
        closes = closes;
        around = off;
        behind = entry_below n es e under stack among;
      })
    ]

closer_step : (n : ℕ) (kinds : Kinds) (es : List Entry) (entry : Entry) (below : List Entry) (p : Placed)
    → IsStack n es → from_last kinds es ≡ entry ∷ below → p.mark.role ≡ Closer kinds → p.closes ≡ Some entry.row
    → Step n es below p
closer_step n kinds es entry below p stack found role closes =
    let l : Last kinds n es entry below = last_of kinds n es entry below stack found in
    record {
      from = λ e among. inl (among.0, l.deeper e among.0 among.1);
      stays = λ e among first.
          let same : Some first.closed ≡ Some entry.row = sym first.closes ∙ closes in
          let number : first.closed ≡ entry.row = cc in
          let around = first.around in
          let falls = entry_below entry.row below e among.0 l.stack among.1 in
          omega arith;
      old = λ e among. closer_old n kinds es entry below p stack found closes e among.0 among.1;
      new = λ e row too. no_opener p kinds e.kind role too;
    }

-- ---- each mark
closer_by : (limit : ℕ) (state : Open) (m : Mark) (ms : List Mark) (kinds : Kinds) (found : List Entry) → m.role
    ≡ Closer kinds → from_last kinds state.entries ≡ found → IsStack state.rows state.entries
    → ((s : Open) → IsStack s.rows s.entries → Stacks s (placed_from limit s ms) (open_after limit s ms).entries)
    → Stacks state (closer_row state m found ∷ placed_from limit
    (record { rows = state.rows + 1; entries = left_open state.entries found }) ms)
    (open_after limit (record { rows = state.rows + 1; entries = left_open state.entries found }) ms).entries
closer_by limit state m ms kinds [] role is stack later =
    behind_row state (closer_row state m [])
    (placed_from limit (record { rows = state.rows + 1; entries = state.entries }) ms) state.entries
    (open_after limit (record { rows = state.rows + 1; entries = state.entries }) ms).entries stack
    (lone_levels (closer_row state m []) kinds state.entries role refl refl)
    (lone_step state.rows kinds state.entries (closer_row state m []) role refl)
    (later (record { rows = state.rows + 1; entries = state.entries })
    (stack_more state.rows (state.rows + 1) state.entries stack (omega arith)))
closer_by limit state m ms kinds (entry ∷ below) role is stack later =
    let l : Last kinds state.rows state.entries entry below =
    last_of kinds state.rows state.entries entry below stack is in
    let under : entry.row < state.rows = entry_below state.rows state.entries entry below stack l.is_entry in
    behind_row state (closer_row state m (entry ∷ below))
    (placed_from limit (record { rows = state.rows + 1; entries = below }) ms) below
    (open_after limit (record { rows = state.rows + 1; entries = below }) ms).entries stack
    (closer_levels (closer_row state m (entry ∷ below)) kinds entry.row state.entries role refl)
    (closer_step state.rows kinds state.entries entry below (closer_row state m (entry ∷ below)) stack is role refl)
    (later (record { rows = state.rows + 1; entries = below })
    (stack_more entry.row (state.rows + 1) below l.stack (omega arith)))

mark_by : (limit : ℕ) (state : Open) (m : Mark) (ms : List Mark) (role : Role) → m.role ≡ role
    → IsStack state.rows state.entries
    → ((s : Open) → IsStack s.rows s.entries → Stacks s (placed_from limit s ms) (open_after limit s ms).entries)
    → Stacks state (rows_by limit state m role ++ placed_from limit (open_by limit state role) ms)
    (open_after limit (open_by limit state role) ms).entries
mark_by limit state m ms (Opener kind) is stack later = elim (cases_Bool (nat_le limit (length state.entries))) [
  | inl full ↦ rw full (later state stack)
  | inr room ↦
      let p : Placed = record {
        mark = m;
        level = length state.entries;
        own = of_kind kind state.entries;
        closes = None;
      } in
      let next : List Entry = record { row = state.rows; kind = kind } ∷ state.entries in
      rw room
      (behind_row state p (placed_from limit (record { rows = state.rows + 1; entries = next }) ms) next
      (open_after limit (record { rows = state.rows + 1; entries = next }) ms).entries stack
      (opener_levels p kind state.entries is refl refl)
      (opener_step state.rows kind state.entries p is refl)
      (later (record { rows = state.rows + 1; entries = next }) (omega arith, stack)))
]
mark_by limit state m ms (Closer kinds) is stack later =
    closer_by limit state m ms kinds (from_last kinds state.entries) is refl stack later

stacks : (limit : ℕ) (ms : List Mark) (state : Open) → IsStack state.rows state.entries
    → Stacks state (placed_from limit state ms) (open_after limit state ms).entries
stacks limit [] state stack = no_rows state stack
stacks limit (m ∷ ms) state stack = mark_by limit state m ms m.role refl stack (λ s s_stack. stacks limit ms s s_stack)

pub stacks_of : (limit : ℕ) (ms : List Mark)
    → Stacks nothing_open (placed_from limit nothing_open ms) (open_after limit nothing_open ms).entries
stacks_of limit ms = stacks limit ms nothing_open tt
