-- The marks of a text's lines rise.
use Rattle.std.proofs.Common.{◌≡◌, ℕ, zero, suc, ◌<◌, ◌≤◌, List, [], ◌∷◌, length, Some, refl, sym, subst, arith}
use Rattle.std.proofs.Common.{slice_get}
use Rattle.pairing_defs.specs.declared.BracketText.{BracketText}
use Rattle.pairing_defs.specs.declared.LineMark.{LineMark}
use Rattle.pairing_defs.specs.Marks.{marks_of, every_column, usual_texts}
use Rattle.bracket_marks.proofs.MarkedColumns.{marks_are_in_the_line, marks_are_the_longest_texts}
use Rattle.bracket_marks.proofs.MarksInOrder.{marks_rise}
use Rattle.mark_source.specs.Source.{IsRole, RiseIn}
use Rattle.mark_source.specs.TextLaws.{HaveKinds, LinesAreMarked, TextsAreMarked}

-- a mark that lies in a stretch of a line
record LiesIn (from end : ℕ) (m : LineMark) : Type 0 where
  pub behind : from ≤ m.from
  pub some : m.from < m.to
  pub within : m.to ≤ end
  pub role : IsRole m.role

rise_by : (ms : List LineMark) (from end : ℕ) → from ≤ end
    → ((k : ℕ) (m : LineMark) → slice_get ms k ≡ Some m → LiesIn from end m)
    → ((k l : ℕ) (m n : LineMark) → slice_get ms k ≡ Some m → slice_get ms l ≡ Some n → k < l → m.to ≤ n.from)
    → RiseIn from end ms
rise_by [] from end le each order = le
rise_by (m ∷ ms) from end le each order =
    let lies = each zero m refl in (
      lies.behind,
      lies.some,
      lies.role,
      rise_by ms m.to end lies.within
          (λ k n is. let next = each (suc k) n is in
          record { behind = order zero (suc k) m n refl is (omega arith); some = next.some; within = next.within; role = next.role })
          (λ k l a b ka lb lt. order (suc k) (suc l) a b ka lb (omega (arith, lt))),
    )

pub lines_are_marked : LinesAreMarked
lines_are_marked texts long counts line kinds =
    rise_by (marks_of texts long counts line) 0 (length line) (omega arith)
    (λ k m is. let inside = marks_are_in_the_line texts long counts line k m is in
    let found = marks_are_the_longest_texts texts long counts line k m is in
    record {
      behind = omega arith;
      some = inside.0;
      within = inside.1;
      role = subst IsRole (sym found.1.role) (kinds found.1.listed.place found.0 found.1.listed.there);
    })
    (λ k l m n km ln lt. marks_rise texts long counts line k l m n km ln lt)

pub texts_are_marked : TextsAreMarked
texts_are_marked texts long [] kinds = tt
texts_are_marked texts long (line ∷ lines) kinds =
    (lines_are_marked texts long every_column line kinds, texts_are_marked texts long lines kinds)

role_is : {a b : BracketText} → Some a ≡ Some b → a.role ≡ b.role
role_is e = cc

-- those of the usual pairs
pub usual_kinds : HaveKinds usual_texts
usual_kinds zero b is = subst IsRole (role_is is) (omega arith)
usual_kinds (suc zero) b is = subst IsRole (role_is is) (omega arith)
usual_kinds (suc (suc zero)) b is = subst IsRole (role_is is) (omega arith)
usual_kinds (suc (suc (suc zero))) b is = subst IsRole (role_is is) tt
usual_kinds (suc (suc (suc (suc zero)))) b is = subst IsRole (role_is is) tt
usual_kinds (suc (suc (suc (suc (suc zero))))) b is = subst IsRole (role_is is) tt
usual_kinds (suc (suc (suc (suc (suc (suc n)))))) b is = cc
