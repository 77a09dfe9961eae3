-- Replies, one after another.
use Rattle.std.proofs.Common.{◌≡◌, ℕ, List, [], ◌++◌, refl, sym, ap, subst, map, ◌∙◌, append_assoc, append-nil}
use Rattle.std.specs.Prelude.{Option, Some, None, Result, Ok, Err, OnErr, OnOk}
use Rattle.piece_io.specs.Told.{appended}
use Rattle.piece_io.specs.declared.line_cutter.Cut.{Cut}
use Rattle.piece_io.specs.Cuts.{Cutting, next_cut}
use Rattle.document_defs.specs.TextRows.{Settings}
use Rattle.script_words.specs.ReplyText.{reply_text}
use Rattle.session_defs.specs.Session.{reading_step, replies_to, text_behind}
use Rattle.bracket_program.specs.Lines.{cut_reading, given}
use Rattle.bracket_program.specs.Ends.{WritesFront, WritesUpTo}
use Rattle.bracket_program.proofs.GivenLines.{given-next}

pub appended-nil : (held : Option (List ℕ)) → held ≡ appended held []
appended-nil None = refl
appended-nil (Some bytes) = ap Some (sym (append-nil bytes))

pub appended-appended : (held : Option (List ℕ)) (xs ys : List ℕ) → appended (appended held xs) ys
    ≡ appended held (xs ++ ys)
appended-appended None xs ys = refl
appended-appended (Some bytes) xs ys = ap Some (append_assoc bytes xs ys)

-- nothing is written yet
pub none_written : (held : Option (List ℕ)) (all : List ℕ) → WritesUpTo held held all all
none_written held all = record { part = []; whole = refl; adds = appended-nil held }

-- more is written
pub more_written : {before now : Option (List ℕ)} {all : List ℕ} (xs rest : List ℕ) (after : Option (List ℕ))
    → WritesUpTo before now all (xs ++ rest) → after ≡ appended now xs → WritesUpTo before after all rest
more_written {before} {now} {all} xs rest after w e = record {
  part = w.part ++ xs;
  whole = append_assoc w.part xs rest ∙ w.whole;
  adds = e ∙ (ap (λ h. appended h xs) w.adds ∙ appended-appended before w.part xs);
}

-- all is written
pub all_written : {before after : Option (List ℕ)} {all : List ℕ} → WritesUpTo before after all [] → after
    ≡ appended before all
all_written {before} w = w.adds ∙ ap (appended before) (sym (append-nil w.part) ∙ w.whole)

-- writing stops
pub front_written : {before after : Option (List ℕ)} {all rest : List ℕ} → WritesUpTo before after all rest
    → WritesFront before after all
front_written {rest = rest} w = record { part = w.part; rest = rest; whole = w.whole; adds = w.adds }

-- writing stops within the next bytes
pub front_of_more : {before now after : Option (List ℕ)} {all xs : List ℕ} (rest : List ℕ)
    → WritesUpTo before now all (xs ++ rest) → WritesFront now after xs → WritesFront before after all
front_of_more {before} rest w f = record {
  part = w.part ++ f.part;
  rest = f.rest ++ rest;
  whole = append_assoc w.part f.part (f.rest ++ rest)
      ∙ (ap (λ ys. w.part ++ ys) (sym (append_assoc f.part f.rest rest) ∙ ap (λ ys. ys ++ rest) f.whole) ∙ w.whole);
  adds = f.adds ∙ (ap (λ h. appended h f.part) w.adds ∙ appended-appended before w.part f.part);
}

-- nothing at all was written
pub nothing_written : (held : Option (List ℕ)) (all : List ℕ) → WritesFront held held all
nothing_written held all = record { part = []; rest = all; whole = refl; adds = appended-nil held }

-- the replies to what a cutter will hand out, and the text behind them
abbrev replies_given : Settings → List ℕ → List Cut → List ℕ
replies_given settings text cuts = replies_to settings text (map cut_reading cuts)

abbrev text_given : Settings → List ℕ → List Cut → List ℕ
text_given settings text cuts = text_behind settings text (map cut_reading cuts)

-- a line has its reply
pub line_written : {before now : Option (List ℕ)} {all : List ℕ} (after : Option (List ℕ)) (settings same : Settings)
    (text next : List ℕ) (c : Cutting) (p : Cut × Cutting)
    → same ≡ settings → next_cut c ≡ Some p → WritesUpTo before now all (replies_given settings text (given c))
    → after ≡ appended now (reply_text (reading_step same text (cut_reading p.0)).reply) → next
    ≡ (reading_step same text (cut_reading p.0)).text
    → WritesUpTo before after all (replies_given settings next (given p.1))
line_written {before} {now} {all} after settings same text next c p s n w e t =
    let reply = λ (o : Settings). reply_text (reading_step o text (cut_reading p.0)).reply in
    let later = λ (o : Settings). (reading_step o text (cut_reading p.0)).text in
    let one = subst (λ cuts. WritesUpTo before now all (replies_given settings text cuts)) (given-next c p n) w in
    let two = more_written (reply settings) (replies_given settings (later settings) (given p.1)) after one
    (e ∙ ap (λ o. appended now (reply o)) s) in
    subst (λ text. WritesUpTo before after all (replies_given settings text (given p.1))) (sym (t ∙ ap later s)) two

pub text_after_line : (settings same : Settings) (text next : List ℕ) (c : Cutting) (p : Cut × Cutting)
    → same ≡ settings → next_cut c ≡ Some p → next ≡ (reading_step same text (cut_reading p.0)).text
    → text_given settings next (given p.1) ≡ text_given settings text (given c)
text_after_line settings same text next c p s n t =
    ap (λ text. text_given settings text (given p.1)) (t ∙ ap (λ o. (reading_step o text (cut_reading p.0)).text) s)
    ∙ sym (ap (text_given settings text) (given-next c p n))

pub line_cut_short : {before now after : Option (List ℕ)} {all : List ℕ} (settings same : Settings) (text : List ℕ)
    (c : Cutting) (p : Cut × Cutting)
    → same ≡ settings → next_cut c ≡ Some p → WritesUpTo before now all (replies_given settings text (given c))
    → WritesFront now after (reply_text (reading_step same text (cut_reading p.0)).reply) → WritesFront before after all
line_cut_short {before} {now} {after} {all} settings same text c p s n w f =
    let one = subst (λ cuts. WritesUpTo before now all (replies_given settings text cuts)) (given-next c p n) w in
    front_of_more (replies_given settings (reading_step settings text (cut_reading p.0)).text (given p.1)) one
    (subst (λ o. WritesFront now after (reply_text (reading_step o text (cut_reading p.0)).reply)) s f)

-- what holds anyway holds at an error
pub on_err : {T E : Type 0} (r : Result T E) {P : Type 0} → P → OnErr r P
on_err (Ok x) p = tt
on_err (Err e) p = p

pub on_ok : {T E : Type 0} (r : Result T E) {P : Type 0} → P → OnOk r P
on_ok (Ok x) p = p
on_ok (Err e) p = tt
