-- How answering a script goes on, and how it ends.
use Rattle.std.proofs.Common.{◌≡◌, ℕ, ◌+◌, ◌≤◌, ◌<◌, List, [], ◌++◌, length, map, take, refl, sym, ap, subst, ◌∙◌}
use Rattle.std.proofs.Common.{arith, append_assoc, append-nil, length-append, false, true}
use Rattle.std.specs.Prelude.{Some, None}
use Rattle.std.proofs.lemmas.List.{length-take}
use Rattle.text_defs.specs.Text.{whole_lines, unfinished}
use Rattle.piece_io.specs.Told.{GivesFront, appended, risen}
use Rattle.piece_io.specs.Cuts.{Cutting, cuts_of, next_cut}
use Rattle.piece_io.specs.CutLaws.{whole_lines-append}
use Rattle.document_defs.specs.TextRows.{Settings}
use Rattle.script_words.specs.ReplyText.{reply_text}
use Rattle.script_words.specs.Script.{reading_of}
use Rattle.session_defs.specs.Opening.{Session}
use Rattle.session_defs.specs.Session.{replies_to, text_behind, opened}
use Rattle.session_defs.specs.Output.{written_for, script_lines, line_if_any, most_script_bytes}
use Rattle.bracket_program.specs.Lines.{cut_reading, given, last_of}
use Rattle.bracket_program.specs.Ends.{Outside, Takes, WritesFront, WritesUpTo, IsDone, IsCut, IsFront, IsEnd}
use Rattle.bracket_program.specs.Ends.{IsReplyEnd}
use Rattle.bracket_program.specs.Serving.{Serving}
use Rattle.bracket_program.specs.declared.status.Status.{Status}
use Rattle.bracket_program.specs.declared.status.Status.TheVariants as status
use Rattle.bracket_program.proofs.LineReadings.{readings_given-going, readings_given-ended, pending-left}
use Rattle.bracket_program.proofs.Replying.{appended-appended, nothing_written, front_of_more, none_written}
use Rattle.bracket_program.proofs.Scripts.{nothing_rest, taken_of, takes-nothing, takes-more, gives-takes, gives-end}
use Rattle.bracket_program.proofs.Scripts.{takes-end, written_for-append, text_behind-lines, script_lines-append}

-- the open reply is written, and nothing was taken
pub serving-start : (before now : Outside) (session : Session) (cutter : Cutting)
    → now.left ≡ before.left → now.held ≡ appended before.held (reply_text (opened session)) → now.reads ≡ before.reads
    → now.writes ≡ before.writes
    → cutter.cuts ≡ cuts_of [] → cutter.ended ≡ false → Serving before now session session.text cutter 0
serving-start before now session cutter l h r w c e = record {
  script = [];
  count = refl;
  takes = subst (λ left. Takes before.left left []) (sym l) (takes-nothing before.left);
  writes = h ∙ ap (appended before.held) (sym (append-nil (reply_text (opened session))));
  answers = refl;
  pending = c;
  going = e;
  reads_stand = r;
  writes_stand = w;
}

-- what a read, a feeding and replies to all whole lines do
pub record More (now after : Outside) (same : Settings) (text next : List ℕ) (cutter fed left : Cutting) (n : ℕ)
    (into : List ℕ) : Type 0 where
  pub fits : n ≤ length into
  pub gives : GivesFront now.left after.left n into
  pub feeds : (bytes : List ℕ) → cutter.cuts ≡ cuts_of bytes → fed.cuts ≡ cuts_of (bytes ++ take n into)
  pub going : fed.ended ≡ false
  pub writes : after.held ≡ appended now.held (replies_to same text (map cut_reading (given fed)))
  pub answers : next ≡ text_behind same text (map cut_reading (given fed))
  pub none_left : next_cut left ≡ None
  pub ended : left.ended ≡ fed.ended
  pub last : last_of left.cuts ≡ last_of fed.cuts
  pub reads_stand : after.reads ≡ now.reads
  pub writes_stand : after.writes ≡ now.writes

pub serving-more : {before now after : Outside} {session : Session} {text : List ℕ} {cutter : Cutting}
    {taken : ℕ} (same : Settings) (next : List ℕ) (fed left : Cutting) (n : ℕ) (into : List ℕ)
    → same ≡ session.settings → Serving before now session text cutter taken
    → More now after same text next cutter fed left n into
    → Serving before after session next left (taken + n)
serving-more {before} {now} {after} {session} {text} {cutter} {taken} same next fed left n into o s m =
    let piece = take n into in
    let rest = unfinished s.script ++ piece in
    let feeds = m.feeds (unfinished s.script) s.pending in
    let readings = readings_given-going fed.cuts fed.ended rest feeds m.going in
    let whole = whole_lines-append s.script piece in
    record {
      script = s.script ++ piece;
      count = omega (arith, length-append s.script piece, length-take n into, s.count, m.fits);
      takes = takes-more before.left now.left after.left s.script piece s.takes
          (gives-takes now.left after.left n into m.gives);
      writes = m.writes
          ∙ (ap (λ h. appended h (replies_to same text (map cut_reading (given fed)))) s.writes
          ∙ (appended-appended before.held (written_for session (whole_lines s.script))
          (replies_to same text (map cut_reading (given fed)))
          ∙ ap (appended before.held)
          (ap (λ later. written_for session (whole_lines s.script) ++ later)
          (ap (λ p. replies_to p text (map cut_reading (given fed))) o
          ∙ (ap (replies_to session.settings text) readings
          ∙ ap (λ t. replies_to session.settings t (map reading_of (whole_lines rest))) s.answers))
          ∙ (sym (written_for-append session (whole_lines s.script) (whole_lines rest))
          ∙ ap (written_for session) (sym whole)))));
      answers = m.answers
          ∙ (ap (λ p. text_behind p text (map cut_reading (given fed))) o
          ∙ (ap (text_behind session.settings text) readings
          ∙ (ap (λ t. text_behind session.settings t (map reading_of (whole_lines rest))) s.answers
          ∙ (sym (text_behind-lines session.settings session.text (whole_lines s.script) (whole_lines rest))
          ∙ ap (λ lines. text_behind session.settings session.text (map reading_of lines)) (sym whole)))));
      pending = pending-left left fed.cuts s.script piece m.none_left (m.ended ∙ m.going) m.last feeds;
      going = m.ended ∙ m.going;
      reads_stand = m.reads_stand ∙ s.reads_stand;
      writes_stand = m.writes_stand ∙ s.writes_stand;
    }

-- the script ends, and its last line has its reply
pub serving-done : {before now after : Outside} {session : Session} {text : List ℕ} {cutter : Cutting}
    {taken : ℕ} (same : Settings) (last : Cutting) (n : ℕ) (into : List ℕ)
    → same ≡ session.settings → Serving before now session text cutter taken → taken < most_script_bytes → n ≡ 0
    → GivesFront now.left after.left n into
    → last.cuts ≡ cutter.cuts → last.ended ≡ true → after.held
    ≡ appended now.held (replies_to same text (map cut_reading (given last)))
    → after.reads ≡ now.reads → after.writes ≡ now.writes → IsDone before after session
serving-done {before} {now} {after} {session} {text} {cutter} {taken} same last n into o s short z g c e w r
    f =
    let readings = readings_given-ended last.cuts last.ended s.script (c ∙ s.pending) e in
    let lines = line_if_any (unfinished s.script) in
    record {
      script = s.script;
      takes = takes-end before.left now.left after.left s.script n into z g s.takes;
      ended = gives-end now.left after.left n into z g;
      short = subst (λ k. k < most_script_bytes) (sym s.count) short;
      writes = w
          ∙ (ap (λ h. appended h (replies_to same text (map cut_reading (given last)))) s.writes
          ∙ (appended-appended before.held (written_for session (whole_lines s.script))
          (replies_to same text (map cut_reading (given last)))
          ∙ ap (appended before.held)
          (ap (λ later. written_for session (whole_lines s.script) ++ later)
          (ap (λ p. replies_to p text (map cut_reading (given last))) o
          ∙ (ap (replies_to session.settings text) readings
          ∙ ap (λ t. replies_to session.settings t (map reading_of lines)) s.answers))
          ∙ sym (written_for-append session (whole_lines s.script) lines))));
      reads_stand = r ∙ s.reads_stand;
      writes_stand = f ∙ s.writes_stand;
    }

-- some was taken, and each whole line of it has its reply
abbrev pub serving-cut : {before now after : Outside} {session : Session} {text : List ℕ} {cutter : Cutting}
    {taken : ℕ}
    → Serving before now session text cutter taken → after.left ≡ now.left
    → after.held ≡ now.held → after.writes ≡ now.writes
    → IsCut before after session
serving-cut {before} s l h w = record {
  script = s.script;
  takes = subst (λ left. Takes before.left left s.script) (sym l) s.takes;
  writes = h ∙ s.writes;
  writes_stand = w ∙ s.writes_stand;
}

-- where a front of the replies to the next lines was added, what was written is a front of all
front-of : {before now : Outside} (after : Outside) {session : Session} {text : List ℕ} {cutter : Cutting}
    {taken : ℕ} (s : Serving before now session text cutter taken) (lines : List (List ℕ))
    → ((bytes : List ℕ) → before.left ≡ Some bytes → (more : List (List ℕ))
    × (script_lines bytes ≡ whole_lines s.script ++ (lines ++ more)))
    → WritesFront now.held after.held (replies_to session.settings text (map reading_of lines))
    → IsFront before after session
front-of {before} {now} after {session} {text} s lines h f = record {
  front = λ bytes told.
      let more = h bytes told in
      let start = written_for session (whole_lines s.script) in
      let next = replies_to session.settings text (map reading_of lines) in
      let later = replies_to session.settings (text_behind session.settings session.text (map reading_of (whole_lines s.script ++ lines)))
      (map reading_of more.0) in
      let two : written_for session (whole_lines s.script ++ lines) ≡ start ++ next =
      written_for-append session (whole_lines s.script) lines
      ∙ ap (λ t. start ++ replies_to session.settings t (map reading_of lines)) (sym s.answers) in
      let all : start ++ (next ++ later) ≡ written_for session (script_lines bytes) =
      sym (append_assoc start next later)
      ∙ (ap (λ front. front ++ later) (sym two)
      ∙ (sym (written_for-append session (whole_lines s.script ++ lines) more.0)
      ∙ ap (written_for session) (append_assoc (whole_lines s.script) lines more.0 ∙ sym more.1))) in
      let begun : WritesUpTo before.held now.held (written_for session (script_lines bytes)) (next ++ later) =
      record { part = start; whole = all; adds = s.writes } in
      front_of_more later begun f;
}

-- nothing more was written
pub front-at : {before now : Outside} (after : Outside) {session : Session} {text : List ℕ} {cutter : Cutting}
    {taken : ℕ}
    → Serving before now session text cutter taken → after.held ≡ now.held → IsFront before after session
front-at {before} {now} after {session} {text} s h =
    front-of after s []
    (λ bytes told. let r = taken_of bytes s.script before.left now.left told s.takes in
    (script_lines (unfinished s.script ++ r.0), ap script_lines r.1 ∙ script_lines-append s.script r.0))
    (subst (λ held. WritesFront now.held held []) (sym h) (nothing_written now.held []))

-- the replies to the whole lines of the next piece were cut short
pub front-more : {before now : Outside} (after : Outside) {session : Session} {text : List ℕ}
    {cutter : Cutting} {taken : ℕ} (same : Settings) (fed : Cutting) (n : ℕ) (into : List ℕ)
    → same ≡ session.settings → Serving before now session text cutter taken → GivesFront now.left after.left n into
    → ((bytes : List ℕ) → cutter.cuts ≡ cuts_of bytes → fed.cuts ≡ cuts_of (bytes ++ take n into)) → fed.ended ≡ false
    → WritesFront now.held after.held (replies_to same text (map cut_reading (given fed)))
    → IsFront before after session
front-more {before} {now} after {session} {text} same fed n into o s g feeds going f =
    let piece = take n into in
    let last = unfinished s.script ++ piece in
    let readings = readings_given-going fed.cuts fed.ended last (feeds (unfinished s.script) s.pending) going in
    front-of after s (whole_lines last)
    (λ bytes told. let r = taken_of bytes (s.script ++ piece) before.left after.left told
    (takes-more before.left now.left after.left s.script piece s.takes
    (gives-takes now.left after.left n into g)) in (
      script_lines (unfinished last ++ r.0),
      ap script_lines (r.1 ∙ append_assoc s.script piece r.0)
          ∙ (script_lines-append s.script (piece ++ r.0)
          ∙ ap (λ lines. whole_lines s.script ++ lines)
          (ap script_lines (sym (append_assoc (unfinished s.script) piece r.0)) ∙ script_lines-append last r.0)),
    ))
    (subst (λ all. WritesFront now.held after.held all)
    (ap (λ p. replies_to p text (map cut_reading (given fed))) o ∙ ap (replies_to session.settings text) readings) f)

-- the reply to the last line was cut short
pub front-last : {before now : Outside} (after : Outside) {session : Session} {text : List ℕ}
    {cutter : Cutting} {taken : ℕ} (same : Settings) (last : Cutting) (n : ℕ) (into : List ℕ)
    → same ≡ session.settings → Serving before now session text cutter taken → n ≡ 0
    → GivesFront now.left after.left n into
    → last.cuts ≡ cutter.cuts → last.ended ≡ true
    → WritesFront now.held after.held (replies_to same text (map cut_reading (given last)))
    → IsFront before after session
front-last {before} {now} after {session} {text} same last n into o s z g c e f =
    let readings = readings_given-ended last.cuts last.ended s.script (c ∙ s.pending) e in
    let lines = line_if_any (unfinished s.script) in
    front-of after s lines
    (λ bytes told. let r = taken_of bytes s.script before.left after.left told
    (takes-end before.left now.left after.left s.script n into z g s.takes) in (
      [],
      ap script_lines (r.1 ∙ (ap (λ rest. s.script ++ rest)
          (nothing_rest after.left r.0 r.2 (gives-end now.left after.left n into z g)) ∙ append-nil s.script))
          ∙ ap (λ ls. whole_lines s.script ++ ls) (sym (append-nil lines)),
    ))
    (subst (λ all. WritesFront now.held after.held all)
    (ap (λ p. replies_to p text (map cut_reading (given last))) o ∙ ap (replies_to session.settings text) readings) f)

-- an end at a reply is an end of the run
pub reply-end : (before after : Outside) (session : Session) (writes : ℕ) (e : Status) → writes
    ≡ before.writes → after.reads ≡ before.reads
    → IsReplyEnd writes after.writes e → IsFront before after session → IsEnd before after session e
reply-end before after session writes status.WriteFault w r i f = (f, subst (λ k. risen k ≤ after.writes) w i, r)
reply-end before after session writes status.Memory w r i f = (f, i ∙ w, r)
reply-end before after session writes status.Done w r i f = absurd i
reply-end before after session writes status.Words w r i f = absurd i
reply-end before after session writes status.TextFile w r i f = absurd i
reply-end before after session writes status.GrammarFile w r i f = absurd i
reply-end before after session writes status.BracketFile w r i f = absurd i
reply-end before after session writes status.ReadFault w r i f = absurd i
reply-end before after session writes status.ScriptFull w r i f = absurd i

-- nothing was written before the open reply; of that a front
pub front-opened : (before after : Outside) (session : Session)
    → WritesFront before.held after.held (reply_text (opened session)) → IsFront before after session
front-opened before after session f = record {
  front = λ script told.
      front_of_more (replies_to session.settings session.text (map reading_of (script_lines script)))
      (none_written before.held (written_for session (script_lines script))) f;
}

pub front-nothing : (before after : Outside) (session : Session) → after.held ≡ before.held
    → IsFront before after session
front-nothing before after session h = record {
  front = λ script told.
      subst (λ held. WritesFront before.held held (written_for session (script_lines script))) (sym h)
      (nothing_written before.held (written_for session (script_lines script)));
}
