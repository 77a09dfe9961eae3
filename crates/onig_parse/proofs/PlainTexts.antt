-- A text without signs is read as one list, with an item for each character.
use Rattle.std.proofs.Common.{◌≡◌, ℕ, suc, ◌+◌, ◌-◌, ◌<◌, ◌≤◌, ◌==◌, List, [], ◌∷◌, ◌++◌, length, drop, get_or, min}
use Rattle.std.proofs.Common.{false, Option, None, Ok, subst, sym, ap, refl, ◌∙◌, arith}
use Rattle.std.specs.List.{list_any}
use Rattle.std.proofs.lemmas.Bool.{or_parts, le-ltb, false_from_ne_true, false≢true}
use Rattle.std.proofs.lemmas.List.{length-drop, drop-drop, append-nil, append_assoc}
use Rattle.std.proofs.lemmas.List.Folds.{list_any_at}
use Rattle.std.proofs.Math.Seq.{drop-cons}
use Rattle.syntax_defs.specs.declared.items.Item.{Item}
use Rattle.syntax_defs.specs.declared.items.Item.TheVariants.{One}
use Rattle.syntax_defs.specs.declared.items.Sight.TheVariants.{Single}
use Rattle.syntax_defs.specs.Limits.{most_pattern_chars}
use Rattle.syntax_defs.specs.Sights.{sight_at}
use Rattle.syntax_defs.specs.Classes.{is_char_folded}
use Rattle.syntax_defs.specs.Singles.{single_at}
use Rattle.syntax_defs.specs.PatternSyntax.{Seen, Body, BodyReader, Parsed, rest_of, at_place, adds, go_on, with_item}
use Rattle.syntax_defs.specs.PatternSyntax.{open_items, with_list, next_id, step_by, step, steps, body_at, empty_body}
use Rattle.syntax_defs.specs.PatternSyntax.{parsed_of, whole_by, no_options, items_of, listed, start, parse}
use Rattle.syntax_defs.specs.Lengths.{lengths_of, late_in, kept_unless, tested, read_within, read_pattern}
use Rattle.syntax_defs.specs.Reading.{◌>>=◌}
use Rattle.onig_parse.proofs.BodySteps.{body_at-steps, steps-more, steps-end}
use Rattle.onig_parse.specs.ReadingLaws.{is_sign, ones_from, plain_text, TakesEach, PlainTextsAreRead}

-- one character

-- the character is none of the signs
record NoSign (c : ℕ) : Type 0 where
  pub slash : (c == 92) ≡ false
  pub bracket : (c == 91) ≡ false
  pub opened : (c == 40) ≡ false
  pub closed : (c == 41) ≡ false
  pub brace : (c == 123) ≡ false
  pub star : (c == 42) ≡ false
  pub plus : (c == 43) ≡ false
  pub question : (c == 63) ≡ false
  pub bar : (c == 124) ≡ false
  pub caret : (c == 94) ≡ false
  pub dollar : (c == 36) ≡ false
  pub dot : (c == 46) ≡ false

no_sign : (c : ℕ) → is_sign c ≡ false → NoSign c
no_sign c e =
    let slash = or_parts (c == 92) _ e in
    let bracket = or_parts (c == 91) _ slash.1 in
    let opened = or_parts (c == 40) _ bracket.1 in
    let closed = or_parts (c == 41) _ opened.1 in
    let brace = or_parts (c == 123) _ closed.1 in
    let star = or_parts (c == 42) _ brace.1 in
    let plus = or_parts (c == 43) _ star.1 in
    let question = or_parts (c == 63) _ plus.1 in
    let bar = or_parts (c == 124) _ question.1 in
    let caret = or_parts (c == 94) _ bar.1 in
    let dollar = or_parts (c == 36) _ caret.1 in
    let dot = or_parts (c == 46) _ dollar.1 in
    record {
      slash = slash.0;
      bracket = bracket.0;
      opened = opened.0;
      closed = closed.0;
      brace = brace.0;
      star = star.0;
      plus = plus.0;
      question = question.0;
      bar = bar.0;
      caret = caret.0;
      dollar = dollar.0;
      dot = dot.0;
    }

plain_sight : (c : ℕ) (cs : List ℕ) → NoSign c → sight_at no_options (c ∷ cs) ≡ Single
plain_sight c cs is =
    rw (is.bar, is.closed, is.opened, is.star, is.plus, is.question, is.brace, is.caret, is.dollar, is.slash) refl

plain_single : (c place : ℕ) (cs : List ℕ) → NoSign c → single_at no_options 0 place (c ∷ cs)
    ≡ Ok (record { value = is_char_folded false c; place = place + 1; rest = cs })
plain_single c place cs is = rw (is.dot, is.slash, is.bracket) refl

plain_step : (go : BodyReader) (b : Body) (s : Seen) (c : ℕ) (cs : List ℕ) → rest_of s ≡ c ∷ cs → is_sign c ≡ false
    → step go 100 no_options b s ≡ go_on (with_item (One s.place no_options 0 ∷ []) b)
    (record s { place = s.place + 1 })
plain_step go b s c cs e plain =
    let single : single_at no_options 0 s.place (rest_of s)
    ≡ Ok (record { value = is_char_folded false c; place = s.place + 1; rest = cs }) =
    subst (λ t. single_at no_options 0 s.place t
    ≡ Ok (record { value = is_char_folded false c; place = s.place + 1; rest = cs })) (sym e)
    (plain_single c s.place cs (no_sign c plain)) in
    let some : length (rest_of s) ≡ length (c ∷ cs) = ap length e in
    let place : min (s.place + 1) (length s.text) ≡ s.place + 1 = omega (arith, length-drop s.place s.text) in
    ap (λ sight. step_by go 100 no_options sight b s)
    (subst (λ t. sight_at no_options t ≡ Single) (sym e) (plain_sight c cs (no_sign c plain)))
    ∙ ap (λ read. adds b (read >>= λ x. Ok (One s.place no_options 0 ∷ [], at_place x.place s))) single
    ∙ ap (λ n. go_on (with_item (One s.place no_options 0 ∷ []) b) (record s { place = n })) place

-- bodies

-- the body behind characters that are no signs: its items go on with theirs
record PlainPart (go : BodyReader) (count : ℕ) (b : Body) (s : Seen) (cs : List ℕ) : Type 0 where
  pub body : Body
  pub place : ℕ
  pub read : steps go count 100 no_options b s ≡ Ok (body, record s { place = place })
  pub items : open_items body ≡ open_items b ++ ones_from s.place cs
  pub ended : body.ended ≡ b.ended
  pub end : drop place s.text ≡ []

plain_steps : (go : BodyReader) (count : ℕ) (b : Body) (s : Seen) (cs : List ℕ) → rest_of s ≡ cs → list_any is_sign cs
    ≡ false → length cs < count → PlainPart go count b s cs
plain_steps go count b s [] e plain h = record {
  body = b;
  place = s.place;
  read = steps-end go count 100 no_options b s b s (omega arith)
      (ap (λ t. step_by go 100 no_options (sight_at no_options t) b s) e);
  items = sym (append-nil (open_items b));
  ended = refl;
  end = e;
}
plain_steps go count b s (c ∷ cs) e plain h =
    let parts = or_parts (is_sign c) (list_any is_sign cs) plain in
    let one : List Item = One s.place no_options 0 ∷ [] in
    let next : Seen = record s { place = s.place + 1 } in
    let left : drop (s.place + 1) s.text ≡ cs = sym (drop-drop 1 s.place s.text) ∙ ap (drop 1) e in
    let later = plain_steps go (count - 1) (with_item one b) next cs left parts.1 (omega arith) in
    record {
      body = later.body;
      place = later.place;
      read = steps-more go count 100 no_options b s (with_item one b) next (omega arith)
          (plain_step go b s c cs e parts.0) ∙ later.read;
      items = later.items ∙ append_assoc (open_items b) one (ones_from (s.place + 1) cs);
      ended = later.ended;
      end = later.end;
    }

-- the whole

plain_whole : (b : Body) (s : Seen) → rest_of s ≡ [] → b.ended ≡ [] → whole_by (rest_of s) b s
    ≡ Ok (parsed_of (next_id s, with_list (open_items b) s))
plain_whole b s e f = ap (λ cs. whole_by cs b s) e ∙ ap (λ ids. Ok (parsed_of (listed (items_of ids b s)))) f

plain_parse : (text : List ℕ) → list_any is_sign text ≡ false → parse text ≡ Ok (plain_text text)
plain_parse text plain =
    let part = plain_steps (body_at 100) (length text + 1) empty_body (start text) text refl plain (omega arith) in
    let s : Seen = record (start text) { place = part.place } in
    ap (λ read. read >>= λ r. whole_by (rest_of r.1) r.0 r.1)
    (sym (body_at-steps 101 no_options (start text) (omega arith)) ∙ part.read)
    ∙ plain_whole part.body s part.end part.ended
    ∙ ap (λ items. Ok (record { lists = items ∷ []; top = record { 0 = 0 }; groups = 0; names = [] })) part.items

-- no item is refused late
plain_late : (text : List ℕ) (parsed : Parsed) (lengths : List (Option ℕ)) (at : ℕ) (cs : List ℕ)
    → late_in text parsed lengths None (ones_from at cs) ≡ None
plain_late text parsed lengths at [] = refl
plain_late text parsed lengths at (c ∷ cs) = plain_late text parsed lengths (at + 1) cs

plain_read : (text : List ℕ) → list_any is_sign text ≡ false → length text ≤ most_pattern_chars → read_pattern text
    ≡ Ok (plain_text text)
plain_read text plain short =
    ap (λ long. read_within long text) (le-ltb most_pattern_chars (length text) short)
    ∙ ap (λ read. read >>= tested text) (plain_parse text plain)
    ∙ ap (λ place. kept_unless place (plain_text text))
    (plain_late text (plain_text text) (lengths_of (plain_text text).lists) 0 text)

plain_takes : (text : List ℕ) → list_any is_sign text ≡ false → TakesEach text
plain_takes text plain at inside =
    let behind : suc at ≡ at + 1 = omega arith in
    let rest : drop at text ≡ get_or text at 0 ∷ drop (at + 1) text =
    drop-cons text at 0 inside ∙ ap (λ n. get_or text at 0 ∷ drop n text) behind in
    let is = no_sign (get_or text at 0) (false_from_ne_true _
    (λ sign. absurd (false≢true (sym plain ∙ list_any_at is_sign text at 0 inside sign)))) in
    ap (single_at no_options 0 at) rest ∙ plain_single (get_or text at 0) at (drop (at + 1) text) is

pub plain_texts_are_read : PlainTextsAreRead
plain_texts_are_read text plain short = (plain_read text plain short, plain_takes text plain)
