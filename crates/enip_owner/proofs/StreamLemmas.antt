-- Streams that are taken line by line.
use Rattle.std.proofs.Common.{◌≡◌, ℕ, ◌+◌, ◌-◌, ◌<◌, ◌≤◌, ◌==◌, nat_lt, Bool, true, false, List, [], ◌∷◌, ◌++◌, length, take, drop, map, flat_map, cond}
use Rattle.std.proofs.Common.{refl, sym, ap, subst, ◌∙◌, append_assoc, append-nil, arith}
use Rattle.std.proofs.lemmas.Bool.{or_parts}
use Rattle.std.proofs.lemmas.Bool.Decides.{nat_tests}
use Rattle.std.proofs.lemmas.List.{length-append}
use Rattle.enip_lines.specs.InputLines.{has_newline}
use Rattle.enip_owner.specs.declared.line_buffer.TheConstants.{LINE_LIMIT}
use Rattle.enip_owner.specs.declared.line_buffer.LineOutcome.{LineOutcome}
use Rattle.enip_owner.specs.declared.line_buffer.LineOutcome.TheVariants.{Unfinished, Whole, TooLong}
use Rattle.enip_owner.specs.Streams.{in_first, ended_texts, StreamLine, Line, LongLine, line_of, lines_of, BufferedLine, no_line, begun, overlong}
use Rattle.enip_owner.specs.Streams.{with_byte, with_bytes, closed, ended_line, lines_after, line_after, lines_of_pieces, outcome_of, lines_in, IsFed}

-- ---- bytes within a line

lines_over : (line : BufferedLine) (front more : List ℕ) → has_newline front ≡ false
    → lines_after line (front ++ more) ≡ lines_after (with_bytes line front) more
unfolding lines_after
lines_over line [] more none = refl
lines_over line (byte ∷ front) more none =
    let (here, later) = or_parts (byte == 10) (has_newline front) none in
    rw here (lines_over (with_byte line byte) front more later)

line_over : (line : BufferedLine) (front more : List ℕ) → has_newline front ≡ false
    → line_after line (front ++ more) ≡ line_after (with_bytes line front) more
unfolding line_after
line_over line [] more none = refl
line_over line (byte ∷ front) more none =
    let (here, later) = or_parts (byte == 10) (has_newline front) none in
    rw here (line_over (with_byte line byte) front more later)

lines_end : (line : BufferedLine) (more : List ℕ) → lines_after line (10 ∷ more) ≡ ended_line line ∷ lines_after no_line more
unfolding lines_after
lines_end line more = refl

line_end : (line : BufferedLine) (more : List ℕ) → line_after line (10 ∷ more) ≡ line_after no_line more
unfolding line_after
line_end line more = refl

lines_none : (line : BufferedLine) → lines_after line [] ≡ []
unfolding lines_after
lines_none line = refl

line_none : (line : BufferedLine) → line_after line [] ≡ line
unfolding line_after
line_none line = refl

-- ---- the bytes of a line

long_line : (text : List ℕ) (ended : Bool) (bytes : List ℕ)
    → with_bytes (record { text = text; is_long = true; has_ended = ended }) bytes ≡ record { text = text; is_long = true; has_ended = ended }
long_line text ended [] = refl
long_line text ended (byte ∷ bytes) = long_line text ended bytes

pub long_stays : (line : BufferedLine) (bytes : List ℕ) → line.is_long ≡ true → with_bytes line bytes ≡ line
long_stays line bytes is =
    subst (λ (b : Bool). with_bytes (record line { is_long = b }) bytes ≡ record line { is_long = b }) (sym is)
    (long_line line.text line.has_ended bytes)

abbrev short_with : List ℕ → Bool → BufferedLine
short_with text ended = record { text = text; is_long = false; has_ended = ended }

short_line : (text : List ℕ) (ended : Bool) (bytes : List ℕ) → length text + length bytes ≤ LINE_LIMIT
    → with_bytes (short_with text ended) bytes ≡ short_with (text ++ bytes) ended
short_line text ended [] fits = ap (λ (t : List ℕ). short_with t ended) (sym (append-nil text))
short_line text ended (byte ∷ bytes) fits =
    let here : nat_lt (length text) LINE_LIMIT ≡ true = grind (arith, nat_tests) in
    rw here
    (short_line (text ++ byte ∷ []) ended bytes (omega (arith, fits, length-append text (byte ∷ [])))
    ∙ ap (λ (t : List ℕ). short_with t ended) (append_assoc text (byte ∷ []) bytes))

pub short_grows : (line : BufferedLine) (bytes : List ℕ) → line.is_long ≡ false → length line.text + length bytes ≤ LINE_LIMIT
    → with_bytes line bytes ≡ record line { text = line.text ++ bytes }
short_grows line bytes is fits =
    subst (λ (b : Bool). with_bytes (record line { is_long = b }) bytes ≡ record line { is_long = b; text = line.text ++ bytes }) (sym is)
    (short_line line.text line.has_ended bytes fits)

abbrev overlong_with : Bool → BufferedLine
overlong_with ended = record { text = []; is_long = true; has_ended = ended }

long_at : (text : List ℕ) (ended : Bool) (byte : ℕ) (bytes : List ℕ) (room : Bool) → nat_lt (length text) LINE_LIMIT ≡ room
    → length text ≤ LINE_LIMIT → LINE_LIMIT < length text + length (byte ∷ bytes)
    → ((longer : List ℕ) → length longer ≤ LINE_LIMIT → LINE_LIMIT < length longer + length bytes
    → with_bytes (short_with longer ended) bytes ≡ overlong_with ended)
    → with_bytes (short_with text ended) (byte ∷ bytes) ≡ overlong_with ended
long_at text ended byte bytes true room fits over more =
    let one : length (text ++ byte ∷ []) ≡ length text + 1 = length-append text (byte ∷ []) in
    let below : length text < LINE_LIMIT = grind (arith, nat_tests) in
    rw room (more (text ++ byte ∷ []) (omega (arith, one, below)) (omega (arith, one, over)))
long_at text ended byte bytes false room fits over more = rw room (long_line [] ended bytes)

long_from : (text : List ℕ) (ended : Bool) (bytes : List ℕ) → length text ≤ LINE_LIMIT → LINE_LIMIT < length text + length bytes
    → with_bytes (short_with text ended) bytes ≡ overlong_with ended
long_from text ended [] fits over = absurd (omega (arith, fits, over))
long_from text ended (byte ∷ bytes) fits over =
    long_at text ended byte bytes (nat_lt (length text) LINE_LIMIT) refl fits over
    (λ longer fits_too over_too. long_from longer ended bytes fits_too over_too)

pub grows_long : (line : BufferedLine) (bytes : List ℕ) → line.is_long ≡ false → length line.text ≤ LINE_LIMIT
    → LINE_LIMIT < length line.text + length bytes → with_bytes line bytes ≡ overlong line
grows_long line bytes is fits over =
    subst (λ (b : Bool). with_bytes (record line { is_long = b }) bytes ≡ overlong line) (sym is)
    (long_from line.text line.has_ended bytes fits over)

still_open_at : (line : BufferedLine) (byte : ℕ) (long room : Bool) → line.is_long ≡ long → nat_lt (length line.text) LINE_LIMIT ≡ room
    → (with_byte line byte).has_ended ≡ line.has_ended
still_open_at line byte true room is has = rw is refl
still_open_at line byte false true is has = rw (is, has) refl
still_open_at line byte false false is has = rw (is, has) refl

still_open : (line : BufferedLine) (bytes : List ℕ) → (with_bytes line bytes).has_ended ≡ line.has_ended
still_open line [] = refl
still_open line (byte ∷ bytes) =
    still_open (with_byte line byte) bytes
    ∙ still_open_at line byte line.is_long (nat_lt (length line.text) LINE_LIMIT) refl refl

begun_open : (line : BufferedLine) (ended : Bool) → line.has_ended ≡ ended → (begun line).has_ended ≡ false
begun_open line true is = rw is refl
begun_open line false is = rw is refl

open_begun : (line : BufferedLine) → line.has_ended ≡ false → begun line ≡ line
open_begun line is = rw is refl

-- ---- one call

ended_in : (line : BufferedLine) (long : Bool) (lines : List StreamLine) → line.is_long ≡ long
    → ended_line line ∷ lines ≡ lines_in (outcome_of long) (closed line) ++ lines
ended_in line true lines is = rw is refl
ended_in line false lines is = rw is refl

finished : (long : Bool) (rest : List ℕ) → outcome_of long ≡ Unfinished → rest ≡ []
finished true rest is = cc
finished false rest is = cc

pub fed_line : (old : BufferedLine) (bytes front rest : List ℕ) → bytes ≡ front ++ 10 ∷ rest → has_newline front ≡ false
    → IsFed old bytes (outcome_of (with_bytes (begun old) front).is_long) rest (closed (with_bytes (begun old) front))
fed_line old bytes front rest parts none =
    let line : BufferedLine = with_bytes (begun old) front in record {
      lines = ap (lines_after (begun old)) parts ∙ lines_over (begun old) front (10 ∷ rest) none ∙ lines_end line rest
          ∙ ended_in line line.is_long (lines_after no_line rest) refl;
      left = ap (line_after (begun old)) parts ∙ line_over (begun old) front (10 ∷ rest) none ∙ line_end line rest;
      unfinished = finished line.is_long rest;
    }

pub fed_part : (old : BufferedLine) (bytes : List ℕ) → has_newline bytes ≡ false
    → IsFed old bytes Unfinished [] (with_bytes (begun old) bytes)
fed_part old bytes none =
    let line : BufferedLine = with_bytes (begun old) bytes in
    let same : begun line ≡ line = open_begun line (still_open (begun old) bytes ∙ begun_open old old.has_ended refl) in record {
      lines = ap (lines_after (begun old)) (sym (append-nil bytes)) ∙ lines_over (begun old) bytes [] none ∙ lines_none line
          ∙ sym (lines_none (begun line));
      left = ap (line_after (begun old)) (sym (append-nil bytes)) ∙ line_over (begun old) bytes [] none
          ∙ ap (λ (l : BufferedLine). line_after l []) (sym same);
      unfinished = λ is. refl;
    }

-- `&bytes[bytes.len()..]`
pub none_left : (bytes : List ℕ) → take (length bytes - length bytes) (drop (length bytes) bytes) ≡ []
none_left bytes =
    let none : length bytes - length bytes ≡ 0 = omega arith in ap (λ (n : ℕ). take n (drop (length bytes) bytes)) none

-- ---- the lines of the whole stream

-- The line that has these bytes so far.
abbrev with_text : List ℕ → BufferedLine
with_text text = cond (nat_lt LINE_LIMIT (length text)) (overlong no_line) (record no_line { text = text })

abbrev prefixed : List ℕ → List (List ℕ) → List (List ℕ)
prefixed text [] = []
prefixed text (first ∷ texts) = (text ++ first) ∷ texts

prefixed-nil : (texts : List (List ℕ)) → prefixed [] texts ≡ texts
prefixed-nil [] = refl
prefixed-nil (first ∷ texts) = refl

prefixed-first : (text : List ℕ) (byte : ℕ) (texts : List (List ℕ)) → prefixed text (in_first byte texts) ≡ prefixed (text ++ byte ∷ []) texts
prefixed-first text byte [] = refl
prefixed-first text byte (first ∷ texts) = ap (λ (t : List ℕ). t ∷ texts) (sym (append_assoc text (byte ∷ []) first))

ended_with_text : (text : List ℕ) (long : Bool) → nat_lt LINE_LIMIT (length text) ≡ long → ended_line (with_text text) ≡ line_of text
ended_with_text text true is = rw is refl
ended_with_text text false is = rw is refl

with_text_more : (text : List ℕ) (byte : ℕ) (long longer : Bool) → nat_lt LINE_LIMIT (length text) ≡ long
    → nat_lt LINE_LIMIT (length (text ++ byte ∷ [])) ≡ longer → with_byte (with_text text) byte ≡ with_text (text ++ byte ∷ [])
with_text_more text byte true true is more = rw (is, more) refl
with_text_more text byte true false is more =
    absurd (let one : length (text ++ byte ∷ []) ≡ length text + 1 = length-append text (byte ∷ []) in grind (arith, nat_tests, one, is, more))
with_text_more text byte false true is more =
    let one : length (text ++ byte ∷ []) ≡ length text + 1 = length-append text (byte ∷ []) in
    let full : nat_lt (length text) LINE_LIMIT ≡ false = grind (arith, nat_tests, one, is, more) in
    rw (is, more, full) refl
with_text_more text byte false false is more =
    let one : length (text ++ byte ∷ []) ≡ length text + 1 = length-append text (byte ∷ []) in
    let room : nat_lt (length text) LINE_LIMIT ≡ true = grind (arith, nat_tests, one, is, more) in
    rw (is, more, room) refl

lines_at_byte : (text : List ℕ) (byte : ℕ) (bytes : List ℕ) (ends : Bool) → (byte == 10) ≡ ends
    → ((longer : List ℕ) → lines_after (with_text longer) bytes ≡ map line_of (prefixed longer (ended_texts bytes)))
    → lines_after (with_text text) (byte ∷ bytes) ≡ map line_of (prefixed text (ended_texts (byte ∷ bytes)))
unfolding lines_after ended_texts
lines_at_byte text byte bytes true is rest =
    let here : ended_line (with_text text) ≡ line_of (text ++ []) =
    ended_with_text text (nat_lt LINE_LIMIT (length text)) refl ∙ ap line_of (sym (append-nil text)) in
    let later : lines_after no_line bytes ≡ map line_of (ended_texts bytes) = rest [] ∙ ap (map line_of) (prefixed-nil (ended_texts bytes)) in
    rw is (ap (λ (l : StreamLine). l ∷ lines_after no_line bytes) here ∙ ap (λ (ls : List StreamLine). line_of (text ++ []) ∷ ls) later)
lines_at_byte text byte bytes false is rest =
    let more : with_byte (with_text text) byte ≡ with_text (text ++ byte ∷ []) =
    with_text_more text byte (nat_lt LINE_LIMIT (length text)) (nat_lt LINE_LIMIT (length (text ++ byte ∷ []))) refl refl in
    rw is
    (ap (λ (l : BufferedLine). lines_after l bytes) more ∙ rest (text ++ byte ∷ [])
    ∙ ap (map line_of) (sym (prefixed-first text byte (ended_texts bytes))))

lines_with_text : (text bytes : List ℕ) → lines_after (with_text text) bytes ≡ map line_of (prefixed text (ended_texts bytes))
unfolding lines_after ended_texts
lines_with_text text [] = refl
lines_with_text text (byte ∷ bytes) = lines_at_byte text byte bytes (byte == 10) refl (λ longer. lines_with_text longer bytes)

lines_of_all : (bytes : List ℕ) → lines_after no_line bytes ≡ lines_of bytes
lines_of_all bytes = lines_with_text [] bytes ∙ ap (map line_of) (prefixed-nil (ended_texts bytes))

-- ---- pieces

lines_cut_at : (line : BufferedLine) (byte : ℕ) (front back : List ℕ) (ends : Bool) → (byte == 10) ≡ ends
    → ((next : BufferedLine) → lines_after next (front ++ back) ≡ lines_after next front ++ lines_after (line_after next front) back)
    → lines_after line (byte ∷ (front ++ back)) ≡ lines_after line (byte ∷ front) ++ lines_after (line_after line (byte ∷ front)) back
unfolding lines_after line_after
lines_cut_at line byte front back true is rest = rw is (ap (λ (ls : List StreamLine). ended_line line ∷ ls) (rest no_line))
lines_cut_at line byte front back false is rest = rw is (rest (with_byte line byte))

lines_cut : (line : BufferedLine) (front back : List ℕ)
    → lines_after line (front ++ back) ≡ lines_after line front ++ lines_after (line_after line front) back
unfolding lines_after line_after
lines_cut line [] back = refl
lines_cut line (byte ∷ front) back = lines_cut_at line byte front back (byte == 10) refl (λ next. lines_cut next front back)

lines_joined : (line : BufferedLine) (pieces : List (List ℕ))
    → lines_of_pieces line pieces ≡ lines_after line (flat_map (λ (piece : List ℕ). piece) pieces)
lines_joined line [] = sym (lines_none line)
lines_joined line (piece ∷ pieces) =
    ap (λ (ls : List StreamLine). lines_after line piece ++ ls) (lines_joined (line_after line piece) pieces)
    ∙ sym (lines_cut line piece (flat_map (λ (p : List ℕ). p) pieces))

pub same_lines : (pieces : List (List ℕ)) → lines_of_pieces no_line pieces ≡ lines_of (flat_map (λ (piece : List ℕ). piece) pieces)
same_lines pieces = lines_joined no_line pieces ∙ lines_of_all (flat_map (λ (piece : List ℕ). piece) pieces)

-- Without a newline no line has ended.
none_ended : (bytes : List ℕ) → has_newline bytes ≡ false → ended_texts bytes ≡ []
unfolding ended_texts
none_ended [] none = refl
none_ended (byte ∷ bytes) none =
    let (here, later) = or_parts (byte == 10) (has_newline bytes) none in
    rw here (ap (in_first byte) (none_ended bytes later))

pub no_line_yet : (bytes : List ℕ) → has_newline bytes ≡ false → lines_of bytes ≡ []
no_line_yet bytes none = ap (map line_of) (none_ended bytes none)

-- A text without a newline and its newline are one line.
pub line_alone : (text : List ℕ) → has_newline text ≡ false → length text ≤ LINE_LIMIT → lines_of (text ++ 10 ∷ []) ≡ Line text ∷ []
line_alone text none fits =
    sym (lines_of_all (text ++ 10 ∷ [])) ∙ lines_over no_line text (10 ∷ []) none ∙ lines_end (with_bytes no_line text) []
    ∙ ap (λ (l : BufferedLine). ended_line l ∷ lines_after no_line []) (short_grows no_line text refl (omega (arith, fits)))
    ∙ ap (λ (ls : List StreamLine). Line text ∷ ls) (lines_none no_line)
