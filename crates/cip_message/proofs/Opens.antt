-- An open request that is read is the one spelled, and what is spelled is read.
use Rattle.std.proofs.Common.{◌≡◌, ◌↔◌, ℕ, suc, ◌+◌, ◌*◌, ◌/◌, ◌%◌, ◌^◌, ◌<◌, ◌≤◌, Bool, true, false, cond, ltb, List, [], ◌∷◌, ◌++◌, length, slice_index, drop, Result, Ok, Err, refl, sym, ap, subst, ◌∙◌, arith}
use Rattle.std.proofs.Common.{append_assoc}
use Rattle.std.proofs.lemmas.Bool.{ltb-true, ltb-false, le-ltb, lt-ltb}
use Rattle.std.proofs.lemmas.List.{length-drop, get_or_append_left}
use Rattle.cip_bytes.specs.Numbers.{le, number_at, AreBytes}
use Rattle.cip_bytes.specs.Reading.{Gives}
use Rattle.cip_message.specs.declared.open.OpenRequest.{OpenRequest}
use Rattle.cip_message.specs.declared.open.LengthFault.{LengthFault}
use Rattle.cip_message.specs.declared.open.LengthFault.TheVariants.{Short, Long}
use Rattle.cip_bytes.proofs.Bytes.{AreBytes-drop, le2_again, le4_again, at1, at2, at3, at4, Parts, parts_then}
use Rattle.cip_bytes.proofs.Steps.{ok_is, gives_iff, iff_then}
use Rattle.cip_message.specs.Open.{Open, Layout, small, large, width, before_path, IsOpenIn, SpellsIn, front, back_in, open_with_in, open_fields_in, open_of_in, expected_length_in, OneOpenIn}
use Rattle.cip_bytes.proofs.Joined.{same_front}

abbrev pub made : ℕ → ℕ → ℕ → ℕ → ℕ → ℕ → ℕ → ℕ → ℕ → ℕ → ℕ → ℕ → ℕ → List ℕ → Open
made priority_and_tick_time timeout_ticks o_to_t_id t_to_o_id serial vendor originator timeout_multiplier o_to_t_rpi o_t t_to_o_rpi t_o transport path = record {
  priority_and_tick_time = priority_and_tick_time;
  timeout_ticks = timeout_ticks;
  o_to_t_id = o_to_t_id;
  t_to_o_id = t_to_o_id;
  connection_serial = serial;
  originator_vendor = vendor;
  originator_serial = originator;
  timeout_multiplier = timeout_multiplier;
  o_to_t_rpi = o_to_t_rpi;
  o_to_t_parameters = o_t;
  t_to_o_rpi = t_to_o_rpi;
  t_to_o_parameters = t_o;
  transport = transport;
  path = path;
}

-- the fields, one by one
pub same_open : (o : Open) (p t a b c d e m f g h i j : ℕ) (q : List ℕ) → p ≡ o.priority_and_tick_time → t ≡ o.timeout_ticks → a ≡ o.o_to_t_id → b ≡ o.t_to_o_id → c ≡ o.connection_serial → d ≡ o.originator_vendor → e ≡ o.originator_serial
    → m ≡ o.timeout_multiplier → f ≡ o.o_to_t_rpi → g ≡ o.o_to_t_parameters → h ≡ o.t_to_o_rpi → i ≡ o.t_to_o_parameters → j ≡ o.transport → q ≡ o.path → made p t a b c d e m f g h i j q ≡ o
same_open o p t a b c d e m f g h i j q ep et ea eb ec ed ee em ef eg eh ei ej eq =
    rw (ep, et, ea, eb, ec, ed, ee, em, ef, eg, eh, ei, ej, eq) refl

-- ---- what is read is a spelling

half_of : (n k : ℕ) → k ≡ 2 * n → (k / 2 ≡ n) × (k % 2 ≡ 0)
half_of n k e = (omega arith, omega arith)

front_text : (layout : Layout) (b : List ℕ) → AreBytes b → 18 ≤ length b → b ≡ front (open_fields_in layout b) ++ drop 18 b
front_text layout b fits h =
    let p0 = at1 0 b (omega arith) in
    let p1 = parts_then p0 (at1 1 b (omega arith)) in
    let p2 = parts_then p1 (at4 2 b fits (omega arith)) in
    let p3 = parts_then p2 (at4 6 b fits (omega arith)) in
    let p4 = parts_then p3 (at2 10 b fits (omega arith)) in
    let p5 = parts_then p4 (at2 12 b fits (omega arith)) in
    (parts_then p5 (at4 14 b fits (omega arith))).is

-- the parameters of a direction
at_parameters : (layout : Layout) (k : ℕ) (b : List ℕ) → AreBytes b → k + width layout ≤ length b
    → Parts (drop k b) (le (width layout) (number_at k (width layout) b)) (drop (k + width layout) b)
at_parameters small k b fits h = at2 k b fits h
at_parameters large k b fits h = at4 k b fits h

-- the same offset, written in another way
until : {b text : List ℕ} (whole : List ℕ) (k m : ℕ) → k ≡ m → Parts b text (drop k whole) → Parts b text (drop m whole)
until {b} {text} whole k m e p = subst (λ (i : ℕ). Parts b text (drop i whole)) e p

-- the second half of the fields, with any number as the path size
abbrev back_by : Layout → ℕ → ℕ → Open → List ℕ
back_by layout words reserved o =
    o.timeout_multiplier ∷ [] ++ le 3 reserved ++ le 4 o.o_to_t_rpi ++ le (width layout) o.o_to_t_parameters ++ le 4 o.t_to_o_rpi ++ le (width layout) o.t_to_o_parameters ++ o.transport ∷ words ∷ []

-- the byte before the path: its size in words
abbrev words_at : Layout → List ℕ → ℕ
words_at layout b = slice_index b (31 + 2 * width layout)

back_text : (layout : Layout) (b : List ℕ) → AreBytes b → before_path layout ≤ length b
    → drop 18 b ≡ back_by layout (words_at layout b) (number_at 19 3 b) (open_fields_in layout b) ++ drop (before_path layout) b
back_text layout b fits h =
    let w = width layout in
    let p0 = at1 18 b (omega arith) in
    let p1 = parts_then p0 (at3 19 b fits (omega arith)) in
    let p2 = parts_then p1 (at4 22 b fits (omega arith)) in
    let p3 = parts_then p2 (at_parameters layout 26 b fits (omega arith)) in
    let p4 = parts_then p3 (until b (26 + w + 4) (30 + w) (omega arith) (at4 (26 + w) b fits (omega arith))) in
    let p5 = parts_then p4 (until b (30 + w + w) (30 + 2 * w) (omega arith) (at_parameters layout (30 + w) b fits (omega arith))) in
    let last = parts_then (until b (suc (30 + 2 * w)) (31 + 2 * w) (omega arith) (at1 (30 + 2 * w) b (omega arith))) (until b (suc (31 + 2 * w)) (32 + 2 * w) (omega arith) (at1 (31 + 2 * w) b (omega arith))) in
    (parts_then p5 last).is

number2 : (k : ℕ) (b : List ℕ) → AreBytes b → number_at k 2 b < 2 ^ 16
number2 k b fits = let f = AreBytes-drop k b fits in omega (arith, f 0, f 1)

number4 : (k : ℕ) (b : List ℕ) → AreBytes b → number_at k 4 b < 2 ^ 32
number4 k b fits = let f = AreBytes-drop k b fits in omega (arith, f 0, f 1, f 2, f 3)

number_of_parameters : (layout : Layout) (k : ℕ) (b : List ℕ) → AreBytes b → number_at k (width layout) b < 2 ^ (8 * width layout)
number_of_parameters small k b fits = number2 k b fits
number_of_parameters large k b fits = number4 k b fits

fields_fit : (layout : Layout) (b : List ℕ) (n : ℕ) → AreBytes b → n ≡ words_at layout b → length b ≡ before_path layout + 2 * n → IsOpenIn layout (open_fields_in layout b)
fields_fit layout b n fits e len = record {
  front = record {
    priority_and_tick_time = fits 0;
    timeout_ticks = fits 1;
    o_to_t_id = number4 2 b fits;
    t_to_o_id = number4 6 b fits;
    connection_serial = number2 10 b fits;
    originator_vendor = number2 12 b fits;
    originator_serial = number4 14 b fits;
  };
  back = record {
    timeout_multiplier = fits 18;
    o_to_t_rpi = number4 22 b fits;
    o_to_t_parameters = number_of_parameters layout 26 b fits;
    t_to_o_rpi = number4 (26 + width layout) b fits;
    t_to_o_parameters = number_of_parameters layout (30 + width layout) b fits;
    transport = fits (30 + 2 * width layout);
  };
  whole_words = (half_of n (length (drop (before_path layout) b)) (omega (arith, length-drop (before_path layout) b))).1;
  counted = omega (arith, length-drop (before_path layout) b, fits (31 + 2 * width layout));
  path = AreBytes-drop (before_path layout) b fits;
}

open_text : (layout : Layout) (b : List ℕ) → AreBytes b → length b ≡ expected_length_in layout b → SpellsIn layout (open_fields_in layout b) b
open_text layout b fits len =
    let n = words_at layout b in
    let o = open_fields_in layout b in
    let rest = drop (before_path layout) b in
    let long : before_path layout ≤ length b = omega arith in
    let front_long : 18 ≤ length b = omega arith in
    let half : length rest / 2 ≡ n = (half_of n (length rest) (omega (arith, length-drop (before_path layout) b))).0 in
    let back_is = back_text layout b fits long ∙ ap (λ (k : ℕ). back_by layout k (number_at 19 3 b) o ++ rest) (sym half) in
    record {
      reserved = number_at 19 3 b;
      is_open = fields_fit layout b n fits refl len;
      spelled = front_text layout b fits front_long ∙ ap (λ (t : List ℕ). front o ++ t) back_is ∙ sym (append_assoc (front o) (back_in layout (number_at 19 3 b) o) rest);
    }

-- ---- what is spelled is read

spelled_length : (layout : Layout) (r : ℕ) (o : Open) → length (open_with_in layout r o) ≡ before_path layout + length o.path
spelled_length small r o = omega arith
spelled_length large r o = omega arith

spelled_said : (layout : Layout) (r : ℕ) (o : Open) → IsOpenIn layout o → expected_length_in layout (open_with_in layout r o) ≡ before_path layout + length o.path
spelled_said small r o h = let whole = h.whole_words in omega arith
spelled_said large r o h = let whole = h.whole_words in omega arith

spelled_fields : (layout : Layout) (r : ℕ) (o : Open) → IsOpenIn layout o → open_fields_in layout (open_with_in layout r o) ≡ o
spelled_fields small r o h =
    same_open o _ _ _ _ _ _ _ _ _ _ _ _ _ _ refl refl (le4_again o.o_to_t_id h.front.o_to_t_id []) (le4_again o.t_to_o_id h.front.t_to_o_id []) (le2_again o.connection_serial h.front.connection_serial [])
    (le2_again o.originator_vendor h.front.originator_vendor []) (le4_again o.originator_serial h.front.originator_serial []) refl (le4_again o.o_to_t_rpi h.back.o_to_t_rpi [])
    (le2_again o.o_to_t_parameters h.back.o_to_t_parameters []) (le4_again o.t_to_o_rpi h.back.t_to_o_rpi []) (le2_again o.t_to_o_parameters h.back.t_to_o_parameters []) refl refl
spelled_fields large r o h =
    same_open o _ _ _ _ _ _ _ _ _ _ _ _ _ _ refl refl (le4_again o.o_to_t_id h.front.o_to_t_id []) (le4_again o.t_to_o_id h.front.t_to_o_id []) (le2_again o.connection_serial h.front.connection_serial [])
    (le2_again o.originator_vendor h.front.originator_vendor []) (le4_again o.originator_serial h.front.originator_serial []) refl (le4_again o.o_to_t_rpi h.back.o_to_t_rpi [])
    (le4_again o.o_to_t_parameters h.back.o_to_t_parameters []) (le4_again o.t_to_o_rpi h.back.t_to_o_rpi []) (le4_again o.t_to_o_parameters h.back.t_to_o_parameters []) refl refl

-- ---- both

-- the tests of the length
abbrev tested : Bool → Bool → Open → Result Open LengthFault
tested short long o = cond short (Err Short) (cond long (Err Long) (Ok o))

tests_ok : (x y : Bool) (o q : Open) → tested x y o ≡ Ok q → (x ≡ false) × (y ≡ false) × (o ≡ q)
tests_ok true y o q e = absurd cc
tests_ok false true o q e = absurd cc
tests_ok false false o q e = (refl, refl, cc)

tests_short : (x y : Bool) (o : Open) → tested x y o ≡ Err Short → x ≡ true
tests_short true y o e = refl
tests_short false true o e = absurd cc
tests_short false false o e = absurd cc

tests_long : (x y : Bool) (o : Open) → tested x y o ≡ Err Long → y ≡ true
tests_long true y o e = absurd cc
tests_long false true o e = refl
tests_long false false o e = absurd cc

open_taken : (layout : Layout) (b : List ℕ) (o : Open) → AreBytes b → open_of_in layout b ≡ Ok o → SpellsIn layout o b
open_taken layout b o fits e =
    let expected = expected_length_in layout b in
    let t = tests_ok (ltb (length b) expected) (ltb expected (length b)) (open_fields_in layout b) o e in
    let low : expected ≤ length b = ltb-false _ _ t.0 in
    let high : length b ≤ expected = ltb-false _ _ t.1 in
    subst (λ (q : Open). SpellsIn layout q b) t.2 (open_text layout b fits (omega arith))

open_as_said : (layout : Layout) (b : List ℕ) (o : Open) → length b ≡ expected_length_in layout b → open_fields_in layout b ≡ o → open_of_in layout b ≡ Ok o
open_as_said layout b o len e =
    let expected = expected_length_in layout b in
    let low : ltb (length b) expected ≡ false = le-ltb _ _ (omega arith) in
    let high : ltb expected (length b) ≡ false = le-ltb _ _ (omega arith) in
    rw (low, high) (ap (λ (q : Open). Ok q) e)

as_said : (layout : Layout) (o : Open) (b : List ℕ) → SpellsIn layout o b → length b ≡ expected_length_in layout b
as_said layout o b h =
    ap length h.spelled ∙ spelled_length layout h.reserved o ∙ sym (ap (expected_length_in layout) h.spelled ∙ spelled_said layout h.reserved o h.is_open)

open_again : (layout : Layout) (b : List ℕ) (o : Open) → SpellsIn layout o b → open_of_in layout b ≡ Ok o
open_again layout b o h =
    open_as_said layout b o (as_said layout o b h) (ap (open_fields_in layout) h.spelled ∙ spelled_fields layout h.reserved o h.is_open)

short_iff : (layout : Layout) (b : List ℕ) → (open_of_in layout b ≡ Err Short) ↔ (length b < expected_length_in layout b)
short_iff layout b =
    let expected = expected_length_in layout b in
    ((λ e. ltb-true _ _ (tests_short (ltb (length b) expected) (ltb expected (length b)) (open_fields_in layout b) e)), (λ h. rw (lt-ltb (length b) expected h) refl))

long_iff : (layout : Layout) (b : List ℕ) → (open_of_in layout b ≡ Err Long) ↔ (expected_length_in layout b < length b)
long_iff layout b =
    let expected = expected_length_in layout b in (
      (λ e. ltb-true _ _ (tests_long (ltb (length b) expected) (ltb expected (length b)) (open_fields_in layout b) e)),
      (λ h. let low : ltb (length b) expected ≡ false = le-ltb _ _ (omega arith) in rw (low, lt-ltb expected (length b) h) refl),
    )

-- ---- what a reader returned

module _ {P : Type 0} (view : OpenRequest P → Open) (layout : Layout) (b : List ℕ) (r : Result (OpenRequest P) LengthFault) where
  pub reads_open : AreBytes b → Gives view r (open_of_in layout b) → (o : Open) → Gives view r (Ok o) ↔ SpellsIn layout o b
  reads_open fits e o = iff_then (gives_iff view r (open_of_in layout b) (Ok o) e) (open_taken layout b o fits, open_again layout b o)

  pub reads_short : Gives view r (open_of_in layout b) → Gives view r (Err Short) ↔ (length b < expected_length_in layout b)
  reads_short e = iff_then (gives_iff view r (open_of_in layout b) (Err Short) e) (short_iff layout b)

  pub reads_long : Gives view r (open_of_in layout b) → Gives view r (Err Long) ↔ (expected_length_in layout b < length b)
  reads_long e = iff_then (gives_iff view r (open_of_in layout b) (Err Long) e) (long_iff layout b)

-- ---- one open request at the front

-- the byte before the path is part of the spelling itself
counted_within : (layout : Layout) (o : Open) (b : List ℕ) → SpellsIn layout o b → 31 + 2 * width layout < length b
counted_within layout o b h = let len = ap length h.spelled ∙ spelled_length layout h.reserved o in omega arith

pub open_is_one : (layout : Layout) → OneOpenIn layout
open_is_one layout o q a b x y h g e =
    let k = 31 + 2 * width layout in
    let la = as_said layout o a h in
    let lb = as_said layout q b g in
    let words : slice_index a k ≡ slice_index b k =
    sym (get_or_append_left a x 0 k (counted_within layout o a h)) ∙ ap (λ (t : List ℕ). slice_index t k) e ∙ get_or_append_left b y 0 k (counted_within layout q b g) in
    let both = same_front a b x y (omega arith) e in
    (ok_is {E = LengthFault} o q (sym (open_again layout a o h) ∙ ap (open_of_in layout) both.0 ∙ open_again layout b q g), both.0, both.1)
