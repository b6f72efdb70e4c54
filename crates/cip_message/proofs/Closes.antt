-- A close request that is read is the one spelled, and what is spelled is read.
use Rattle.std.proofs.Common.{◌≡◌, ◌↔◌, ℕ, ◌+◌, ◌*◌, ◌/◌, ◌%◌, ◌<◌, ◌≤◌, Bool, true, false, cond, ltb, List, [], ◌∷◌, ◌++◌, length, slice_index, drop, Result, Ok, Err, refl, sym, ap, subst, ◌∙◌, arith}
use Rattle.std.proofs.lemmas.Bool.{ltb-true, ltb-false, le-ltb, lt-ltb}
use Rattle.std.proofs.lemmas.List.{length-drop}
use Rattle.cip_bytes.specs.Numbers.{le, AreBytes}
use Rattle.cip_bytes.specs.Reading.{Gives}
use Rattle.cip_message.specs.declared.close.CloseRequest.{CloseRequest}
use Rattle.cip_message.specs.declared.open.LengthFault.{LengthFault}
use Rattle.cip_message.specs.declared.open.LengthFault.TheVariants.{Short, Long}
use Rattle.cip_message.specs.Close.{Close, IsClose, SpellsClose, close_with, close_fields, close_of, expected_length, view}
use Rattle.cip_bytes.proofs.Bytes.{AreBytes-drop, le2_again, le4_again, at1, at2, at4, parts_then}
use Rattle.cip_bytes.proofs.Steps.{gives_iff, iff_then}

abbrev made : ℕ → ℕ → ℕ → ℕ → ℕ → List ℕ → Close
made priority_and_tick_time timeout_ticks serial vendor originator path = record {
  priority_and_tick_time = priority_and_tick_time;
  timeout_ticks = timeout_ticks;
  connection_serial = serial;
  originator_vendor = vendor;
  originator_serial = originator;
  path = path;
}

same_close : (c : Close) (p t a b d : ℕ) (q : List ℕ) → p ≡ c.priority_and_tick_time → t ≡ c.timeout_ticks → a ≡ c.connection_serial → b ≡ c.originator_vendor → d ≡ c.originator_serial → q ≡ c.path → made p t a b d q ≡ c
same_close c p t a b d q ep et ea eb ed eq = rw (ep, et, ea, eb, ed, eq) refl

-- ---- what is read is a spelling

half_of : (n k : ℕ) → k ≡ 2 * n → (k / 2 ≡ n) × (k % 2 ≡ 0)
half_of n k e = (omega arith, omega arith)

-- the spelling with any number as the path size
abbrev close_by : ℕ → ℕ → Close → List ℕ
close_by words reserved c =
    c.priority_and_tick_time ∷ c.timeout_ticks ∷ [] ++ le 2 c.connection_serial ++ le 2 c.originator_vendor ++ le 4 c.originator_serial ++ words ∷ reserved ∷ [] ++ c.path

text_by : (b : List ℕ) → AreBytes b → 12 ≤ length b → b ≡ close_by (slice_index b 10) (slice_index b 11) (close_fields b)
unfolding close_fields
text_by b fits h =
    let p0 = at1 0 b (omega arith) in
    let p1 = parts_then p0 (at1 1 b (omega arith)) in
    let p2 = parts_then p1 (at2 2 b fits (omega arith)) in
    let p3 = parts_then p2 (at2 4 b fits (omega arith)) in
    let p4 = parts_then p3 (at4 6 b fits (omega arith)) in
    let last = parts_then (at1 10 b (omega arith)) (at1 11 b (omega arith)) in
    (parts_then p4 last).is

fields_fit : (b : List ℕ) (n : ℕ) → AreBytes b → n ≡ slice_index b 10 → length b ≡ 12 + 2 * n → IsClose (close_fields b)
unfolding close_fields
fields_fit b n fits e len =
    let f6 = AreBytes-drop 6 b fits in
    let f4 = AreBytes-drop 4 b fits in
    let f2 = AreBytes-drop 2 b fits in
    record {
      priority_and_tick_time = fits 0;
      timeout_ticks = fits 1;
      connection_serial = omega (arith, f2 0, f2 1);
      originator_vendor = omega (arith, f4 0, f4 1);
      originator_serial = omega (arith, f6 0, f6 1, f6 2, f6 3);
      whole_words = (half_of n (length (drop 12 b)) (omega (arith, length-drop 12 b))).1;
      counted = omega (arith, length-drop 12 b, fits 10);
      path = AreBytes-drop 12 b fits;
    }

close_text : (b : List ℕ) → AreBytes b → length b ≡ expected_length b → SpellsClose (close_fields b) b
unfolding close_fields
close_text b fits len =
    let n = slice_index b 10 in
    let half : length (drop 12 b) / 2 ≡ n = (half_of n (length (drop 12 b)) (omega (arith, length-drop 12 b))).0 in
    record {
      reserved = slice_index b 11;
      is_close = fields_fit b n fits refl len;
      spelled = text_by b fits (omega arith) ∙ ap (λ (k : ℕ). close_by k (slice_index b 11) (close_fields b)) (sym half);
    }

-- ---- what is spelled is read

spelled_length : (r : ℕ) (c : Close) → length (close_with r c) ≡ 12 + length c.path
spelled_length r c = omega arith

spelled_said : (r : ℕ) (c : Close) → IsClose c → expected_length (close_with r c) ≡ 12 + length c.path
spelled_said r c h = let whole = h.whole_words in omega arith

spelled_fields : (r : ℕ) (c : Close) → IsClose c → close_fields (close_with r c) ≡ c
unfolding close_fields
spelled_fields r c h =
    same_close c _ _ _ _ _ _ refl refl (le2_again c.connection_serial h.connection_serial []) (le2_again c.originator_vendor h.originator_vendor [])
    (le4_again c.originator_serial h.originator_serial []) refl

-- ---- both

abbrev tested : Bool → Bool → Close → Result Close LengthFault
tested short long c = cond short (Err Short) (cond long (Err Long) (Ok c))

tests_ok : (x y : Bool) (c d : Close) → tested x y c ≡ Ok d → (x ≡ false) × (y ≡ false) × (c ≡ d)
tests_ok true y c d e = absurd cc
tests_ok false true c d e = absurd cc
tests_ok false false c d e = (refl, refl, cc)

tests_short : (x y : Bool) (c : Close) → tested x y c ≡ Err Short → x ≡ true
tests_short true y c e = refl
tests_short false true c e = absurd cc
tests_short false false c e = absurd cc

tests_long : (x y : Bool) (c : Close) → tested x y c ≡ Err Long → y ≡ true
tests_long true y c e = absurd cc
tests_long false true c e = refl
tests_long false false c e = absurd cc

close_taken : (b : List ℕ) (c : Close) → AreBytes b → close_of b ≡ Ok c → SpellsClose c b
unfolding close_of
close_taken b c fits e =
    let t = tests_ok (ltb (length b) (expected_length b)) (ltb (expected_length b) (length b)) (close_fields b) c e in
    let low : expected_length b ≤ length b = ltb-false _ _ t.0 in
    let high : length b ≤ expected_length b = ltb-false _ _ t.1 in
    subst (λ (d : Close). SpellsClose d b) t.2 (close_text b fits (omega arith))

close_as_said : (b : List ℕ) (c : Close) → length b ≡ expected_length b → close_fields b ≡ c → close_of b ≡ Ok c
unfolding close_of
close_as_said b c len e =
    let low : ltb (length b) (expected_length b) ≡ false = le-ltb _ _ (omega arith) in
    let high : ltb (expected_length b) (length b) ≡ false = le-ltb _ _ (omega arith) in
    rw (low, high) (ap (λ (d : Close). Ok d) e)

close_again : (b : List ℕ) (c : Close) → SpellsClose c b → close_of b ≡ Ok c
close_again b c h =
    close_as_said b c (ap length h.spelled ∙ spelled_length h.reserved c ∙ sym (ap expected_length h.spelled ∙ spelled_said h.reserved c h.is_close))
    (ap close_fields h.spelled ∙ spelled_fields h.reserved c h.is_close)

short_iff : (b : List ℕ) → (close_of b ≡ Err Short) ↔ (length b < expected_length b)
unfolding close_of
short_iff b =
    ((λ e. ltb-true _ _ (tests_short (ltb (length b) (expected_length b)) (ltb (expected_length b) (length b)) (close_fields b) e)), (λ h. rw (lt-ltb (length b) (expected_length b) h) refl))

long_iff : (b : List ℕ) → (close_of b ≡ Err Long) ↔ (expected_length b < length b)
unfolding close_of
long_iff b = (
  (λ e. ltb-true _ _ (tests_long (ltb (length b) (expected_length b)) (ltb (expected_length b) (length b)) (close_fields b) e)),
  (λ h. let low : ltb (length b) (expected_length b) ≡ false = le-ltb _ _ (omega arith) in rw (low, lt-ltb (expected_length b) (length b) h) refl),
)

-- ---- what a reader returned

pub reads_close : (b : List ℕ) (r : Result CloseRequest LengthFault) → AreBytes b → Gives view r (close_of b) → (c : Close) → Gives view r (Ok c) ↔ SpellsClose c b
reads_close b r fits e c = iff_then (gives_iff view r (close_of b) (Ok c) e) (close_taken b c fits, close_again b c)

pub reads_short : (b : List ℕ) (r : Result CloseRequest LengthFault) → Gives view r (close_of b) → Gives view r (Err Short) ↔ (length b < expected_length b)
reads_short b r e = iff_then (gives_iff view r (close_of b) (Err Short) e) (short_iff b)

pub reads_long : (b : List ℕ) (r : Result CloseRequest LengthFault) → Gives view r (close_of b) → Gives view r (Err Long) ↔ (expected_length b < length b)
reads_long b r e = iff_then (gives_iff view r (close_of b) (Err Long) e) (long_iff b)
