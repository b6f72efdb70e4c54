-- An Unconnected_Send that is read is the one spelled, and what is spelled is read.
use Rattle.std.proofs.Common.{◌≡◌, ◌↔◌, ℕ, ◌+◌, ◌*◌, ◌/◌, ◌%◌, ◌<◌, ◌≤◌, Bool, true, false, cond, eqb, ltb, List, [], ◌∷◌, ◌++◌, length, slice_index, take, drop, Result, Ok, Err, refl, sym, ap, subst, ◌∙◌, arith, append_assoc, add-zero, suc}
use Rattle.std.proofs.lemmas.Bool.{ltb-true, ltb-false, le-ltb, lt-ltb, eqb-true, eqb-false}
use Rattle.std.proofs.lemmas.List.{length-drop, length-append, length-take, take_at, drop_at, take-append-drop, drop-drop, get_or-drop}
use Rattle.cip_bytes.specs.Numbers.{le, AreBytes, number_at}
use Rattle.cip_bytes.specs.Reading.{Gives}
use Rattle.cip_message.specs.declared.open.LengthFault.{LengthFault}
use Rattle.cip_message.specs.declared.open.LengthFault.TheVariants.{Short, Long}
use Rattle.cip_bytes.proofs.Bytes.{AreBytes-drop, AreBytes-take, le2_again, at1, at2, parts_then, Parts}
use Rattle.cip_bytes.proofs.Steps.{gives_iff, iff_then}
use Rattle.cip_route.specs.declared.send.UnconnectedSend.{UnconnectedSend}
use Rattle.cip_route.specs.Send.{Send, IsSend, SpellsSend, pad_after, send_with, even, route_size_at, expected_length, send_fields, send_of, view}

abbrev made : ℕ → ℕ → List ℕ → List ℕ → Send
made priority ticks message route =
    record { priority_and_tick_time = priority; timeout_ticks = ticks; message = message; route = route }

same_send : (s : Send) (p t : ℕ) (m r : List ℕ) → p ≡ s.priority_and_tick_time → t ≡ s.timeout_ticks → m ≡ s.message → r ≡ s.route → made p t m r ≡ s
same_send s p t m r ep et em er = rw (ep, et, em, er) refl

-- ---- the three tests

abbrev tested : Bool → Bool → Send → Result Send LengthFault
tested short long s = cond short (Err Short) (cond long (Err Long) (Ok s))

tests_ok : (x y : Bool) (s d : Send) → tested x y s ≡ Ok d → (x ≡ false) × (y ≡ false) × (s ≡ d)
tests_ok true y s d e = absurd cc
tests_ok false true s d e = absurd cc
tests_ok false false s d e = (refl, refl, cc)

tests_short : (x y : Bool) (s : Send) → tested x y s ≡ Err Short → x ≡ true
tests_short true y s e = refl
tests_short false true s e = absurd cc
tests_short false false s e = absurd cc

tests_long : (x y : Bool) (s : Send) → tested x y s ≡ Err Long → y ≡ true
tests_long true y s e = absurd cc
tests_long false true s e = refl
tests_long false false s e = absurd cc

-- ---- what is read is a spelling

-- after k bytes come n bytes, and then the others
taken : (k n : ℕ) (b : List ℕ) → Parts (drop k b) (take n (drop k b)) (drop (k + n) b)
taken k n b = record {
  is = sym (take-append-drop n (drop k b)) ∙ ap (λ (t : List ℕ). take n (drop k b) ++ t) (drop-drop n k b);
}

-- the pad byte after n bytes from offset 4
padded_by : (t : Bool) (n : ℕ) (b : List ℕ) → eqb (n % 2) 0 ≡ t → 4 + even n ≤ length b
    → Parts (drop (4 + n) b) (cond t [] (slice_index b (4 + n) ∷ [])) (drop (4 + even n) b)
padded_by true n b e h =
    let zero : n % 2 ≡ 0 = eqb-true _ _ e in
    let same : 4 + n ≡ 4 + even n = omega arith in
    record { is = ap (λ (k : ℕ). drop k b) same }
padded_by false n b e h =
    let some : n % 2 ≡ 0 → ⊥ = eqb-false _ _ e in
    let below : n % 2 < 2 = omega arith in
    let next : suc (4 + n) ≡ 4 + even n = omega (arith, some) in
    let one = at1 (4 + n) b (omega arith) in
    record { is = one.is ∙ ap (λ (k : ℕ). slice_index b (4 + n) ∷ drop k b) next }

-- the spelling with any sizes
abbrev send_by : ℕ → ℕ → ℕ → ℕ → Send → List ℕ
send_by n words pad reserved s =
    s.priority_and_tick_time ∷ s.timeout_ticks ∷ [] ++ le 2 n ++ s.message ++ pad_after pad n
    ++ words ∷ reserved ∷ [] ++ s.route

-- where the size of the route is, by that of the message
abbrev size_at : ℕ → ℕ
size_at n = 4 + even n

text_by : (n : ℕ) (b : List ℕ) → AreBytes b → n ≡ number_at 2 2 b → size_at n + 2 ≤ length b
    → b ≡ send_by n (slice_index b (size_at n)) (slice_index b (4 + n)) (slice_index b (suc (size_at n)))
    (made (slice_index b 0) (slice_index b 1) (take n (drop 4 b)) (drop (size_at n + 2) b))
text_by n b fits e h =
    let p0 = at1 0 b (omega arith) in
    let p1 = parts_then p0 (at1 1 b (omega arith)) in
    let sized : Parts (drop 2 b) (le 2 n) (drop 4 b) = subst (λ (k : ℕ). Parts (drop 2 b) (le 2 k) (drop 4 b)) (sym e) (at2 2 b fits (omega arith)) in
    let p2 = parts_then p1 sized in
    let p3 = parts_then p2 (taken 4 n b) in
    let p4 = parts_then p3 (padded_by (eqb (n % 2) 0) n b refl (omega arith)) in
    let next : suc (suc (size_at n)) ≡ size_at n + 2 = omega arith in
    let last = parts_then (at1 (size_at n) b (omega arith)) (at1 (suc (size_at n)) b (omega arith)) in
    let last_at : Parts (drop (size_at n) b) (slice_index b (size_at n) ∷ slice_index b (suc (size_at n)) ∷ []) (drop (size_at n + 2) b)
    = subst (λ (k : ℕ). Parts (drop (size_at n) b) (slice_index b (size_at n) ∷ slice_index b (suc (size_at n)) ∷ []) (drop k b)) next last in
    (parts_then p4 last_at).is

half_of : (n k : ℕ) → k ≡ 2 * n → (k / 2 ≡ n) × (k % 2 ≡ 0)
half_of n k e = (omega arith, omega arith)

fields_fit : (b : List ℕ) (n words : ℕ) → AreBytes b → n ≡ number_at 2 2 b → words ≡ slice_index b (size_at n) → length b ≡ size_at n + 2 + 2 * words
    → IsSend (made (slice_index b 0) (slice_index b 1) (take n (drop 4 b)) (drop (size_at n + 2) b))
fields_fit b n words fits e w len =
    let f2 = AreBytes-drop 2 b fits in
    let small : words < 256 = rw w (fits (size_at n)) in
    record {
      priority_and_tick_time = fits 0;
      timeout_ticks = fits 1;
      counted_message = omega (arith, f2 0, f2 1, length-take n (drop 4 b));
      whole_words = (half_of words (length (drop (size_at n + 2) b)) (omega (arith, length-drop (size_at n + 2) b))).1;
      counted = omega (arith, length-drop (size_at n + 2) b);
      message = AreBytes-take n (drop 4 b) (AreBytes-drop 4 b fits);
      route = AreBytes-drop (size_at n + 2) b fits;
    }

text_of : (b : List ℕ) (n words : ℕ) → AreBytes b → n ≡ number_at 2 2 b → words ≡ slice_index b (size_at n) → length b ≡ size_at n + 2 + 2 * words
    → SpellsSend (made (slice_index b 0) (slice_index b 1) (take n (drop 4 b)) (drop (size_at n + 2) b)) b
text_of b n words fits e w len =
    let s : Send = made (slice_index b 0) (slice_index b 1) (take n (drop 4 b)) (drop (size_at n + 2) b) in
    let half : length (drop (size_at n + 2) b) / 2 ≡ words = (half_of words (length (drop (size_at n + 2) b)) (omega (arith, length-drop (size_at n + 2) b))).0 in
    let size : length (take n (drop 4 b)) ≡ n = omega (arith, length-take n (drop 4 b), length-drop 4 b) in
    record {
      pad = slice_index b (4 + n);
      reserved = slice_index b (suc (size_at n));
      is_send = fields_fit b n words fits e w len;
      spelled = text_by n b fits e (omega arith)
          ∙ ap (λ (k : ℕ). send_by n k (slice_index b (4 + n)) (slice_index b (suc (size_at n))) s) (sym (half ∙ w))
          ∙ ap (λ (k : ℕ). send_by k (length (drop (size_at n + 2) b) / 2) (slice_index b (4 + n)) (slice_index b (suc (size_at n))) s) (sym size);
    }

send_text : (b : List ℕ) → AreBytes b → length b ≡ expected_length b → SpellsSend (send_fields b) b
unfolding send_fields
send_text b fits len = text_of b (number_at 2 2 b) (slice_index b (route_size_at b)) fits refl refl len

-- ---- what is spelled is read

pad_size : (t : Bool) (pad n : ℕ) → eqb (n % 2) 0 ≡ t → length (cond t [] (pad ∷ [])) ≡ n % 2
pad_size true pad n e = sym (eqb-true _ _ e)
pad_size false pad n e = let some : n % 2 ≡ 0 → ⊥ = eqb-false _ _ e in let below : n % 2 < 2 = omega arith in omega (arith, some)

-- the bytes before the size of the route
abbrev front_of : ℕ → Send → List ℕ
front_of pad s =
    s.priority_and_tick_time ∷ s.timeout_ticks ∷ [] ++ le 2 (length s.message) ++ s.message ++ pad_after pad (length s.message)

front_size : (pad : ℕ) (s : Send) → length (front_of pad s) ≡ size_at (length s.message)
front_size pad s =
    omega (arith, length-append s.message (pad_after pad (length s.message)), pad_size (eqb (length s.message % 2) 0) pad (length s.message) refl)

at_size : (pad reserved : ℕ) (s : Send) → drop (size_at (length s.message)) (send_with pad reserved s) ≡ (length s.route / 2) ∷ reserved ∷ s.route
at_size pad reserved s =
    ap (λ (t : List ℕ). drop (size_at (length s.message)) t) (append_assoc (front_of pad s) ((length s.route / 2) ∷ reserved ∷ []) s.route)
    ∙ drop_at (front_of pad s) ((length s.route / 2) ∷ reserved ∷ s.route) (size_at (length s.message)) (front_size pad s)

sized_again : (pad reserved : ℕ) (s : Send) → IsSend s → number_at 2 2 (send_with pad reserved s) ≡ length s.message
sized_again pad reserved s h = le2_again (length s.message) h.counted_message []

where_again : (pad reserved : ℕ) (s : Send) → IsSend s → route_size_at (send_with pad reserved s) ≡ size_at (length s.message)
where_again pad reserved s h = ap size_at (sized_again pad reserved s h)

words_again : (pad reserved : ℕ) (s : Send) → slice_index (send_with pad reserved s) (size_at (length s.message)) ≡ length s.route / 2
words_again pad reserved s =
    ap (λ (k : ℕ). slice_index (send_with pad reserved s) k) (sym (add-zero (size_at (length s.message))))
    ∙ sym (get_or-drop (size_at (length s.message)) (send_with pad reserved s) 0 0)
    ∙ ap (λ (t : List ℕ). slice_index t 0) (at_size pad reserved s)

spelled_length : (pad reserved : ℕ) (s : Send) → length (send_with pad reserved s) ≡ size_at (length s.message) + 2 + length s.route
spelled_length pad reserved s =
    ap length (append_assoc (front_of pad s) ((length s.route / 2) ∷ reserved ∷ []) s.route)
    ∙ length-append (front_of pad s) ((length s.route / 2) ∷ reserved ∷ s.route)
    ∙ omega (arith, front_size pad s)

spelled_said : (pad reserved : ℕ) (s : Send) → IsSend s → expected_length (send_with pad reserved s) ≡ size_at (length s.message) + 2 + length s.route
spelled_said pad reserved s h =
    let whole = h.whole_words in
    ap (λ (k : ℕ). k + 2 + 2 * slice_index (send_with pad reserved s) k) (where_again pad reserved s h)
    ∙ ap (λ (w : ℕ). size_at (length s.message) + 2 + 2 * w) (words_again pad reserved s)
    ∙ omega arith

message_again : (pad reserved : ℕ) (s : Send) → take (length s.message) (drop 4 (send_with pad reserved s)) ≡ s.message
message_again pad reserved s =
    let padding : List ℕ = pad_after pad (length s.message) in
    let last : List ℕ = (length s.route / 2) ∷ reserved ∷ [] in
    ap (λ (t : List ℕ). take (length s.message) t)
    (append_assoc (s.message ++ pad_after pad (length s.message)) ((length s.route / 2) ∷ reserved ∷ []) s.route
    ∙ append_assoc s.message (pad_after pad (length s.message)) ((length s.route / 2) ∷ reserved ∷ s.route))
    ∙ take_at s.message (pad_after pad (length s.message) ++ ((length s.route / 2) ∷ reserved ∷ s.route)) (length s.message) refl

route_again : (pad reserved : ℕ) (s : Send) → drop (size_at (length s.message) + 2) (send_with pad reserved s) ≡ s.route
route_again pad reserved s =
    sym (drop-drop 2 (size_at (length s.message)) (send_with pad reserved s))
    ∙ ap (λ (t : List ℕ). drop 2 t) (at_size pad reserved s)

spelled_fields : (pad reserved : ℕ) (s : Send) → IsSend s → send_fields (send_with pad reserved s) ≡ s
unfolding send_fields
spelled_fields pad reserved s h =
    same_send s _ _ _ _ refl refl
    (ap (λ (n : ℕ). take n (drop 4 (send_with pad reserved s))) (sized_again pad reserved s h) ∙ message_again pad reserved s)
    (ap (λ (k : ℕ). drop (k + 2) (send_with pad reserved s)) (where_again pad reserved s h) ∙ route_again pad reserved s)

-- ---- both

send_taken : (b : List ℕ) (s : Send) → AreBytes b → send_of b ≡ Ok s → SpellsSend s b
unfolding send_of
send_taken b s fits e =
    let t = tests_ok (ltb (length b) (expected_length b)) (ltb (expected_length b) (length b)) (send_fields b) s e in
    let low : expected_length b ≤ length b = ltb-false _ _ t.0 in
    let high : length b ≤ expected_length b = ltb-false _ _ t.1 in
    subst (λ (d : Send). SpellsSend d b) t.2 (send_text b fits (omega arith))

send_as_said : (b : List ℕ) (s : Send) → length b ≡ expected_length b → send_fields b ≡ s → send_of b ≡ Ok s
unfolding send_of
send_as_said b s len e =
    let low : ltb (length b) (expected_length b) ≡ false = le-ltb _ _ (omega arith) in
    let high : ltb (expected_length b) (length b) ≡ false = le-ltb _ _ (omega arith) in
    rw (low, high) (ap (λ (d : Send). Ok d) e)

send_again : (b : List ℕ) (s : Send) → SpellsSend s b → send_of b ≡ Ok s
send_again b s h =
    send_as_said b s (ap length h.spelled ∙ spelled_length h.pad h.reserved s ∙ sym (ap expected_length h.spelled ∙ spelled_said h.pad h.reserved s h.is_send))
    (ap send_fields h.spelled ∙ spelled_fields h.pad h.reserved s h.is_send)

short_iff : (b : List ℕ) → (send_of b ≡ Err Short) ↔ (length b < expected_length b)
unfolding send_of
short_iff b =
    ((λ e. ltb-true _ _ (tests_short (ltb (length b) (expected_length b)) (ltb (expected_length b) (length b)) (send_fields b) e)), (λ h. rw (lt-ltb (length b) (expected_length b) h) refl))

long_iff : (b : List ℕ) → (send_of b ≡ Err Long) ↔ (expected_length b < length b)
unfolding send_of
long_iff b = (
  (λ e. ltb-true _ _ (tests_long (ltb (length b) (expected_length b)) (ltb (expected_length b) (length b)) (send_fields b) e)),
  (λ h. let low : ltb (length b) (expected_length b) ≡ false = le-ltb _ _ (omega arith) in rw (low, lt-ltb (expected_length b) (length b) h) refl),
)

-- ---- what a reader returned

pub reads_send : (b : List ℕ) (r : Result UnconnectedSend LengthFault) → AreBytes b → Gives view r (send_of b) → (s : Send) → Gives view r (Ok s) ↔ SpellsSend s b
reads_send b r fits e s = iff_then (gives_iff view r (send_of b) (Ok s) e) (send_taken b s fits, send_again b s)

pub reads_short : (b : List ℕ) (r : Result UnconnectedSend LengthFault) → Gives view r (send_of b) → Gives view r (Err Short) ↔ (length b < expected_length b)
reads_short b r e = iff_then (gives_iff view r (send_of b) (Err Short) e) (short_iff b)

pub reads_long : (b : List ℕ) (r : Result UnconnectedSend LengthFault) → Gives view r (send_of b) → Gives view r (Err Long) ↔ (expected_length b < length b)
reads_long b r e = iff_then (gives_iff view r (send_of b) (Err Long) e) (long_iff b)
