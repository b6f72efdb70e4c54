-- Numbers rise in the log, so each is executed once, and its reply is that of its execution.
use Rattle.std.proofs.Common.{◌≡◌, ℕ, zero, suc, ◌+◌, ◌-◌, ◌<◌, ◌≤◌, Bool, true, false, cond, ◌||◌, ◌==◌, Some, List, [], ◌∷◌, ◌++◌, map, slice_get, append_assoc, refl, ap, sym, ◌∙◌, subst, arith, eqb-true, ap₂}
use Rattle.std.proofs.lemmas.Bool.{or_from}
use Rattle.std.proofs.lemmas.Option.{get_or_from_slice_get}
use Rattle.std.specs.List.{AllByRecursion}
use Rattle.enip_adapter.specs.OwnWrites.{OwnWrite}
use Rattle.enip_bench.specs.Executions.{executions_of, own_numbers, AreRising, IsOnlyExecution}
use Rattle.enip_bench.specs.NumberedWorld.{Entry, OwnRequest, OtherRequest, DeviceWrite, stands, submits_since_accepted}
use Rattle.enip_bench.specs.WorldLaws.{once_law, order_law, window_law}
use Rattle.enip_bench.proofs.Image.{router_of, reply_of}
use Rattle.enip_bench.proofs.LogLemmas.{next_logged, Falls, AreSubmitted, not_logged}
use Rattle.enip_bench.proofs.Plain.{number_of, entries_of}
use Rattle.enip_bench.proofs.PlainLemmas.{stands-own, stands-other, stands-write, stands-logged, run_plain}
use Rattle.enip_bench.proofs.PositionLemmas.{Each, Ordered}
use Rattle.enip_bench.proofs.SeenLemmas.{router-same}
use Rattle.enip_bench.proofs.SoundLemmas.{opening_sound, run_sound}
use Rattle.enip_bench.proofs.Soundness.{IsSound}
use Rattle.enip_bench.proofs.TrackedSteps.{tracked_run}
use Rattle.enip_bench.proofs.TrackedWorld.{Own, Logged, OwnLogged, OtherLogged, WriteLogged, is_logged, TrackedWorld, tracked_at_opening}

all-push : (P : ℕ → Type 0) (xs : List ℕ) (x : ℕ) → AllByRecursion P xs → P x → AllByRecursion P (xs ++ x ∷ [])
all-push P [] x all here = (here, tt)
all-push P (y ∷ xs) x all here = (all.0, all-push P xs x all.1 here)

rising-push : (xs : List ℕ) (x : ℕ) → AreRising xs → AllByRecursion (λ y. y < x) xs → AreRising (xs ++ x ∷ [])
rising-push [] x rising below = (tt, tt)
rising-push (y ∷ xs) x rising below =
    (all-push (λ later. y < later) xs x rising.0 below.0, rising-push xs x rising.1 below.1)

own_numbers-own : (log : List Entry) (number : ℕ) → own_numbers (log ++ OwnRequest number ∷ [])
    ≡ own_numbers log ++ number ∷ []
own_numbers-own [] number = refl
own_numbers-own (OwnRequest before ∷ log) number = ap (λ xs. before ∷ xs) (own_numbers-own log number)
own_numbers-own (OtherRequest request ∷ log) number = own_numbers-own log number
own_numbers-own (DeviceWrite write ∷ log) number = own_numbers-own log number

own_numbers-other : (log : List Entry) (request : List ℕ) → own_numbers (log ++ OtherRequest request ∷ [])
    ≡ own_numbers log
own_numbers-other [] request = refl
own_numbers-other (OwnRequest before ∷ log) request = ap (λ xs. before ∷ xs) (own_numbers-other log request)
own_numbers-other (OtherRequest before ∷ log) request = own_numbers-other log request
own_numbers-other (DeviceWrite write ∷ log) request = own_numbers-other log request

own_numbers-write : (log : List Entry) (write : OwnWrite) → own_numbers (log ++ DeviceWrite write ∷ [])
    ≡ own_numbers log
own_numbers-write [] write = refl
own_numbers-write (OwnRequest before ∷ log) write = ap (λ xs. before ∷ xs) (own_numbers-write log write)
own_numbers-write (OtherRequest request ∷ log) write = own_numbers-write log write
own_numbers-write (DeviceWrite before ∷ log) write = own_numbers-write log write

all-below : (log : List Logged) (bound : ℕ) → Falls log → next_logged log ≤ bound →
    AllByRecursion (λ y. y < bound) (own_numbers (entries_of log))
all-below [] bound falls within = tt
all-below (OwnLogged own ∷ log) bound falls within =
    subst (AllByRecursion (λ y. y < bound)) (sym (own_numbers-own (entries_of log) own.number))
    (all-push (λ y. y < bound) (own_numbers (entries_of log)) own.number
    (all-below log bound falls.1 (omega (arith, falls.0))) (omega arith))
all-below (OtherLogged request ∷ log) bound falls within =
    subst (AllByRecursion (λ y. y < bound)) (sym (own_numbers-other (entries_of log) request))
    (all-below log bound falls within)
all-below (WriteLogged write ∷ log) bound falls within =
    subst (AllByRecursion (λ y. y < bound)) (sym (own_numbers-write (entries_of log) write))
    (all-below log bound falls within)

log-rising : (log : List Logged) → Falls log → AreRising (own_numbers (entries_of log))
log-rising [] falls = tt
log-rising (OwnLogged own ∷ log) falls =
    subst AreRising (sym (own_numbers-own (entries_of log) own.number))
    (rising-push (own_numbers (entries_of log)) own.number (log-rising log falls.1)
    (all-below log own.number falls.1 falls.0))
log-rising (OtherLogged request ∷ log) falls =
    subst AreRising (sym (own_numbers-other (entries_of log) request)) (log-rising log falls)
log-rising (WriteLogged write ∷ log) falls =
    subst AreRising (sym (own_numbers-write (entries_of log) write)) (log-rising log falls)

pub order : order_law
order o_to_t_size events =
    subst (λ world. AreRising (own_numbers world.log)) (sym (run_plain o_to_t_size events tracked_at_opening))
    (log-rising (tracked_run o_to_t_size tracked_at_opening events).log
    ((run_sound o_to_t_size events tracked_at_opening (opening_sound o_to_t_size)).log.falls))

one_test : (is : Bool) (rest : ℕ) → (is ≡ true → rest ≡ 0) → rest ≤ 1 → cond is 1 0 + rest ≤ 1
one_test true rest none most = omega (arith, none refl)
one_test false rest none most = omega arith

none_test : (is : Bool) (rest : ℕ) → (is ≡ true → ⊥) → rest ≡ 0 → cond is 1 0 + rest ≡ 0
none_test true rest not none = absurd (not refl)
none_test false rest not none = omega arith

not_above : (log : List Entry) (number : ℕ) → AllByRecursion (λ y. number < y) (own_numbers log) →
    executions_of number log ≡ 0
not_above [] number above = refl
not_above (OwnRequest own ∷ log) number above =
    none_test (own == number) (executions_of number log) (λ e. omega (arith, above.0, eqb-true own number e))
    (not_above log number above.1)
not_above (OtherRequest request ∷ log) number above =
    none_test false (executions_of number log) (λ e. absurd (cc)) (not_above log number above)
not_above (DeviceWrite write ∷ log) number above =
    none_test false (executions_of number log) (λ e. absurd (cc)) (not_above log number above)

at_most_once : (log : List Entry) (number : ℕ) → AreRising (own_numbers log) → executions_of number log ≤ 1
at_most_once [] number rising = omega arith
at_most_once (OwnRequest own ∷ log) number rising =
    one_test (own == number) (executions_of number log)
    (λ e. not_above log number (subst (λ n. AllByRecursion (λ y. n < y) (own_numbers log)) (eqb-true own number e)
    rising.0))
    (at_most_once log number rising.1)
at_most_once (OtherRequest request ∷ log) number rising =
    one_test false (executions_of number log) (λ e. absurd (cc)) (at_most_once log number rising)
at_most_once (DeviceWrite write ∷ log) number rising =
    one_test false (executions_of number log) (λ e. absurd (cc)) (at_most_once log number rising)

pub once : once_law
once o_to_t_size number events = at_most_once _ number (order o_to_t_size events)

pub window : window_law
window o_to_t_size events =
    let world : TrackedWorld = tracked_run o_to_t_size tracked_at_opening events in
    let sound : IsSound o_to_t_size world =
    run_sound o_to_t_size events tracked_at_opening (opening_sound o_to_t_size) in
    subst (λ w. submits_since_accepted w ≤ 65535) (sym (run_plain o_to_t_size events tracked_at_opening))
    (omega (arith, sound.window.since, sound.window.bound))

-- a list in order is rising
below_all : (number : ℕ) (owns : List Own) → Each (λ own. number < own.number) owns →
    AllByRecursion (λ later. number < later) (map number_of owns)
below_all number [] below = tt
below_all number (own ∷ owns) below = (below zero own refl, below_all number owns (λ i x e. below (suc i) x e))

pub ordered-rising : (owns : List Own) → Ordered (λ (x : Own) (y : Own). x.number < y.number) owns →
    AreRising (map number_of owns)
ordered-rising [] ordered = tt
ordered-rising (own ∷ owns) ordered = (
  below_all own.number owns (λ i x e. ordered zero (suc i) own x (omega arith) refl e),
  ordered-rising owns (λ i j x y lt e f. ordered (suc i) (suc j) x y (omega arith) e f),
)

module _ {M : Type 0} (after : M → ℕ → List ℕ → M) (answer : M → ℕ → List ℕ → List ℕ)
    (written : OwnWrite → M → M) (first t_to_o_size : ℕ)
    (start : M)
    (submits : List (List ℕ)) where
  abbrev IsOnly : List Entry → ℕ → List ℕ → Type 0
  IsOnly log number reply = IsOnlyExecution after answer written t_to_o_size submits start log number reply

  -- one more entry, of something else, is appended
  only-push : (log : List Entry) (entry : Entry) (number : ℕ) (reply : List ℕ) (only : IsOnly log number reply) →
      stands number (only.later ++ entry ∷ []) ≡ false → IsOnly (log ++ entry ∷ []) number reply
  only-push log entry number reply only not_later = record {
    before = only.before;
    later = only.later ++ entry ∷ [];
    there = ap (λ (l : List Entry). l ++ entry ∷ []) only.there
        ∙ append_assoc only.before (OwnRequest number ∷ only.later) (entry ∷ []);
    not_before = only.not_before;
    not_later = not_later;
    replied = only.replied;
  }

  by_test : (own : Own) (log : List Logged) (number : ℕ) (is : Bool) → (own.number == number) ≡ is →
      (next_logged log ≤ own.number) × Falls log →
      AreSubmitted submits (OwnLogged own ∷ log) → (is || is_logged number log) ≡ true →
      (is_logged number log ≡ true →
      IsOnly (entries_of log) number (reply_of after answer written first t_to_o_size start log number)) →
      IsOnly (entries_of log ++ OwnRequest own.number ∷ []) number
      (cond is (answer (router_of after answer written first t_to_o_size start log) (t_to_o_size - 2) own.request)
      (reply_of after answer written first t_to_o_size start log number))
  by_test own log number true e falls are is only =
      let same : own.number ≡ number = eqb-true own.number number e in
      let above : next_logged log ≤ number = omega (arith, falls.0) in
      record {
        before = entries_of log;
        later = [];
        there = ap (λ n. entries_of log ++ OwnRequest n ∷ []) same;
        not_before = stands-logged log number ∙ not_logged log number falls.1 above;
        not_later = refl;
        replied = ap₂ (λ m q. answer m (t_to_o_size - 2) q)
            (sym (router-same after answer written first t_to_o_size start submits log are.1))
            (sym (get_or_from_slice_get submits number own.request []
            (subst (λ n. slice_get submits n ≡ Some own.request) same are.0)));
      }
  by_test own log number false e falls are is only =
      let one : IsOnly (entries_of log) number
      (reply_of after answer written first t_to_o_size start log number) = only is in
      only-push (entries_of log) (OwnRequest own.number) number
      (reply_of after answer written first t_to_o_size start log number) one
      (stands-own one.later own.number number
      ∙ or_from (own.number == number) (stands number one.later) e one.not_later)

  -- each executed request was executed once, and its reply is that of its execution
  pub only_execution : (log : List Logged) (number : ℕ) → Falls log → AreSubmitted submits log → is_logged number log
      ≡ true →
      IsOnly (entries_of log) number (reply_of after answer written first t_to_o_size start log number)
  only_execution [] number falls are is = absurd (cc)
  only_execution (OwnLogged own ∷ log) number falls are is =
      by_test own log number (own.number == number) refl falls are is (only_execution log number falls.1 are.1)
  only_execution (OtherLogged request ∷ log) number falls are is =
      let one : IsOnly (entries_of log) number (reply_of after answer written first t_to_o_size start log number) =
      only_execution log number falls are is in
      only-push (entries_of log) (OtherRequest request) number
      (reply_of after answer written first t_to_o_size start log number) one
      (stands-other one.later request number ∙ one.not_later)
  only_execution (WriteLogged write ∷ log) number falls are is =
      let one : IsOnly (entries_of log) number (reply_of after answer written first t_to_o_size start log number) =
      only_execution log number falls are is in
      only-push (entries_of log) (DeviceWrite write) number
      (reply_of after answer written first t_to_o_size start log number) one
      (stands-write one.later write number ∙ one.not_later)
