-- A queue that starts from the entries of a queue is that queue.
use Rattle.std.proofs.Common.{◌≡◌, ℕ, zero, suc, ◌+◌, ◌-◌, ◌<◌, ◌≤◌, ◌^◌, ◌==◌, ◌&&◌, nat_lt, nat_le, Bool, true, false}
use Rattle.std.proofs.Common.{if◌then◌else◌, cond, List, [], ◌∷◌, ◌++◌, length, take, Option, Some, None, refl, sym, ap}
use Rattle.std.proofs.Common.{◌∙◌, subst, arith, ◌⊎◌, inl, inr}
use Rattle.std.specs.Prelude.{⊤, slice_get}
use Rattle.std.specs.List.{AllByRecursion}
use Rattle.std.specs.Option.{option_and_then}
use Rattle.std.proofs.lemmas.Bool.{ne_eqb, eqb-true}
use Rattle.std.proofs.lemmas.Bool.Decides.{nat_tests}
use Rattle.std.proofs.lemmas.List.{append-nil, length-append}
use Rattle.byteorder.specs.Numbers.{little_number-reads_back}
use Rattle.cip_bytes.specs.Numbers.{le, number_at}
use Rattle.cip_owner.specs.Queue.{QueuedCommand, QueueResult, QueueState, IsQueue, IsQueued, IsResult, empty_queue}
use Rattle.cip_owner.specs.Queue.{with_next, with_handed, restored_waiting, restored_result}
use Rattle.device_state.specs.QueueEntries.{PLACES, QUEUE_ENTRIES, command_bytes, result_bytes, bytes_of_command}
use Rattle.device_state.specs.QueueEntries.{bytes_of_result, place_bytes, queue_bytes, spelled_command, spelled_result}
use Rattle.device_state.specs.QueueEntries.{command_put, result_put, next_put, place_put, queue_put, put_entries}
use Rattle.device_state.specs.QueueEntries.{queue_law, has_handed_all, next_bytes, tickets_put}

-- ---- a command

abbrev command_of : ℕ → ℕ → ℕ → ℕ → ℕ → List ℕ → QueuedCommand
command_of ticket class instance service limit content = record {
  ticket = ticket;
  class = class;
  instance = instance;
  service = service;
  content = content;
  reply_limit = limit;
}

over_thirteen : (n : ℕ) → nat_lt (13 + n) 13 ≡ false
over_thirteen n = grind (arith, nat_tests)

command_size : (c : QueuedCommand) → length (command_bytes c) ≡ 13 + length c.content
command_size c =
    let limit = le 2 c.reply_limit ++ c.content in
    let instance = le 4 c.instance ++ c.service ∷ limit in
    omega (
      arith,
      length-append (le 4 c.ticket) (le 2 c.class ++ instance),
      length-append (le 2 c.class) instance,
      length-append (le 4 c.instance) (c.service ∷ limit),
      length-append (le 2 c.reply_limit) c.content,
    )

command_back_by : (t c i s l : ℕ) (content : List ℕ) → t < 2 ^ 32 → c < 2 ^ 16 → i < 2 ^ 32 → l < 2 ^ 16
    → spelled_command (command_bytes (command_of t c i s l content)) ≡ Some (command_of t c i s l content)
command_back_by t c i s l content wide_ticket wide_class wide_instance wide_limit =
    let b = command_bytes (command_of t c i s l content) in
    let limit = le 2 l ++ content in
    let instance = le 4 i ++ s ∷ limit in
    let ticket_is : number_at 0 4 b ≡ t = little_number-reads_back 4 t (le 2 c ++ instance) wide_ticket in
    let class_is : number_at 4 2 b ≡ c = little_number-reads_back 2 c instance wide_class in
    let instance_is : number_at 6 4 b ≡ i = little_number-reads_back 4 i (s ∷ limit) wide_instance in
    let limit_is : number_at 11 2 b ≡ l = little_number-reads_back 2 l content wide_limit in
    let whole : Option QueuedCommand
    = Some (command_of (number_at 0 4 b) (number_at 4 2 b) (number_at 6 4 b) s (number_at 11 2 b) content) in
    ap (λ z. cond z None whole)
    (ap (λ k. nat_lt k 13) (command_size (command_of t c i s l content)) ∙ over_thirteen (length content))
    ∙ ap (λ k. Some (command_of k (number_at 4 2 b) (number_at 6 4 b) s (number_at 11 2 b) content)) ticket_is
    ∙ ap (λ k. Some (command_of t k (number_at 6 4 b) s (number_at 11 2 b) content)) class_is
    ∙ ap (λ k. Some (command_of t c k s (number_at 11 2 b) content)) instance_is
    ∙ ap (λ k. Some (command_of t c i s k content)) limit_is

command_back : (c : QueuedCommand) → IsQueued c → spelled_command (command_bytes c) ≡ Some c
command_back c is =
    let short = is.reply_limit in
    command_back_by c.ticket c.class c.instance c.service c.reply_limit c.content is.ticket is.class is.instance
    (omega (arith, short))

command_not_empty : (c : QueuedCommand) → (length (command_bytes c) == 0) ≡ false
command_not_empty c =
    let size = command_size c in ne_eqb (length (command_bytes c)) 0 (λ none. omega (arith, size, none))

-- ---- a result

abbrev result_of : ℕ → ℕ → ℕ → ℕ → List ℕ → QueueResult
result_of ticket class instance status content =
    record { ticket = ticket; class = class; instance = instance; status = status; content = content }

over_eleven : (n : ℕ) → nat_lt (11 + n) 11 ≡ false
over_eleven n = grind (arith, nat_tests)

result_size : (r : QueueResult) → length (result_bytes r) ≡ 11 + length r.content
result_size r =
    let instance = le 4 r.instance ++ r.status ∷ r.content in
    omega (
      arith,
      length-append (le 4 r.ticket) (le 2 r.class ++ instance),
      length-append (le 2 r.class) instance,
      length-append (le 4 r.instance) (r.status ∷ r.content),
    )

result_back_by : (t c i s : ℕ) (content : List ℕ) → t < 2 ^ 32 → c < 2 ^ 16 → i < 2 ^ 32
    → spelled_result (result_bytes (result_of t c i s content)) ≡ Some (result_of t c i s content)
result_back_by t c i s content wide_ticket wide_class wide_instance =
    let b = result_bytes (result_of t c i s content) in
    let instance = le 4 i ++ s ∷ content in
    let ticket_is : number_at 0 4 b ≡ t = little_number-reads_back 4 t (le 2 c ++ instance) wide_ticket in
    let class_is : number_at 4 2 b ≡ c = little_number-reads_back 2 c instance wide_class in
    let instance_is : number_at 6 4 b ≡ i = little_number-reads_back 4 i (s ∷ content) wide_instance in
    let whole : Option QueueResult
    = Some (result_of (number_at 0 4 b) (number_at 4 2 b) (number_at 6 4 b) s content) in
    ap (λ z. cond z None whole)
    (ap (λ k. nat_lt k 11) (result_size (result_of t c i s content)) ∙ over_eleven (length content))
    ∙ ap (λ k. Some (result_of k (number_at 4 2 b) (number_at 6 4 b) s content)) ticket_is
    ∙ ap (λ k. Some (result_of t k (number_at 6 4 b) s content)) class_is
    ∙ ap (λ k. Some (result_of t c k s content)) instance_is

result_back : (r : QueueResult) → IsResult r → spelled_result (result_bytes r) ≡ Some r
result_back r is = result_back_by r.ticket r.class r.instance r.status r.content is.ticket is.class is.instance

result_not_empty : (r : QueueResult) → (length (result_bytes r) == 0) ≡ false
result_not_empty r =
    let size = result_size r in ne_eqb (length (result_bytes r)) 0 (λ none. omega (arith, size, none))

-- ---- lists

same_some : {A : Type 0} (x y : A) → ◌≡◌ {A = Option A} (Some x) (Some y) → x ≡ y
same_some x y e = cc

take_one : {A : Type 0} (xs : List A) (n : ℕ) (x : A) → slice_get xs n ≡ Some x → take (suc n) xs ≡ take n xs ++ x ∷ []
take_one [] n x e = absurd (cc)
take_one (y ∷ xs) zero x e = ap (λ z. z ∷ []) (same_some y x e)
take_one (y ∷ xs) (suc n) x e = ap (λ ys. y ∷ ys) (take_one xs n x e)

take_none : {A : Type 0} (xs : List A) (n : ℕ) → slice_get xs n ≡ None → take (suc n) xs ≡ take n xs
take_none [] zero e = refl
take_none [] (suc n) e = refl
take_none (y ∷ xs) zero e = absurd (cc)
take_none (y ∷ xs) (suc n) e = ap (λ ys. y ∷ ys) (take_none xs n e)

take_all : {A : Type 0} (xs : List A) (n : ℕ) → length xs ≤ n → take n xs ≡ xs
take_all [] zero h = refl
take_all [] (suc n) h = refl
take_all (x ∷ xs) zero h = absurd (omega (arith, h))
take_all (x ∷ xs) (suc n) h = ap (λ ys. x ∷ ys) (take_all xs n (omega (arith, h)))

take_short : {A : Type 0} (xs : List A) (n : ℕ) → length (take n xs) ≤ n
take_short xs zero = omega arith
take_short [] (suc n) = omega arith
take_short (x ∷ xs) (suc n) = let short = take_short xs n in omega (arith, short)

within : {A : Type 0} (xs : List A) (n : ℕ) (x : A) → slice_get xs n ≡ Some x → n < length xs
within [] n x e = absurd (cc)
within (y ∷ xs) zero x e = omega arith
within (y ∷ xs) (suc n) x e = let h = within xs n x e in omega (arith, h)

each_is : {A : Type 0} (P : A → Type 0) (xs : List A) (n : ℕ) (x : A) → AllByRecursion P xs → slice_get xs n ≡ Some x
    → P x
each_is P [] n x all e = absurd (cc)
each_is P (y ∷ xs) zero x all e = subst P (same_some y x e) all.0
each_is P (y ∷ xs) (suc n) x all e = each_is P xs n x all.1 e

-- ---- a waiting command

below : (a b : ℕ) → a < b → nat_lt a b ≡ true
below a b h = grind (arith, nat_tests)

not_below : (a b : ℕ) → b ≤ a → nat_lt a b ≡ false
not_below a b h = grind (arith, nat_tests)

at_most : (a b : ℕ) → a ≤ b → nat_le a b ≡ true
at_most a b h = grind (arith, nat_tests)

-- A queue with the tickets of another.
abbrev queue_of : ℕ → QueueState → List QueuedCommand → List QueueResult → QueueState
queue_of limit q waiting results =
    record { limit = limit; next = q.next; handed = q.handed; waiting = waiting; results = results }

-- A queue with places for so many, once the first places of a queue were put back, so many.
abbrev pub at : QueueState → ℕ → ℕ → QueueState
at q limit n = queue_of limit q (take n q.waiting) (take (n - 256) q.results)

if_three : (a b c : Bool) (x : Option QueueState) → a ≡ true → b ≡ true → c ≡ true
    → (if a && b && c then x else None) ≡ x
if_three a b c x e f g = rw (e, f, g) refl

not_first_of_three : (a b c : Bool) (x : Option QueueState) → a ≡ false → (if a && b && c then x else None) ≡ None
not_first_of_three a b c x e = rw e refl

if_two : (a b : Bool) (x : Option QueueState) → a ≡ true → b ≡ true → (if a && b then x else None) ≡ x
if_two a b x e f = rw (e, f) refl

-- with one place more, the queue has the next command
module _ (q : QueueState) (limit n : ℕ) (c : QueuedCommand) (is : IsQueue q) (less : n < 256)
    (e : slice_get q.waiting n ≡ Some c) where
  none_yet : n - 256 ≡ suc n - 256
  none_yet = omega (arith, less)

  own : IsQueued c
  own = each_is IsQueued q.waiting n c is.commands e

  command_goes : place_put (at q limit n) n (command_bytes c) ≡ restored_waiting c (at q limit n)
  command_goes =
      let b = command_bytes c in
      ap (λ t. if t then Some (at q limit n) else (if nat_lt n PLACES then command_put (at q limit n) (spelled_command b)
      else result_put (at q limit n) (spelled_result b))) (command_not_empty c)
      ∙ ap (λ t. if t then command_put (at q limit n) (spelled_command b)
      else result_put (at q limit n) (spelled_result b)) (below n PLACES less)
      ∙ ap (command_put (at q limit n)) (command_back c own)

  command_put_back : length (take n q.waiting) < limit
      → place_put (at q limit n) n (command_bytes c) ≡ Some (at q limit (suc n))
  command_put_back room =
      command_goes
      ∙ if_three (nat_lt (length (take n q.waiting)) limit) (nat_le (length c.content) 500) (nat_le c.reply_limit 476)
      (Some (queue_of limit q (take n q.waiting ++ c ∷ []) (take (n - 256) q.results)))
      (below (length (take n q.waiting)) limit room) (at_most (length c.content) 500 own.content)
      (at_most c.reply_limit 476 own.reply_limit)
      ∙ ap (λ w. Some (queue_of limit q w (take (n - 256) q.results))) (sym (take_one q.waiting n c e))
      ∙ ap (λ k. Some (queue_of limit q (take (suc n) q.waiting) (take k q.results))) none_yet

  command_lost : limit ≤ length (take n q.waiting) → place_put (at q limit n) n (command_bytes c) ≡ None
  command_lost full =
      command_goes
      ∙ not_first_of_three (nat_lt (length (take n q.waiting)) limit) (nat_le (length c.content) 500)
      (nat_le c.reply_limit 476)
      (Some (queue_of limit q (take n q.waiting ++ c ∷ []) (take (n - 256) q.results)))
      (not_below (length (take n q.waiting)) limit full)

free_place : (q : QueueState) (limit n : ℕ) → n < 256 → slice_get q.waiting n ≡ None
    → place_put (at q limit n) n [] ≡ Some (at q limit (suc n))
free_place q limit n less e =
    let none : n - 256 ≡ suc n - 256 = omega (arith, less) in
    ap (λ w. Some (queue_of limit q w (take (n - 256) q.results))) (sym (take_none q.waiting n e))
    ∙ ap (λ k. Some (queue_of limit q (take (suc n) q.waiting) (take k q.results))) none

-- ---- a result

all_waiting : (q : QueueState) (n : ℕ) → IsQueue q → 256 ≤ n → take n q.waiting ≡ take (suc n) q.waiting
all_waiting q n is past =
    let few = is.few in
    let inside = is.within in
    take_all q.waiting n (omega (arith, few, inside, past))
    ∙ sym (take_all q.waiting (suc n) (omega (arith, few, inside, past)))

result_restored : (q : QueueState) (limit n : ℕ) (waiting : List QueuedCommand) (r : QueueResult) → IsQueue q
    → slice_get q.results n ≡ Some r
    → restored_result r (queue_of limit q waiting (take n q.results))
    ≡ Some (queue_of limit q waiting (take n q.results ++ r ∷ []))
result_restored q limit n waiting r is e =
    let own = each_is IsResult q.results n r is.done e in
    let short = take_short q.results n in
    let inside = within q.results n r e in
    let most = is.kept in
    if_two (nat_lt (length (take n q.results)) 256) (nat_le (length r.content) 476)
    (Some (queue_of limit q waiting (take n q.results ++ r ∷ [])))
    (below (length (take n q.results)) 256 (omega (arith, short, inside, most)))
    (at_most (length r.content) 476 own.content)

result_placed : (q : QueueState) (limit n : ℕ) (found : Option QueueResult) → IsQueue q → 256 ≤ n
    → slice_get q.results (n - 256) ≡ found
    → place_put (at q limit n) n (bytes_of_result found) ≡ Some (at q limit (suc n))
result_placed q limit n None is past e =
    let next : suc (n - 256) ≡ suc n - 256 = omega (arith, past) in
    ap (λ w. Some (queue_of limit q w (take (n - 256) q.results))) (all_waiting q n is past)
    ∙ ap (λ r. Some (queue_of limit q (take (suc n) q.waiting) r)) (sym (take_none q.results (n - 256) e))
    ∙ ap (λ k. Some (queue_of limit q (take (suc n) q.waiting) (take k q.results))) next
result_placed q limit n (Some r) is past e =
    let b = result_bytes r in
    let next : suc (n - 256) ≡ suc n - 256 = omega (arith, past) in
    ap (λ t. if t then Some (at q limit n) else (if nat_lt n PLACES then command_put (at q limit n) (spelled_command b)
    else result_put (at q limit n) (spelled_result b))) (result_not_empty r)
    ∙ ap (λ t. if t then command_put (at q limit n) (spelled_command b)
    else result_put (at q limit n) (spelled_result b)) (not_below n PLACES past)
    ∙ ap (result_put (at q limit n)) (result_back r (each_is IsResult q.results (n - 256) r is.done e))
    ∙ result_restored q limit (n - 256) (take n q.waiting) r is e
    ∙ ap (λ w. Some (queue_of limit q w (take (n - 256) q.results ++ r ∷ []))) (all_waiting q n is past)
    ∙ ap (λ r. Some (queue_of limit q (take (suc n) q.waiting) r)) (sym (take_one q.results (n - 256) r e))
    ∙ ap (λ k. Some (queue_of limit q (take (suc n) q.waiting) (take k q.results))) next

-- ---- a place

by_place : (P : Option QueueState → Type 0) (q : QueueState) (limit n : ℕ)
    → (n < 256 → P (place_put (at q limit n) n (bytes_of_command (slice_get q.waiting n))))
    → (256 ≤ n → P (place_put (at q limit n) n (bytes_of_result (slice_get q.results (n - 256)))))
    → P (place_put (at q limit n) n (place_bytes q n))
by_place P q limit n waits done = by (nat_lt n PLACES) refl
  where
    by : (t : Bool) → nat_lt n PLACES ≡ t
        → P (place_put (at q limit n) n (if t then bytes_of_command (slice_get q.waiting n)
        else bytes_of_result (slice_get q.results (n - PLACES))))
    by true e = let less : n < 256 = grind (arith, nat_tests) in waits less
    by false e = let past : 256 ≤ n = grind (arith, nat_tests) in done past

waiting_put : (q : QueueState) (limit n : ℕ) (found : Option QueuedCommand) → IsQueue q → length q.waiting ≤ limit
    → n < 256 → slice_get q.waiting n ≡ found
    → place_put (at q limit n) n (bytes_of_command found) ≡ Some (at q limit (suc n))
waiting_put q limit n None is fits less e = free_place q limit n less e
waiting_put q limit n (Some c) is fits less e =
    let short = take_short q.waiting n in
    let inside = within q.waiting n c e in
    command_put_back q limit n c is less e (omega (arith, short, inside, fits))

place_back : (q : QueueState) (limit n : ℕ) → IsQueue q → length q.waiting ≤ limit
    → place_put (at q limit n) n (place_bytes q n) ≡ Some (at q limit (suc n))
place_back q limit n is fits =
    by_place (λ o. o ≡ Some (at q limit (suc n))) q limit n
    (λ less. waiting_put q limit n (slice_get q.waiting n) is fits less refl)
    (λ past. result_placed q limit n (slice_get q.results (n - 256)) is past refl)

-- With any number of places, the queue has what was kept of the place, and no more commands than places, or the entry is
-- lost.
abbrev IsPutOrLost : QueueState → ℕ → ℕ → Option QueueState → Type 0
IsPutOrLost q limit n o = (o ≡ None) ⊎ ((o ≡ Some (at q limit n)) × (length (take n q.waiting) ≤ limit))

waiting_or_lost : (q : QueueState) (limit n : ℕ) (found : Option QueuedCommand) → IsQueue q
    → length (take n q.waiting) ≤ limit → n < 256 → slice_get q.waiting n ≡ found
    → IsPutOrLost q limit (suc n) (place_put (at q limit n) n (bytes_of_command found))
waiting_or_lost q limit n None is fits less e =
    inr (free_place q limit n less e, subst (λ w. length w ≤ limit) (sym (take_none q.waiting n e)) fits)
waiting_or_lost q limit n (Some c) is fits less e = by (nat_lt (length (take n q.waiting)) limit) refl
  where
    by : (t : Bool) → nat_lt (length (take n q.waiting)) limit ≡ t
        → IsPutOrLost q limit (suc n) (place_put (at q limit n) n (command_bytes c))
    by true free =
        let room : length (take n q.waiting) < limit = grind (arith, nat_tests) in
        let size = length-append (take n q.waiting) (c ∷ []) in
        inr (
          command_put_back q limit n c is less e room,
          subst (λ w. length w ≤ limit) (sym (take_one q.waiting n c e)) (omega (arith, room, size)),
        )
    by false full =
        let none : limit ≤ length (take n q.waiting) = grind (arith, nat_tests) in
        inl (command_lost q limit n c is less e none)

place_or_lost : (q : QueueState) (limit n : ℕ) → IsQueue q → length (take n q.waiting) ≤ limit
    → IsPutOrLost q limit (suc n) (place_put (at q limit n) n (place_bytes q n))
place_or_lost q limit n is fits =
    by_place (IsPutOrLost q limit (suc n)) q limit n
    (λ less. waiting_or_lost q limit n (slice_get q.waiting n) is fits less refl)
    (λ past. inr (
      result_placed q limit n (slice_get q.results (n - 256)) is past refl,
      subst (λ w. length w ≤ limit) (all_waiting q n is past) fits,
    ))

-- ---- all entries

-- The queue before the entry with this number is put back.
abbrev pub before : QueueState → ℕ → ℕ → QueueState
before q limit zero = empty_queue limit
before q limit (suc n) = at q limit n

-- No more commands wait in it than it has places.
abbrev pub IsBefore : QueueState → ℕ → ℕ → Type 0
IsBefore q limit zero = ⊤
IsBefore q limit (suc n) = length (take n q.waiting) ≤ limit

next_back : (next : ℕ) → next ≤ 2 ^ 32 → number_at 0 8 (le 8 next) ≡ next
next_back next h =
    ap (number_at 0 8) (sym (append-nil (le 8 next))) ∙ little_number-reads_back 8 next [] (omega (arith, h))

handed_back : (next handed : ℕ) → handed < 2 ^ 32 → number_at 8 4 (le 8 next ++ le 4 handed) ≡ handed
handed_back next handed h =
    ap (λ bytes. number_at 8 4 (le 8 next ++ bytes)) (sym (append-nil (le 4 handed)))
    ∙ little_number-reads_back 4 handed [] (omega (arith, h))

next_before : (next handed : ℕ) → next ≤ 2 ^ 32 → number_at 0 8 (le 8 next ++ le 4 handed) ≡ next
next_before next handed h = little_number-reads_back 8 next (le 4 handed) (omega (arith, h))

-- the bytes of the tickets, put back
tickets_back : (q : QueueState) (limit : ℕ) (all : Bool) → IsQueue q → has_handed_all q ≡ all
    → next_put (empty_queue limit) (if all then le 8 q.next else le 8 q.next ++ le 4 q.handed) ≡ Some (at q limit 0)
tickets_back q limit true is e =
    let same = next_back q.next is.next in
    ap (λ t. if t then tickets_put (empty_queue limit) (number_at 0 8 (le 8 q.next)) (le 8 q.next) else None)
    (ap (λ k. nat_le k (2 ^ 32)) same ∙ at_most q.next (2 ^ 32) is.next)
    ∙ ap (λ k. Some (with_handed (k - 1) (with_next k (empty_queue limit)))) same
    ∙ ap (λ k. Some (with_handed k (with_next q.next (empty_queue limit)))) (sym (eqb-true q.handed (q.next - 1) e))
tickets_back q limit false is e =
    let bytes = le 8 q.next ++ le 4 q.handed in
    let same = next_before q.next q.handed is.next in
    ap (λ t. if t then tickets_put (empty_queue limit) (number_at 0 8 bytes) bytes else None)
    (ap (λ k. nat_le k (2 ^ 32)) same ∙ at_most q.next (2 ^ 32) is.next)
    ∙ ap (λ k. Some (with_handed (number_at 8 4 bytes) (with_next k (empty_queue limit)))) same
    ∙ ap (λ k. Some (with_handed k (with_next q.next (empty_queue limit)))) (handed_back q.next q.handed is.handed)

first_back : (q : QueueState) (limit : ℕ) → IsQueue q → next_put (empty_queue limit) (next_bytes q) ≡ Some (at q limit 0)
first_back q limit is = tickets_back q limit (has_handed_all q) is refl

not_first : (n : ℕ) → (suc n == 0) ≡ false
not_first n = ne_eqb (suc n) 0 (λ same. omega (arith, same))

entry_goes : (q : QueueState) (limit n : ℕ)
    → queue_put (at q limit n) (suc n) (queue_bytes q (suc n)) ≡ place_put (at q limit n) n (place_bytes q n)
entry_goes q limit n =
    let same : suc n - 1 ≡ n = omega arith in
    ap (λ t. if t then next_put (at q limit n) (queue_bytes q (suc n))
    else place_put (at q limit n) (suc n - 1) (queue_bytes q (suc n))) (not_first n)
    ∙ ap (λ t. place_put (at q limit n) (suc n - 1) (if t then next_bytes q else place_bytes q (suc n - 1))) (not_first n)
    ∙ ap (λ k. place_put (at q limit n) k (place_bytes q k)) same

pub entry_back : (q : QueueState) (limit n : ℕ) → IsQueue q → length q.waiting ≤ limit
    → queue_put (before q limit n) n (queue_bytes q n) ≡ Some (before q limit (suc n))
entry_back q limit zero is fits = first_back q limit is
entry_back q limit (suc n) is fits = entry_goes q limit n ∙ place_back q limit n is fits

-- With any number of places, an entry is put back, or is lost.
pub entry_or_lost : (q : QueueState) (limit n : ℕ) → IsQueue q → IsBefore q limit n
    → (queue_put (before q limit n) n (queue_bytes q n) ≡ None)
    ⊎ ((queue_put (before q limit n) n (queue_bytes q n) ≡ Some (before q limit (suc n))) × IsBefore q limit (suc n))
entry_or_lost q limit zero is fits = inr (first_back q limit is, omega arith)
entry_or_lost q limit (suc n) is fits =
    subst (IsPutOrLost q limit (suc n)) (sym (entry_goes q limit n)) (place_or_lost q limit n is fits)

first_entries_back : (q : QueueState) (count : ℕ) → IsQueue q
    → put_entries (queue_bytes q) count (empty_queue q.limit) ≡ Some (before q q.limit count)
first_entries_back q zero is = refl
first_entries_back q (suc count) is =
    ap (option_and_then (λ x. queue_put x count (queue_bytes q count))) (first_entries_back q count is)
    ∙ entry_back q q.limit count is is.within

pub all_commands : (q : QueueState) (n : ℕ) → IsQueue q → 512 ≤ n → take n q.waiting ≡ q.waiting
all_commands q n is past =
    let few = is.few in
    let inside = is.within in
    take_all q.waiting n (omega (arith, few, inside, past))

pub all_places : (q : QueueState) (limit n : ℕ) → IsQueue q → 512 ≤ n → at q limit n ≡ record q { limit = limit }
all_places q limit n is past =
    let most = is.kept in
    ap (λ w. queue_of limit q w (take (n - 256) q.results)) (all_commands q n is past)
    ∙ ap (queue_of limit q q.waiting) (take_all q.results (n - 256) (omega (arith, most, past)))

counted : (q : QueueState) (count n : ℕ) → count ≡ suc n → 512 ≤ n → IsQueue q
    → put_entries (queue_bytes q) count (empty_queue q.limit) ≡ Some q
counted q count n more past is =
    ap (λ k. put_entries (queue_bytes q) k (empty_queue q.limit)) more ∙ first_entries_back q (suc n) is
    ∙ ap (λ x. Some x) (all_places q q.limit n is past)

pub all_back : queue_law
all_back q is = counted q QUEUE_ENTRIES 512 refl (omega arith) is
