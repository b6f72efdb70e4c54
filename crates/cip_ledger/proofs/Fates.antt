-- What the fate of a request says of the request and of the ledger.
use Rattle.std.proofs.Common.{◌≡◌, ◌⊎◌, inl, inr, ℕ, ◌+◌, ◌-◌, ◌*◌, ◌<◌, ◌≤◌, ◌==◌, ◌&&◌, nat_lt, Bool, true, false, not, if◌then◌else◌, Option, Some, None, unwrap_or, List, [], ◌++◌, length, drop, refl, ap, sym, ◌∙◌, subst, arith, length-drop}
use Rattle.std.specs.Prelude.{⊤}
use Rattle.std.proofs.lemmas.Bool.{eq-eqb, eqb-true, eqb-false, ltb-true, ltb-false}
use Rattle.cip_bytes.specs.Numbers.{le, number_at, words_of}
use Rattle.cip_ledger.specs.declared.status.Status.{Status}
use Rattle.cip_ledger.specs.declared.status.Status.TheVariants as statuses
use Rattle.cip_message.specs.declared.ledger_services.TheConstants as services
use Rattle.cip_ledger.specs.declared.service.TheConstants as common
use Rattle.cip_ledger.specs.declared.target.Standing.{Standing}
use Rattle.cip_ledger.specs.declared.target.Standing.TheVariants as standings
use Rattle.cip_ledger.specs.Status.{status_number}
use Rattle.cip_ledger.specs.Ledger.{LedgerState, SlotState, slot_of, is_pending}
use Rattle.cip_ledger.specs.Requests.{LedgerRequest, command_of, ledger_request}
use Rattle.cip_message.specs.LedgerCommand.{Command}
use Rattle.cip_ledger.specs.Standings.{embedded_standing, by_standing, at_router}
use Rattle.cip_ledger.specs.SlotList.{slot_list}
use Rattle.cip_ledger.specs.Services.{Answer, Action, Replies, Executes, Queues, Frees, refusal, refuses, success, within, size_fault, unless, last_content, KEPT_LIMIT, HEAD_SIZE, do_once, do_command, do_by_slot, do_greater, do_new, get_last, last_in, forget, forget_in, get_slots, withdraw, withdraw_of, withdraw_in, single, value_named, class_answer, class_values, get_attribute_list, list_answer, ledger_values, instance_action, action_of}
use Rattle.cip_ledger.specs.Turn.{Fate, Passed, Served, fate, fate_of}
use Rattle.cip_ledger.specs.Runs.{Request, command_by, command_in_data, command_given, forgotten_by, forgotten_in_data, forgotten}

-- the number is greater than that of the slot, if there is one
abbrev pub IsNewAt : Option SlotState → ℕ → Type 0
IsNewAt None number = ⊤
IsNewAt (Some slot) number = slot.number < number

-- the command of the slot is not pending, if there is one
abbrev pub HasEnded : Option SlotState → Type 0
HasEnded None = ⊤
HasEnded (Some slot) = is_pending slot ≡ false

-- the data of a success answer to a command are those kept for it
pub record IsKept (ledger : LedgerState) (command : Command) (content : List ℕ) : Type 0 where
  pub slot : SlotState
  pub found : slot_of command.originator ledger.taken ≡ Some slot
  pub number_is : slot.number ≡ command.number
  pub content_is : content ≡ last_content slot

-- the originator's slot has a greater number than the command
pub record IsOlder (ledger : LedgerState) (command : Command) : Type 0 where
  pub slot : SlotState
  pub found : slot_of command.originator ledger.taken ≡ Some slot
  pub greater : command.number < slot.number

-- what an answer means where a command was given, or none, and it fits the reply limit
pub record Answers (ledger : LedgerState) (max_size : ℕ) (given : Option Command) (answer : Answer) : Type 0 where
  pub fits : 8 ≤ max_size → HEAD_SIZE + length answer.content ≤ max_size
  pub kept : (command : Command) → given ≡ Some command → status_number answer.status ≡ 0 → IsKept ledger command answer.content
  pub older : (command : Command) → given ≡ Some command → status_number answer.status ≡ 0x0c → IsOlder ledger command

pub record IsExecuted (ledger : LedgerState) (max_size : ℕ) (given : Option Command) (command : Command) : Type 0 where
  pub given_is : given ≡ Some command
  pub life : command.life ≡ ledger.life
  pub newer : IsNewAt (slot_of command.originator ledger.taken) command.number
  pub ended : HasEnded (slot_of command.originator ledger.taken)
  pub fits : HEAD_SIZE + 1 + KEPT_LIMIT ≤ max_size
  pub request : 2 ≤ length command.request

pub record Forgets (ledger : LedgerState) (given : Option Command) (named : Option (ℕ × ℕ)) (originator : ℕ) : Type 0 where
  pub no_command : given ≡ None
  pub slot : SlotState
  pub found : slot_of originator ledger.taken ≡ Some slot
  pub named_is : named ≡ Some (originator, slot.number)
  pub ended : is_pending slot ≡ false

abbrev pub MeansAction : LedgerState → ℕ → Option Command → Option (ℕ × ℕ) → Action → Type 0
MeansAction ledger max_size given named (Replies answer) = Answers ledger max_size given answer
MeansAction ledger max_size given named (Executes command) = IsExecuted ledger max_size given command
MeansAction ledger max_size given named (Queues command ticket) = IsExecuted ledger max_size given command
MeansAction ledger max_size given named (Frees originator) = Forgets ledger given named originator

refused_of : (ledger : LedgerState) (max_size : ℕ) (given : Option Command) (named : Option (ℕ × ℕ)) (status : Status) →
    (status_number status ≡ 0 → ⊥) → (status_number status ≡ 0x0c → ⊥) → MeansAction ledger max_size given named (refuses status)
refused_of ledger max_size given named status other not_older = record {
  fits = λ least. omega (arith, least);
  kept = λ command is e. absurd (other e);
  older = λ command is e. absurd (not_older e);
}

-- a reply where no command was given
no_command_of : (ledger : LedgerState) (max_size : ℕ) (given : Option Command) (named : Option (ℕ × ℕ)) (answer : Answer) → given ≡ None →
    (8 ≤ max_size → HEAD_SIZE + length answer.content ≤ max_size) → MeansAction ledger max_size given named (Replies answer)
no_command_of ledger max_size given named answer none fits = record {
  fits = fits;
  kept = λ command is e. absurd (no_some given command none is);
  older = λ command is e. absurd (no_some given command none is);
}
  where
    no_some : (o : Option Command) (command : Command) → o ≡ None → o ≡ Some command → ⊥
    no_some o command none some = absurd (cc)

within-fits : (max_size : ℕ) (answer : Answer) → 8 ≤ max_size → HEAD_SIZE + length (within max_size answer).content ≤ max_size
within-fits max_size answer least = go (nat_lt max_size (HEAD_SIZE + length answer.content)) refl
  where
    go : (tight : Bool) → nat_lt max_size (HEAD_SIZE + length answer.content) ≡ tight →
        HEAD_SIZE + length (if tight then refusal statuses.ReplyDataTooLarge else answer).content ≤ max_size
    go true h = omega (arith, least)
    go false h = ltb-false max_size (HEAD_SIZE + length answer.content) h

module _ (ledger : LedgerState) (max_size : ℕ) (bytes : List ℕ) (named : Option (ℕ × ℕ)) where
  kept_means : (slot : SlotState) (tight : Bool) → slot_of (command_of bytes).originator ledger.taken ≡ Some slot → slot.number ≡ (command_of bytes).number →
      nat_lt max_size (HEAD_SIZE + length (last_content slot)) ≡ tight →
      MeansAction ledger max_size (Some (command_of bytes)) named
      (Replies (if tight then refusal statuses.ReplyDataTooLarge else success (last_content slot)))
  kept_means slot true found number h = refused_of ledger max_size (Some (command_of bytes)) named statuses.ReplyDataTooLarge (λ e. absurd (omega (arith, e))) (λ e. absurd (omega (arith, e)))
  kept_means slot false found number h = record {
    fits = λ least. ltb-false max_size (HEAD_SIZE + length (last_content slot)) h;
    kept = λ command is e. subst (λ (command : Command). IsKept ledger command (last_content slot)) (ap (λ o. unwrap_or o command) is)
        (record { slot = slot; found = found; number_is = number; content_is = refl });
    older = λ command is e. absurd (omega (arith, e));
  }

  new_means : (tight : Bool) → 22 ≤ length bytes → (command_of bytes).life ≡ ledger.life →
      IsNewAt (slot_of (command_of bytes).originator ledger.taken) (command_of bytes).number →
      HasEnded (slot_of (command_of bytes).originator ledger.taken) →
      nat_lt max_size (HEAD_SIZE + 1 + KEPT_LIMIT) ≡ tight →
      MeansAction ledger max_size (Some (command_of bytes)) named
      (if tight then refuses statuses.ReplyDataTooLarge else Executes (command_of bytes))
  new_means true enough life newer ended h = refused_of ledger max_size (Some (command_of bytes)) named statuses.ReplyDataTooLarge (λ e. absurd (omega (arith, e))) (λ e. absurd (omega (arith, e)))
  new_means false enough life newer ended h = record {
    given_is = refl;
    life = life;
    newer = newer;
    ended = ended;
    fits = ltb-false max_size (HEAD_SIZE + 1 + KEPT_LIMIT) h;
    request = (let size = length-drop 20 bytes in omega (arith, enough, size));
  }

  greater_means : (slot : SlotState) (waits : Bool) → 22 ≤ length bytes → (command_of bytes).life ≡ ledger.life →
      slot_of (command_of bytes).originator ledger.taken ≡ Some slot → slot.number < (command_of bytes).number →
      is_pending slot ≡ waits →
      MeansAction ledger max_size (Some (command_of bytes)) named
      (if waits then refuses statuses.CommandPending else do_new max_size (command_of bytes))
  greater_means slot true enough life found newer h = refused_of ledger max_size (Some (command_of bytes)) named statuses.CommandPending (λ e. absurd (omega (arith, e))) (λ e. absurd (omega (arith, e)))
  greater_means slot false enough life found newer h =
      new_means (nat_lt max_size (HEAD_SIZE + 1 + KEPT_LIMIT)) enough life (rw found newer) (rw found h) refl

  some_means : (slot : SlotState) (less same : Bool) → 22 ≤ length bytes → (command_of bytes).life ≡ ledger.life →
      slot_of (command_of bytes).originator ledger.taken ≡ Some slot →
      nat_lt (command_of bytes).number slot.number ≡ less → ((command_of bytes).number == slot.number) ≡ same →
      MeansAction ledger max_size (Some (command_of bytes)) named
      (if less then refuses statuses.ObjectStateConflict
      else (if same then Replies (within max_size (success (last_content slot)))
      else do_greater max_size (command_of bytes) slot))
  some_means slot true same enough life found h i = record {
    fits = λ least. omega (arith, least);
    kept = λ command is e. absurd (omega (arith, e));
    older = λ command is e. subst (λ (command : Command). IsOlder ledger command) (ap (λ o. unwrap_or o command) is)
        (record { slot = slot; found = found; greater = ltb-true (command_of bytes).number slot.number h });
  }
  some_means slot false true enough life found h i =
      kept_means slot (nat_lt max_size (HEAD_SIZE + length (last_content slot))) found (sym (eqb-true (command_of bytes).number slot.number i)) refl
  some_means slot false false enough life found h i =
      let least = ltb-false (command_of bytes).number slot.number h in
      let other = eqb-false (command_of bytes).number slot.number i in
      let newer : slot.number < (command_of bytes).number = omega (arith, least, other) in
      greater_means slot (is_pending slot) enough life found newer refl

  slot_means : (found : Option SlotState) → 22 ≤ length bytes → (command_of bytes).life ≡ ledger.life → slot_of (command_of bytes).originator ledger.taken ≡ found →
      MeansAction ledger max_size (Some (command_of bytes)) named (do_by_slot ledger max_size (command_of bytes) found)
  slot_means None enough life found = by_free (nat_lt (length ledger.taken) ledger.slots)
    where
      by_free : (free : Bool) → MeansAction ledger max_size (Some (command_of bytes)) named
          (if free then do_new max_size (command_of bytes) else refuses statuses.ResourceUnavailable)
      by_free true = new_means (nat_lt max_size (HEAD_SIZE + 1 + KEPT_LIMIT)) enough life (rw found tt) (rw found tt) refl
      by_free false = refused_of ledger max_size (Some (command_of bytes)) named statuses.ResourceUnavailable (λ e. absurd (omega (arith, e))) (λ e. absurd (omega (arith, e)))
  slot_means (Some slot) enough life found =
      some_means slot (nat_lt (command_of bytes).number slot.number) ((command_of bytes).number == slot.number) enough life found refl refl

  life_means : (same : Bool) → 22 ≤ length bytes → ((command_of bytes).life == ledger.life) ≡ same →
      MeansAction ledger max_size (Some (command_of bytes)) named
      (if not same then refuses statuses.DeviceStateConflict
      else do_by_slot ledger max_size (command_of bytes) (slot_of (command_of bytes).originator ledger.taken))
  life_means true enough h =
      slot_means (slot_of (command_of bytes).originator ledger.taken) enough (eqb-true (command_of bytes).life ledger.life h) refl
  life_means false enough h = refused_of ledger max_size (Some (command_of bytes)) named statuses.DeviceStateConflict (λ e. absurd (omega (arith, e))) (λ e. absurd (omega (arith, e)))

  once_means : (few : Bool) → nat_lt (length bytes) 22 ≡ few →
      MeansAction ledger max_size (if few then None else Some (command_of bytes)) named
      (if few then refuses statuses.NotEnoughData else do_command ledger max_size (command_of bytes))
  once_means true h = refused_of ledger max_size None named statuses.NotEnoughData (λ e. absurd (omega (arith, e))) (λ e. absurd (omega (arith, e)))
  once_means false h = life_means ((command_of bytes).life == ledger.life) (ltb-false (length bytes) 22 h) refl

-- ---- Get_Last, the attributes, Get_Slots and Withdraw only reply

unless_fits : (max_size : ℕ) (fault : Option Status) (answer : Answer) → 8 ≤ max_size →
    HEAD_SIZE + length answer.content ≤ max_size → HEAD_SIZE + length (unless fault refusal answer).content ≤ max_size
unless_fits max_size None answer least fits = fits
unless_fits max_size (Some status) answer least fits = omega (arith, least)

last-fits : (max_size : ℕ) (found : Option SlotState) → 8 ≤ max_size → HEAD_SIZE + length (last_in max_size found).content ≤ max_size
last-fits max_size None least = omega (arith, least)
last-fits max_size (Some slot) least = within-fits max_size (success (le 4 slot.number ++ last_content slot)) least

single-fits : (max_size : ℕ) (bytes : List ℕ) (value : Option (List ℕ)) → 8 ≤ max_size →
    HEAD_SIZE + length (single max_size bytes value).content ≤ max_size
single-fits max_size bytes None least = omega (arith, least)
single-fits max_size bytes (Some value) least =
    unless_fits max_size (size_fault 0 bytes) (within max_size (success value)) least (within-fits max_size (success value) least)

list-fits : (ledger : LedgerState) (max_size : ℕ) (bytes : List ℕ) (few : Bool) → 8 ≤ max_size →
    HEAD_SIZE + length (if few then refusal statuses.NotEnoughData else unless (size_fault (2 + 2 * number_at 0 2 bytes) bytes) refusal
    (within max_size (list_answer (ledger_values ledger) (number_at 0 2 bytes) (words_of (drop 2 bytes))))).content ≤ max_size
list-fits ledger max_size bytes true least = omega (arith, least)
list-fits ledger max_size bytes false least =
    let answer = list_answer (ledger_values ledger) (number_at 0 2 bytes) (words_of (drop 2 bytes)) in
    unless_fits max_size (size_fault (2 + 2 * number_at 0 2 bytes) bytes) (within max_size answer) least (within-fits max_size answer least)

slots-fit : (ledger : LedgerState) (max_size : ℕ) (bytes : List ℕ) → 8 ≤ max_size →
    HEAD_SIZE + length (get_slots ledger max_size bytes).content ≤ max_size
slots-fit ledger max_size bytes least =
    let answer = success (slot_list (max_size - HEAD_SIZE) (number_at 0 2 bytes) ledger.taken) in
    unless_fits max_size (size_fault 2 bytes) (within max_size answer) least (within-fits max_size answer least)

withdraw_in-fits : (max_size number : ℕ) (found : Option SlotState) → 8 ≤ max_size →
    HEAD_SIZE + length (withdraw_in max_size number found).content ≤ max_size
withdraw_in-fits max_size number None least = omega (arith, least)
withdraw_in-fits max_size number (Some slot) least = go (nat_lt number slot.number) (number == slot.number)
  where
    go : (less same : Bool) → HEAD_SIZE + length (if less then refusal statuses.ObjectStateConflict
        else (if same then within max_size (success (last_content slot)) else refusal statuses.CommandPending)).content ≤ max_size
    go true same = omega (arith, least)
    go false true = within-fits max_size (success (last_content slot)) least
    go false false = omega (arith, least)

withdraw-fits : (ledger : LedgerState) (max_size : ℕ) (bytes : List ℕ) → 8 ≤ max_size →
    HEAD_SIZE + length (withdraw ledger max_size bytes).content ≤ max_size
withdraw-fits ledger max_size bytes least =
    unless_fits max_size (size_fault 20 bytes) (withdraw_of ledger max_size bytes) least (by_life (number_at 0 8 bytes == ledger.life))
  where
    by_life : (own : Bool) → HEAD_SIZE + length (if not own then refusal statuses.DeviceStateConflict
        else withdraw_in max_size (number_at 16 4 bytes) (slot_of (number_at 8 8 bytes) ledger.taken)).content ≤ max_size
    by_life true = withdraw_in-fits max_size (number_at 16 4 bytes) (slot_of (number_at 8 8 bytes) ledger.taken) least
    by_life false = omega (arith, least)

-- ---- Forget

exact : (bytes : List ℕ) → 12 ≤ length bytes → length bytes ≤ 12 → forgotten_in_data bytes ≡ Some (number_at 0 8 bytes, number_at 8 4 bytes)
exact bytes least most = let same : length bytes ≡ 12 = omega (arith, least, most) in rw (eq-eqb (length bytes) 12 same) refl

module _ (ledger : LedgerState) (max_size : ℕ) (bytes : List ℕ) where
  forget_found : (found : Option SlotState) → slot_of (number_at 0 8 bytes) ledger.taken ≡ found → 12 ≤ length bytes → length bytes ≤ 12 →
      MeansAction ledger max_size None (forgotten_in_data bytes) (forget_in (number_at 0 8 bytes) (number_at 8 4 bytes) found)
  forget_found None is least most =
      no_command_of ledger max_size None (forgotten_in_data bytes) (success []) refl (λ h. omega (arith, h))
  forget_found (Some slot) is least most = by_number (slot.number == number_at 8 4 bytes) (is_pending slot) refl refl
    where
      by_number : (same waits : Bool) → (slot.number == number_at 8 4 bytes) ≡ same → is_pending slot ≡ waits →
          MeansAction ledger max_size None (forgotten_in_data bytes)
          (if same && not waits then Frees (number_at 0 8 bytes) else refuses statuses.ObjectStateConflict)
      by_number true true h waits =
          no_command_of ledger max_size None (forgotten_in_data bytes) (refusal statuses.ObjectStateConflict) refl (λ h. omega (arith, h))
      by_number true false h waits = record {
        no_command = refl;
        slot = slot;
        found = is;
        named_is = exact bytes least most
            ∙ ap (λ n. Some (number_at 0 8 bytes, n)) (sym (eqb-true slot.number (number_at 8 4 bytes) h));
        ended = waits;
      }
      by_number false waits h is_waiting =
          no_command_of ledger max_size None (forgotten_in_data bytes) (refusal statuses.ObjectStateConflict) refl (λ h. omega (arith, h))

  forget_means : (few many : Bool) → nat_lt (length bytes) 12 ≡ few → nat_lt 12 (length bytes) ≡ many →
      MeansAction ledger max_size None (forgotten_in_data bytes)
      (unless (if few then Some statuses.NotEnoughData else (if many then Some statuses.TooMuchData else None)) refuses
      (forget_in (number_at 0 8 bytes) (number_at 8 4 bytes) (slot_of (number_at 0 8 bytes) ledger.taken)))
  forget_means true many h i = refused_of ledger max_size None (forgotten_in_data bytes) statuses.NotEnoughData (λ e. absurd (omega (arith, e))) (λ e. absurd (omega (arith, e)))
  forget_means false true h i = refused_of ledger max_size None (forgotten_in_data bytes) statuses.TooMuchData (λ e. absurd (omega (arith, e))) (λ e. absurd (omega (arith, e)))
  forget_means false false h i =
      forget_found (slot_of (number_at 0 8 bytes) ledger.taken) refl (ltb-false (length bytes) 12 h) (ltb-false 12 (length bytes) i)

-- ---- the service of a request

module _ (ledger : LedgerState) (max_size : ℕ) (request : LedgerRequest) where
  only_replies : (once forgets : Bool) (answer : Answer) → once ≡ false →
      (8 ≤ max_size → HEAD_SIZE + length answer.content ≤ max_size) →
      MeansAction ledger max_size (if once then command_in_data request.data else None)
      (if forgets then forgotten_in_data request.data else None) (Replies answer)
  only_replies true forgets answer e fits = absurd (cc)
  only_replies false forgets answer e fits = no_command_of ledger max_size None (if forgets then forgotten_in_data request.data else None) answer refl fits

  service_means : (once last forgets get list slots withdraws : Bool) → (request.service == services.DO_ONCE) ≡ once → (request.service == services.FORGET) ≡ forgets →
      MeansAction ledger max_size (if once then command_in_data request.data else None)
      (if forgets then forgotten_in_data request.data else None)
      (if once then do_once ledger max_size request.data
      else (if last then Replies (get_last ledger max_size request.data)
      else (if forgets then forget ledger request.data
      else (if get then Replies (single max_size request.data (value_named (ledger_values ledger) request.attribute))
      else (if list then Replies (get_attribute_list (ledger_values ledger) max_size request.data)
      else (if slots then Replies (get_slots ledger max_size request.data)
      else (if withdraws then Replies (withdraw ledger max_size request.data)
      else refuses statuses.ServiceNotSupported)))))))
  service_means true last forgets get list slots withdraws h i =
      once_means ledger max_size request.data (if forgets then forgotten_in_data request.data else None) (nat_lt (length request.data) 22) refl
  service_means false true forgets get list slots withdraws h i =
      only_replies false forgets (get_last ledger max_size request.data) refl
      (λ least. unless_fits max_size (size_fault 8 request.data) (last_in max_size (slot_of (number_at 0 8 request.data) ledger.taken)) least
      (last-fits max_size (slot_of (number_at 0 8 request.data) ledger.taken) least))
  service_means false false true get list slots withdraws h i =
      forget_means ledger max_size request.data (nat_lt (length request.data) 12) (nat_lt 12 (length request.data)) refl refl
  service_means false false false true list slots withdraws h i =
      only_replies false false (single max_size request.data (value_named (ledger_values ledger) request.attribute)) refl
      (λ least. single-fits max_size request.data (value_named (ledger_values ledger) request.attribute) least)
  service_means false false false false true slots withdraws h i =
      only_replies false false (get_attribute_list (ledger_values ledger) max_size request.data) refl
      (λ least. list-fits ledger max_size request.data (nat_lt (length request.data) 2) least)
  service_means false false false false false true withdraws h i =
      only_replies false false (get_slots ledger max_size request.data) refl
      (λ least. slots-fit ledger max_size request.data least)
  service_means false false false false false false true h i =
      only_replies false false (withdraw ledger max_size request.data) refl
      (λ least. withdraw-fits ledger max_size request.data least)
  service_means false false false false false false false h i =
      refused_of ledger max_size None None statuses.ServiceNotSupported (λ e. absurd (omega (arith, e))) (λ e. absurd (omega (arith, e)))

  class-fits : (get : Bool) → 8 ≤ max_size →
      HEAD_SIZE + length (if get then single max_size request.data (value_named class_values request.attribute)
      else refusal statuses.ServiceNotSupported).content ≤ max_size
  class-fits true least = single-fits max_size request.data (value_named class_values request.attribute) least
  class-fits false least = omega (arith, least)

  instance_means : (zero one : Bool) → (request.instance == 0) ≡ zero → (request.instance == 1) ≡ one →
      MeansAction ledger max_size
      (if one && (request.service == services.DO_ONCE) then command_in_data request.data else None)
      (if one && (request.service == services.FORGET) then forgotten_in_data request.data else None)
      (if zero then Replies (class_answer max_size request)
      else (if one then instance_action ledger max_size request else refuses statuses.PathDestinationUnknown))
  instance_means true true h i =
      let zero = eqb-true request.instance 0 h in let one = eqb-true request.instance 1 i in absurd (omega (arith, zero, one))
  instance_means true false h i =
      no_command_of ledger max_size None None (class_answer max_size request) refl
      (λ least. class-fits (request.service == common.GET_ATTRIBUTE_SINGLE) least)
  instance_means false true h i =
      service_means (request.service == services.DO_ONCE) (request.service == services.GET_LAST) (request.service == services.FORGET)
      (request.service == common.GET_ATTRIBUTE_SINGLE) (request.service == common.GET_ATTRIBUTE_LIST)
      (request.service == services.GET_SLOTS) (request.service == services.WITHDRAW) refl refl
  instance_means false false h i =
      refused_of ledger max_size None None statuses.PathDestinationUnknown (λ e. absurd (omega (arith, e))) (λ e. absurd (omega (arith, e)))

  pub action-means : MeansAction ledger max_size (command_by (Some request)) (forgotten_by (Some request)) (action_of ledger max_size request)
  action-means = instance_means (request.instance == 0) (request.instance == 1) refl refl

-- ---- the fate of a request

pub record IsServed (ledger : Option LedgerState) (request : Request) (service : ℕ) (action : Action) : Type 0 where
  pub state : LedgerState
  pub ledger_is : ledger ≡ Some state
  pub asked : LedgerRequest
  pub asked_is : ledger_request request.1 ≡ Some asked
  pub service_is : asked.service ≡ service
  pub means : MeansAction state request.0 (command_given request) (forgotten request) action

abbrev pub Means : Option LedgerState → Request → Fate → Type 0
Means ledger request Passed = (ledger ≡ None) ⊎ (ledger_request request.1 ≡ None)
Means ledger request (Served service action) = IsServed ledger request service action

-- what the router makes of a new command
module _ {M : Type 0} (standing : M → List ℕ → Standing) (ledger : LedgerState) (max_size : ℕ) (given : Option Command)
    (named : Option (ℕ × ℕ)) where
  standing-means : (is : Standing) (command : Command) → IsExecuted ledger max_size given command →
      MeansAction ledger max_size given named (by_standing is command)
  standing-means standings.Final command means = means
  standing-means (standings.Pending ticket) command means = means
  standing-means standings.Refused command means =
      refused_of ledger max_size given named statuses.ResourceUnavailable (λ e. absurd (omega (arith, e)))
      (λ e. absurd (omega (arith, e)))

  router-means : (router : M) (action : Action) → MeansAction ledger max_size given named action →
      MeansAction ledger max_size given named (at_router standing router action)
  router-means router (Replies answer) means = means
  router-means router (Executes command) means =
      standing-means (embedded_standing standing router command.request) command means
  router-means router (Queues command ticket) means =
      standing-means (embedded_standing standing router command.request) command means
  router-means router (Frees originator) means = means

module _ {M : Type 0} (standing : M → List ℕ → Standing) where
  asked_means : (ledger : LedgerState) (router : M) (request : Request) (asked : Option LedgerRequest) →
      ledger_request request.1 ≡ asked →
      Means (Some ledger) request (fate_of standing ledger router request.0 asked)
  asked_means ledger router request None e = inr e
  asked_means ledger router request (Some asked) e = record {
    state = ledger;
    ledger_is = refl;
    asked = asked;
    asked_is = e;
    service_is = refl;
    means = subst
        (λ o. MeansAction ledger request.0 (command_by o) (forgotten_by o)
        (at_router standing router (action_of ledger request.0 asked))) (sym e)
        (router-means standing ledger request.0 (command_by (Some asked)) (forgotten_by (Some asked)) router
        (action_of ledger request.0 asked) (action-means ledger request.0 asked));
  }

  pub fate-means : (ledger : Option LedgerState) (router : M) (request : Request) →
      Means ledger request (fate standing ledger router request.0 request.1)
  fate-means None router request = inl refl
  fate-means (Some ledger) router request = asked_means ledger router request (ledger_request request.1) refl
