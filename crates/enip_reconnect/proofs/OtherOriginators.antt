-- Requests of others do the same whatever is kept in the originator's slot.
use Rattle.std.proofs.Common.{◌≡◌, ◌≢◌, ℕ, ◌==◌, ◌&&◌, nat_lt, Bool, true, false, not, if◌then◌else◌, Option, Some, None, List, length, refl, ap, arith}
use Rattle.std.specs.Prelude.{⊤, option_map}
use Rattle.std.proofs.lemmas.Bool.{ltb-false, eq-eqb}
use Rattle.cip_bytes.specs.Numbers.{number_at}
use Rattle.cip_message.specs.declared.ledger_services.TheConstants as services
use Rattle.cip_ledger.specs.declared.target.Standing.{Standing}
use Rattle.cip_ledger.specs.declared.target.Standing.TheVariants as standings
use Rattle.cip_ledger.specs.Ledger.{LedgerState, SlotState, slot_of, is_pending}
use Rattle.cip_ledger.specs.Requests.{LedgerRequest, command_of, ledger_request}
use Rattle.cip_message.specs.LedgerCommand.{Command}
use Rattle.cip_ledger.specs.Standings.{embedded_standing, by_standing, new_at_router, at_router}
use Rattle.cip_ledger.specs.Services.{Answer, Action, Replies, Executes, Queues, Frees, action_of, instance_action, do_once, do_command, do_by_slot, do_new, forget, forget_in, size_fault, unless, refuses}
use Rattle.cip_ledger.specs.Turn.{fate_of, Turn, turn, turn_by, acted, slot_done, slot_queued, embedded_reply}
use Rattle.cip_ledger.specs.Runs.{command_by, command_in_data, forgotten_by, forgotten_in_data}
use Rattle.cip_ledger.specs.Laws.{IsOfAnother}
use Rattle.enip_reconnect.proofs.Filled.{fill, length-fill, slot_of-fill_other, with_slot-fill_other, without_slot-fill_other}

-- the ledger with this slot in place of the one of its originator
abbrev pub filled : SlotState → LedgerState → LedgerState
filled slot ledger = record ledger { taken = fill slot ledger.taken }

-- both only reply, execute or queue the same command of another, or free the same slot of another
abbrev Same : ℕ → Action → Action → Type 0
Same own (Replies one) (Replies other) = ⊤
Same own (Executes one) (Executes other) = (one ≡ other) × (other.originator ≢ own)
Same own (Queues one ticket) (Queues other again) = (one ≡ other) × (ticket ≡ again) × (other.originator ≢ own)
Same own (Frees one) (Frees other) = (one ≡ other) × (other ≢ own)
Same own _ _ = ⊥

same_if : (own : ℕ) (is : Bool) (a b c d : Action) → (is ≡ true → Same own a b) → (is ≡ false → Same own c d) →
    Same own (if is then a else c) (if is then b else d)
same_if own true a b c d if_true if_false = if_true refl
same_if own false a b c d if_true if_false = if_false refl

same_by_fault : {S : Type 0} (own : ℕ) (fault : Option S) (one other : Option S → Action) →
    ((why : S) → Same own (one (Some why)) (other (Some why))) → (fault ≡ None → Same own (one None) (other None)) →
    Same own (one fault) (other fault)
same_by_fault own None one other if_some if_none = if_none refl
same_by_fault own (Some why) one other if_some if_none = if_some why

exact_size : {S : Type 0} (few much : S) (size n : ℕ) →
    (if nat_lt n size then Some few else (if nat_lt size n then Some much else None)) ≡ None → n ≡ size
exact_size {S} few much size n none = go (nat_lt n size) (nat_lt size n) refl refl none
  where
    go : (short long : Bool) → nat_lt n size ≡ short → nat_lt size n ≡ long →
        (if short then Some few else (if long then Some much else None)) ≡ None → n ≡ size
    go true long s l e = absurd (cc)
    go false true s l e = absurd (cc)
    go false false s l e =
        let least = ltb-false n size s in
        let most = ltb-false size n l in
        omega arith

-- the command in the data, if there is one, and the slot that is named, are of others
module _ (slot : SlotState) (ledger : LedgerState) (max_size : ℕ) where
  abbrev own : ℕ
  own = slot.originator

  new-same : (command : Command) → command.originator ≢ own → Same own (do_new max_size command) (do_new max_size command)
  new-same command apart =
      same_if own (nat_lt max_size 485) _ _ _ _ (λ is. tt) (λ is. (refl, apart))

  by_slot-same : (command : Command) (found : Option SlotState) → command.originator ≢ own →
      Same own (do_by_slot (filled slot ledger) max_size command found) (do_by_slot ledger max_size command found)
  by_slot-same command None apart =
      rw (length-fill slot ledger.taken)
      (same_if own (nat_lt (length ledger.taken) ledger.slots) _ _ _ _ (λ is. new-same command apart) (λ is. tt))
  by_slot-same command (Some found) apart =
      same_if own (nat_lt command.number found.number) _ _ _ _ (λ is. tt)
      (λ is. same_if own (command.number == found.number) _ _ _ _ (λ is. tt)
      (λ is. same_if own (is_pending found) _ _ _ _ (λ is. tt) (λ is. new-same command apart)))

  command-same : (command : Command) → command.originator ≢ own →
      Same own (do_command (filled slot ledger) max_size command) (do_command ledger max_size command)
  command-same command apart =
      same_if own (not (command.life == ledger.life)) _ _ _ _ (λ is. tt)
      (λ is. rw (slot_of-fill_other slot ledger.taken command.originator apart)
      (by_slot-same command (slot_of command.originator ledger.taken) apart))

  do_once-same : (bytes : List ℕ) → option_map (λ (c : Command). c.originator) (command_in_data bytes) ≢ Some own →
      Same own (do_once (filled slot ledger) max_size bytes) (do_once ledger max_size bytes)
  do_once-same bytes apart = go _ (nat_lt (length bytes) 22) apart
    where
      go : (refused : Answer) (short : Bool) →
          option_map (λ (c : Command). c.originator) (if short then None else Some (command_of bytes)) ≢ Some own →
          Same own
          (if short then Replies refused else do_command (filled slot ledger) max_size (command_of bytes))
          (if short then Replies refused else do_command ledger max_size (command_of bytes))
      go refused true apart = tt
      go refused false apart = command-same (command_of bytes) (λ e. apart (ap Some e))

  forget_in-same : (originator number : ℕ) (found : Option SlotState) → originator ≢ own →
      Same own (forget_in originator number found) (forget_in originator number found)
  forget_in-same originator number None apart = tt
  forget_in-same originator number (Some found) apart =
      same_if own ((found.number == number) && not (is_pending found)) _ _ _ _ (λ is. (refl, apart)) (λ is. tt)

  -- data of the right size name a slot of another
  forget-same : (bytes : List ℕ) → ((n : ℕ) → forgotten_in_data bytes ≢ Some (own, n)) →
      Same own (forget (filled slot ledger) bytes) (forget ledger bytes)
  forget-same bytes apart =
      same_by_fault own (size_fault 12 bytes)
      (λ fault. unless fault refuses (forget_in originator number (slot_of originator (fill slot ledger.taken))))
      (λ fault. unless fault refuses (forget_in originator number (slot_of originator ledger.taken)))
      (λ fault. tt)
      (λ none.
      rw (slot_of-fill_other slot ledger.taken originator (exact none))
      (forget_in-same originator number (slot_of originator ledger.taken) (exact none)))
    where
      originator : ℕ
      originator = number_at 0 8 bytes

      number : ℕ
      number = number_at 8 4 bytes

      exact : size_fault 12 bytes ≡ None → originator ≢ own
      exact none e =
          apart number (rw (eq-eqb (length bytes) 12 (exact_size _ _ 12 (length bytes) none)) (ap (λ o. Some (o, number)) e))

  instance-same : (request : LedgerRequest) (instance_is : (request.instance == 1) ≡ true) →
      option_map (λ (c : Command). c.originator) (command_by (Some request)) ≢ Some own → ((n : ℕ) → forgotten_by (Some request) ≢ Some (own, n)) →
      Same own (instance_action (filled slot ledger) max_size request) (instance_action ledger max_size request)
  instance-same request instance_is command freed =
      same_if own (request.service == services.DO_ONCE) _ _ _ _
      (λ is. do_once-same request.data (rw (instance_is, is) at command))
      (λ is. same_if own (request.service == services.GET_LAST) _ _ _ _ (λ is. tt)
      (λ is. same_if own (request.service == services.FORGET) _ _ _ _
      (λ is. forget-same request.data (λ n. rw (instance_is, is) at freed n))
      (λ is. same_if own (request.service == 0x0e) _ _ _ _ (λ is. tt)
      (λ is. same_if own (request.service == 0x03) _ _ _ _ (λ is. tt)
      (λ is. same_if own (request.service == services.GET_SLOTS) _ _ _ _ (λ is. tt)
      (λ is. same_if own (request.service == services.WITHDRAW) _ _ _ _ (λ is. tt) (λ is. tt)))))))

  action-same : (request : LedgerRequest) →
      option_map (λ (c : Command). c.originator) (command_by (Some request)) ≢ Some own → ((n : ℕ) → forgotten_by (Some request) ≢ Some (own, n)) →
      Same own (action_of (filled slot ledger) max_size request) (action_of ledger max_size request)
  action-same request command freed =
      same_if own (request.instance == 0) _ _ _ _ (λ is. tt)
      (λ is. same_if own (request.instance == 1) _ _ _ _ (λ is. instance-same request is command freed) (λ is. tt))

-- ---- the turn

-- what the router makes of the same command is the same
module _ {M : Type 0} (standing : M → List ℕ → Standing) (router : M) (own : ℕ) where
  standing-same : (is : Standing) (command : Command) → command.originator ≢ own →
      Same own (by_standing is command) (by_standing is command)
  standing-same standings.Final command apart = (refl, apart)
  standing-same (standings.Pending ticket) command apart = (refl, refl, apart)
  standing-same standings.Refused command apart = tt

  put-same : (one other : Command) → one ≡ other → other.originator ≢ own →
      Same own (new_at_router standing router one) (new_at_router standing router other)
  put-same one other same apart =
      rw same (standing-same (embedded_standing standing router other.request) other apart)

  router-same : (one other : Action) → Same own one other →
      Same own (at_router standing router one) (at_router standing router other)
  router-same (Replies one) (Replies other) same = tt
  router-same (Executes one) (Executes other) same = put-same one other same.0 same.1
  router-same (Queues one ticket) (Queues other again) same = put-same one other same.0 same.2
  router-same (Frees one) (Frees other) same = same
  router-same (Replies one) (Executes other) same = absurd same
  router-same (Replies one) (Queues other again) same = absurd same
  router-same (Replies one) (Frees other) same = absurd same
  router-same (Executes one) (Replies other) same = absurd same
  router-same (Executes one) (Queues other again) same = absurd same
  router-same (Executes one) (Frees other) same = absurd same
  router-same (Queues one ticket) (Replies other) same = absurd same
  router-same (Queues one ticket) (Executes other) same = absurd same
  router-same (Queues one ticket) (Frees other) same = absurd same
  router-same (Frees one) (Replies other) same = absurd same
  router-same (Frees one) (Executes other) same = absurd same
  router-same (Frees one) (Queues other again) same = absurd same

module _ {M : Type 0} (after : M → ℕ → List ℕ → M) (answer : M → ℕ → List ℕ → List ℕ) (standing : M → List ℕ → Standing) (slot : SlotState) where
  -- both turns leave the same router, and ledgers that differ in what is kept in the slot
  pub record Alike (one other : Turn M) : Type 0 where
    pub router : one.router ≡ other.router
    pub ledger : one.ledger ≡ option_map (filled slot) other.ledger

  acted-alike : (one other : Action) (service : ℕ) (ledger : LedgerState) (router : M) → Same slot.originator one other →
      Alike
      (acted after answer one service (Some (filled slot ledger)) router)
      (acted after answer other service (Some ledger) router)
  acted-alike (Replies one) (Replies other) service ledger router same = record { router = refl; ledger = refl }
  acted-alike (Executes one) (Executes other) service ledger router same =
      rw same.0 (record {
        router = refl;
        ledger =
            ap (λ taken. Some (record ledger { taken = taken }))
            (with_slot-fill_other slot (slot_done other (embedded_reply after answer router other.request)) ledger.taken same.1);
      })
  acted-alike (Queues one ticket) (Queues other again) service ledger router same =
      rw (same.0, same.1) (record {
        router = refl;
        ledger =
            ap (λ taken. Some (record ledger { taken = taken }))
            (with_slot-fill_other slot (slot_queued other again) ledger.taken same.2);
      })
  acted-alike (Frees one) (Frees other) service ledger router same =
      rw same.0 (record {
        router = refl;
        ledger = ap (λ taken. Some (record ledger { taken = taken })) (without_slot-fill_other slot other ledger.taken same.1);
      })
  acted-alike (Replies one) (Executes other) service ledger router same = absurd same
  acted-alike (Replies one) (Queues other again) service ledger router same = absurd same
  acted-alike (Replies one) (Frees other) service ledger router same = absurd same
  acted-alike (Executes one) (Replies other) service ledger router same = absurd same
  acted-alike (Executes one) (Queues other again) service ledger router same = absurd same
  acted-alike (Executes one) (Frees other) service ledger router same = absurd same
  acted-alike (Queues one ticket) (Replies other) service ledger router same = absurd same
  acted-alike (Queues one ticket) (Executes other) service ledger router same = absurd same
  acted-alike (Queues one ticket) (Frees other) service ledger router same = absurd same
  acted-alike (Frees one) (Replies other) service ledger router same = absurd same
  acted-alike (Frees one) (Executes other) service ledger router same = absurd same
  acted-alike (Frees one) (Queues other again) service ledger router same = absurd same

  read-alike : (asked : Option LedgerRequest) (ledger : LedgerState) (router : M) (max_size : ℕ) (text : List ℕ) →
      option_map (λ (c : Command). c.originator) (command_by asked) ≢ Some slot.originator →
      ((n : ℕ) → forgotten_by asked ≢ Some (slot.originator, n)) →
      Alike
      (turn_by after answer (fate_of standing (filled slot ledger) router max_size asked) (Some (filled slot ledger)) router max_size text)
      (turn_by after answer (fate_of standing ledger router max_size asked) (Some ledger) router max_size text)
  read-alike None ledger router max_size text command freed = record { router = refl; ledger = refl }
  read-alike (Some asked) ledger router max_size text command freed =
      acted-alike (at_router standing router (action_of (filled slot ledger) max_size asked))
      (at_router standing router (action_of ledger max_size asked)) asked.service ledger router
      (router-same standing router slot.originator (action_of (filled slot ledger) max_size asked) (action_of ledger max_size asked)
      (action-same slot ledger max_size asked command freed))

  pub turn-alike : (ledger : LedgerState) (router : M) (max_size : ℕ) (text : List ℕ) → IsOfAnother slot.originator (max_size, text) →
      Alike (turn after answer standing (Some (filled slot ledger)) router max_size text)
      (turn after answer standing (Some ledger) router max_size text)
  turn-alike ledger router max_size text others =
      read-alike (ledger_request text) ledger router max_size text others.command others.forget
