-- What holds of every ledger still holds after every step of a device whose requests consist of bytes.
use Rattle.std.proofs.Common.{◌≡◌, ℕ, zero, suc, ◌+◌, ◌*◌, ◌<◌, ◌≤◌, ◌^◌, ◌==◌, ◌&&◌, nat_lt, not, Bool, true, false, cond}
use Rattle.std.proofs.Common.{if◌then◌else◌, Option, Some, None, List, [], ◌∷◌, length, take, drop, refl, ap, sym, ◌∙◌}
use Rattle.std.proofs.Common.{subst, arith, Result, Ok, Err}
use Rattle.std.specs.Prelude.{⊤, ◌||◌, option_map, is_some, unwrap_or, IfSome}
use Rattle.std.specs.Option.{option_and_then}
use Rattle.std.proofs.lemmas.Bool.{eqb-true, ltb-true, and_parts}
use Rattle.std.proofs.lemmas.Bool.Decides.{nat_tests}
use Rattle.std.proofs.lemmas.List.{get_or-drop, length-map}
use Rattle.cip_bytes.specs.Numbers.{number_at, AreBytes}
use Rattle.cip_bytes.proofs.Bytes.{AreBytes-drop}
use Rattle.cip_message.specs.declared.path.Path.{Path}
use Rattle.cip_message.specs.declared.path.PathFault.{PathFault}
use Rattle.cip_message.specs.declared.request.RequestFault.{RequestFault}
use Rattle.cip_message.specs.declared.request.RequestFault.TheVariants.{PathSize}
use Rattle.cip_message.specs.PathReading.{path_of}
use Rattle.cip_message.specs.Request.{Request as RouterRequest, request_of}
use Rattle.cip_message.specs.declared.ledger_services.TheConstants.{LEDGER}
use Rattle.cip_message.specs.declared.ledger_services.TheConstants as services
use Rattle.cip_ledger.specs.declared.withdrawal.Withdrawal.{Withdrawal}
use Rattle.cip_ledger.specs.Device.{Device, finished_in}
use Rattle.cip_ledger.specs.Doubt.{is_doubtful, is_in_doubt_at, is_in_doubt, is_kept_reply, can_settle, with_last}
use Rattle.cip_ledger.specs.Doubt.{settled}
use Rattle.cip_ledger.specs.Kept.{IsLedger}
use Rattle.cip_ledger.specs.Ledger.{LedgerState, SlotState, slot_of, with_slot, without_slot, AreSlots, IsSlot}
use Rattle.cip_ledger.specs.Ledger.{is_pending, slot_withdrawn}
use Rattle.cip_ledger.specs.Requests.{LedgerRequest, command_of, ledger_request, request_by_parts}
use Rattle.cip_message.specs.LedgerCommand.{Command}
use Rattle.cip_ledger.specs.Requests.{request_by_path, is_barred}
use Rattle.cip_ledger.specs.Runs.{Request, command_given}
use Rattle.cip_ledger.specs.Services.{Action, Replies, Executes, Queues, Frees, refuses, size_fault, unless, do_new, do_by_slot}
use Rattle.cip_ledger.specs.Services.{forget, forget_in, action_of, KEPT_LIMIT, HEAD_SIZE}
use Rattle.cip_ledger.specs.Turn.{Fate, Passed, Served, fate, fate_of, turn_by, with_executed, with_queued, with_freed}
use Rattle.cip_ledger.specs.Turn.{embedded_reply, with_taken}
use Rattle.cip_ledger.specs.Withdrawing.{by_withdraw, by_forget, withdrawal_by, withdrawal_of, withdrawal_result}
use Rattle.cip_ledger.specs.Withdrawing.{has_place, with_withdrawn, was_handed, left_device, with_withdrawal}
use Rattle.cip_ledger.specs.Withdrawing.{withdrawn_from, found_by}
use Rattle.cip_ledger.specs.declared.target.Standing.{Standing}
use Rattle.cip_ledger.specs.declared.target.Standing.TheVariants as standings
use Rattle.cip_ledger.specs.Device.{owned_standing}
use Rattle.cip_ledger.specs.Pending.{completed_slot, with_completed, completed}
use Rattle.cip_ledger.specs.Standings.{by_standing, at_router}
use Rattle.cip_ledger.proofs.Answered.{gives}
use Rattle.cip_ledger.proofs.Fates.{Means, fate-means}
use Rattle.cip_ledger.proofs.KeptLemmas.{apart-with_slot, apart-without_slot, slots-with_slot, slots-without_slot}
use Rattle.cip_ledger.proofs.CompletedSlots.{apart-completed, slots-completed}
use Rattle.cip_ledger.proofs.SlotLemmas.{slot_of-originator}
use Rattle.cip_ledger.proofs.Withdrawals.{IsNamed, none-some, same-some, slot-named, forget-named}
use Rattle.cip_owner.specs.Owned.{OwnedState}
use Rattle.cip_owner.specs.OwnedLaws.{exec_owned_within}
use Rattle.enip_adapter.specs.DeviceRuns.{DeviceStep, Requested, WrittenBy, device_after_step, objects_after}
use Rattle.enip_adapter.specs.DeviceRuns.{objects_answer}
use Rattle.kept_adapter.specs.Restarts.{IsWriteOfBytes, IsOfBytes}
use Rattle.enip_adapter.specs.OwnWrites.{OwnWrite, WritesData, WritesAttribute, SetsStatus, SetsState, Prepares}
use Rattle.enip_adapter.specs.OwnWrites.{Settles, Finishes, Marks, Withdraws, ledger_written}
use Rattle.enip_adapter.proofs.SettleLemmas.{IsFinished, Unchanged, Completed, finished-ledger}
use Rattle.kept_adapter.proofs.GivenTickets.{StandsQueued, stands_queued, pending_narrow}

-- ---- the numbers of a command fit their types

number4 : (k : ℕ) (b : List ℕ) → AreBytes b → number_at k 4 b < 2 ^ 32
number4 k b fits = let f = AreBytes-drop k b fits in omega (arith, f 0, f 1, f 2, f 3)

number8 : (k : ℕ) (b : List ℕ) → AreBytes b → number_at k 8 b < 2 ^ 64
number8 k b fits = let f = AreBytes-drop k b fits in omega (arith, f 0, f 1, f 2, f 3, f 4, f 5, f 6, f 7)

in_data : (short : Bool) (s w : ℕ) (rest : List ℕ) (q : RouterRequest) → AreBytes (s ∷ w ∷ rest)
    → ◌≡◌ {A = Result RouterRequest RequestFault} (cond short (Err PathSize)
    (Ok (record { service = s; path = take (2 * w) rest; «data» = drop (2 * w) rest }))) (Ok q) → AreBytes q.data
in_data true s w rest q h e = absurd (cc)
in_data false s w rest q h e =
    let same : ◌≡◌ {A = RouterRequest} (record { service = s; path = take (2 * w) rest; «data» = drop (2 * w) rest }) q
    = cc in
    subst AreBytes (ap (λ r. r.data) same) (λ i. rw (get_or-drop (2 * w) rest i 0) (h (suc (suc (2 * w + i)))))

router_data : (text : List ℕ) (q : RouterRequest) → AreBytes text → request_of text ≡ Ok q → AreBytes q.data
unfolding request_of
router_data [] q h e = absurd (cc)
router_data (s ∷ []) q h e = absurd (cc)
router_data (s ∷ w ∷ rest) q h e = in_data (nat_lt (length rest) (2 * w)) s w rest q h e

same_some : {A : Type 0} (x y : A) → ◌≡◌ {A = Option A} (Some x) (Some y) → x ≡ y
same_some x y e = cc

asked_data : (text : List ℕ) (asked : LedgerRequest) → AreBytes text → ledger_request text ≡ Some asked
    → AreBytes asked.data
unfolding ledger_request
asked_data text asked fits e = by_parts (request_of text) refl e
  where
    by_class : (q : RouterRequest) (own : Bool) (made : LedgerRequest) → made.data ≡ q.data → AreBytes q.data
        → (if own then Some made else None) ≡ Some asked → AreBytes asked.data
    by_class q true made same has is =
        subst AreBytes (sym same ∙ ap (λ (r : LedgerRequest). r.data) (same_some made asked is)) has
    by_class q false made same has is = absurd (cc)

    by_path : (q : RouterRequest) (p : Result Path PathFault) → AreBytes q.data → request_by_path q p ≡ Some asked
        → AreBytes asked.data
    by_path q (Err fault) has is = absurd (cc)
    by_path q (Ok p) has is = by_class q (p.class == LEDGER) _ refl has is

    by_parts : (x : Result RouterRequest RequestFault) → request_of text ≡ x → request_by_parts x ≡ Some asked
        → AreBytes asked.data
    by_parts (Err fault) same is = absurd (cc)
    by_parts (Ok q) same is = by_path q (path_of q.path) (router_data text q fits same) is

record IsNarrow (command : Command) : Type 0 where
  originator : command.originator < 2 ^ 64
  number : command.number < 2 ^ 32

command_fits : (request : Request) (command : Command) → AreBytes request.1 → command_given request ≡ Some command
    → IsNarrow command
command_fits request command fits is =
    let gift = gives (ledger_request request.1) command is in
    let has = asked_data request.1 gift.request fits gift.asked_is in
    subst IsNarrow gift.command_is
    (record { originator = number8 8 gift.request.data has; number = number4 16 gift.request.data has })

-- ---- a command is executed only if its originator has a slot, or one is free

abbrev HasRoom : LedgerState → Action → Type 0
HasRoom ledger (Replies answer) = ⊤
HasRoom ledger (Executes command) =
    slot_of command.originator ledger.taken ≡ None → length ledger.taken < ledger.slots
HasRoom ledger (Queues command ticket) =
    slot_of command.originator ledger.taken ≡ None → length ledger.taken < ledger.slots
HasRoom ledger (Frees originator) = ⊤

room_if : (ledger : LedgerState) (is : Bool) (a b : Action) → HasRoom ledger a → HasRoom ledger b
    → HasRoom ledger (if is then a else b)
room_if ledger true a b one other = one
room_if ledger false a b one other = other

some_not_none : (slot : SlotState) (o : Option SlotState) → o ≡ Some slot → o ≡ None → ⊥
some_not_none slot o some none = absurd (cc)

room_by_slot : (ledger : LedgerState) (max_size : ℕ) (command : Command) (found : Option SlotState)
    → slot_of command.originator ledger.taken ≡ found → HasRoom ledger (do_by_slot ledger max_size command found)
room_by_slot ledger max_size command None is = by_free (nat_lt (length ledger.taken) ledger.slots) _ tt refl
  where
    by_free : (free : Bool) (refused : Action) → HasRoom ledger refused
        → nat_lt (length ledger.taken) ledger.slots ≡ free
        → HasRoom ledger (if free then do_new max_size command else refused)
    by_free true refused none e =
        room_if ledger (nat_lt max_size (HEAD_SIZE + 1 + KEPT_LIMIT)) _ _ tt
        (λ none. ltb-true (length ledger.taken) ledger.slots e)
    by_free false refused none e = none
room_by_slot ledger max_size command (Some slot) is =
    room_if ledger (nat_lt command.number slot.number) _ _ tt
    (room_if ledger (command.number == slot.number) _ _ tt
    (room_if ledger (is_pending slot) _ _ tt
    (room_if ledger (nat_lt max_size (HEAD_SIZE + 1 + KEPT_LIMIT)) _ _ tt
    (λ none. absurd (some_not_none slot (slot_of command.originator ledger.taken) is none)))))

room_forget : (ledger : LedgerState) (bytes : List ℕ) → HasRoom ledger (forget ledger bytes)
room_forget ledger bytes =
    elim (size_fault 12 bytes) as (λ fault. HasRoom ledger (unless fault refuses
    (forget_in (number_at 0 8 bytes) (number_at 8 4 bytes) (slot_of (number_at 0 8 bytes) ledger.taken)))) [
      | None ↦ by_slot (number_at 0 8 bytes) (number_at 8 4 bytes) (slot_of (number_at 0 8 bytes) ledger.taken)
      | Some status ↦ tt
    ]
  where
    by_slot : (originator number : ℕ) (found : Option SlotState) → HasRoom ledger (forget_in originator number found)
    by_slot originator number None = tt
    by_slot originator number (Some slot) =
        room_if ledger ((slot.number == number) && not (is_pending slot)) _ _ tt tt

room_action : (ledger : LedgerState) (max_size : ℕ) (asked : LedgerRequest)
    → HasRoom ledger (action_of ledger max_size asked)
room_action ledger max_size asked =
    let command = command_of asked.data in
    room_if ledger (asked.instance == 0) _ _ tt
    (room_if ledger (asked.instance == 1) _ _
    (room_if ledger (asked.service == services.DO_ONCE) _ _
    (room_if ledger (nat_lt (length asked.data) 22) _ _ tt
    (room_if ledger (not (command.life == ledger.life)) _ _ tt
    (room_by_slot ledger max_size command (slot_of command.originator ledger.taken) refl)))
    (room_if ledger (asked.service == services.GET_LAST) _ _ tt
    (room_if ledger (asked.service == services.FORGET) _ _ (room_forget ledger asked.data)
    (room_if ledger (asked.service == 0x0e) _ _ tt
    (room_if ledger (asked.service == 0x03) _ _ tt
    (room_if ledger (asked.service == services.GET_SLOTS) _ _ tt
    (room_if ledger (asked.service == services.WITHDRAW) _ _ tt tt)))))))
    tt)

-- The router decides what becomes of a command, and not whether there is room for it.
room_standing : (ledger : LedgerState) (s : Standing) (command : Command) → HasRoom ledger (Executes command)
    → HasRoom ledger (by_standing s command)
room_standing ledger standings.Final command room = room
room_standing ledger (standings.Pending ticket) command room = room
room_standing ledger standings.Refused command room = tt

room_router : (ledger : LedgerState) (w : OwnedState) (action : Action) → HasRoom ledger action
    → HasRoom ledger (at_router owned_standing w action)
room_router ledger w (Replies answer) room = tt
room_router ledger w (Executes command) room =
    room_standing ledger (if is_barred command.request then standings.Final else owned_standing w command.request) command
    room
room_router ledger w (Queues command ticket) room =
    room_standing ledger (if is_barred command.request then standings.Final else owned_standing w command.request) command
    room
room_router ledger w (Frees originator) room = tt

abbrev HasRoomFor : LedgerState → Fate → Type 0
HasRoomFor ledger Passed = ⊤
HasRoomFor ledger (Served service action) = HasRoom ledger action

room_fate : (ledger : LedgerState) (w : OwnedState) (max_size : ℕ) (asked : Option LedgerRequest)
    → HasRoomFor ledger (fate_of owned_standing ledger w max_size asked)
room_fate ledger w max_size None = tt
room_fate ledger w max_size (Some asked) =
    room_router ledger w (action_of ledger max_size asked) (room_action ledger max_size asked)

-- ---- how many slots are taken

length_with : (taken : List SlotState) (slot : SlotState) (slots : ℕ) → length taken ≤ slots
    → (slot_of slot.originator taken ≡ None → length taken < slots) → length (with_slot slot taken) ≤ slots
length_with [] slot slots h room = let free = room refl in omega (arith, free)
length_with (first ∷ taken) slot zero h room = absurd (omega (arith, h))
length_with (first ∷ taken) slot (suc n) h room =
    by (first.originator == slot.originator)
    (λ free. length_with taken slot n (omega (arith, h)) (λ none. let more = free none in omega (arith, more))) room
  where
    by : (own : Bool) → ((slot_of slot.originator taken ≡ None → suc (length taken) < suc n)
        → length (with_slot slot taken) ≤ n)
        → ((if own then Some first else slot_of slot.originator taken) ≡ None → suc (length taken) < suc n)
        → length (if own then slot ∷ taken else first ∷ with_slot slot taken) ≤ suc n
    by true later free = h
    by false later free = let rest = later free in omega (arith, rest)

length_without : (taken : List SlotState) (freed : ℕ) → length (without_slot freed taken) ≤ length taken
length_without [] freed = omega arith
length_without (first ∷ taken) freed = by (not (first.originator == freed)) (length_without taken freed)
  where
    by : (keep : Bool) → length (without_slot freed taken) ≤ length taken
        → length (if keep then first ∷ without_slot freed taken else without_slot freed taken) ≤ suc (length taken)
    by true h = omega (arith, h)
    by false h = omega (arith, h)

-- ---- what changes a ledger

last_stays : (ledger : LedgerState) (slot : SlotState) → IsLedger ledger → IsSlot slot
    → (slot_of slot.originator ledger.taken ≡ None → length ledger.taken < ledger.slots)
    → IsLedger (record ledger { taken = with_slot slot ledger.taken })
last_stays ledger slot is fits room = record {
  life = is.life;
  few = is.few;
  within = length_with ledger.taken slot ledger.slots is.within room;
  apart = apart-with_slot ledger.taken slot is.apart;
  sized = slots-with_slot ledger.taken slot fits is.sized;
}

freed_stays : (ledger : LedgerState) (freed : ℕ) → IsLedger ledger → IsLedger (with_freed freed ledger)
freed_stays ledger freed is = record {
  life = is.life;
  few = is.few;
  within = (let shorter = length_without ledger.taken freed in let all = is.within in omega (arith, shorter, all));
  apart = apart-without_slot ledger.taken freed is.apart;
  sized = slots-without_slot ledger.taken freed is.sized;
}

found_fits : (taken : List SlotState) (originator : ℕ) (slot : SlotState) → AreSlots taken
    → slot_of originator taken ≡ Some slot → IsSlot slot
found_fits [] originator slot fits e = absurd (cc)
found_fits (first ∷ taken) originator slot fits e =
    by (first.originator == originator) (found_fits taken originator slot fits.1) e
  where
    by : (own : Bool) → (slot_of originator taken ≡ Some slot → IsSlot slot)
        → (if own then Some first else slot_of originator taken) ≡ Some slot → IsSlot slot
    by true later is = subst IsSlot (same_some first slot is) fits.0
    by false later is = later is

doubtful : (number : ℕ) (found : Option SlotState) → is_in_doubt_at number found ≡ true
    → (slot : SlotState) × (found ≡ Some slot) × (slot.number ≡ number)
doubtful number None is = absurd (cc)
doubtful number (Some slot) is =
    (slot, refl, eqb-true slot.number number (and_parts (slot.number == number) (is_doubtful slot) is).0)

short_reply : (reply : List ℕ) → is_kept_reply reply ≡ true → length reply ≤ 480
short_reply reply e = grind (arith, nat_tests)

settled_stays : (ledger : LedgerState) (originator number : ℕ) (reply : List ℕ) → IsLedger ledger
    → IsLedger (settled ledger originator number reply)
settled_stays ledger originator number reply is = by (can_settle ledger originator number reply) refl
  where
    by : (can : Bool) → can_settle ledger originator number reply ≡ can
        → IsLedger (if can then with_last originator number (Some reply) ledger else ledger)
    by false e = is
    by true e =
        let both = and_parts (is_kept_reply reply) (is_in_doubt ledger originator number) e in
        let own = doubtful number (slot_of originator ledger.taken) both.1 in
        let fits = found_fits ledger.taken originator own.0 is.sized own.1 in
        last_stays ledger (record { originator = originator; number = number; reply = Some reply; ticket = None }) is
        (record {
          originator = subst (λ o. o < 2 ^ 64) (slot_of-originator ledger.taken originator own.0 own.1) fits.originator;
          number = subst (λ n. n < 2 ^ 32) own.2 fits.number;
          short = short_reply reply both.0;
          ticket = omega arith;
          one = refl;
        })
        (λ none. absurd (some_not_none own.0 (slot_of originator ledger.taken) own.1 none))

completed_stays : (ledger : LedgerState) (ticket : ℕ) (reply : List ℕ) → IsLedger ledger
    → IsLedger (completed ledger ticket reply)
completed_stays ledger ticket reply is = by (is_kept_reply reply) refl
  where
    by : (kept : Bool) → is_kept_reply reply ≡ kept
        → IsLedger (if kept then with_completed ticket reply ledger else ledger)
    by false e = is
    by true e =
        let size = length-map ledger.taken (completed_slot ticket reply) in
        let within = is.within in
        record {
          life = is.life;
          few = is.few;
          within = omega (arith, size, within);
          apart = apart-completed ticket reply ledger.taken is.apart;
          sized = slots-completed ticket reply ledger.taken (short_reply reply e) is.sized;
        }

-- ---- a step of the device

embedded_short : (router : OwnedState) (request : List ℕ)
    → length (embedded_reply objects_after objects_answer router request) ≤ 480
embedded_short router request = by (is_barred request) _ (omega arith)
  where
    by : (barred : Bool) (refused : List ℕ) → length refused ≤ 480
        → length (if barred then refused else objects_answer router 480 request) ≤ 480
    by true refused short = short
    by false refused short = exec_owned_within router 480 request (omega arith)

mapped_stays : (ledger : Option LedgerState) (change : LedgerState → LedgerState)
    → ((l : LedgerState) → ledger ≡ Some l → IsLedger l → IsLedger (change l)) → IfSome ledger IsLedger
    → IfSome (option_map change ledger) IsLedger
mapped_stays None change stays is = tt
mapped_stays (Some ledger) change stays is = stays ledger refl is

turn_stays : (f : Fate) (device : Device) (request : Request) → AreBytes request.1 → Means device.ledger request f
    → StandsQueued device.router f → ((l : LedgerState) → device.ledger ≡ Some l → HasRoomFor l f)
    → IfSome device.ledger IsLedger
    → IfSome (turn_by objects_after objects_answer f device.ledger device.router request.0 request.1).ledger IsLedger
turn_stays Passed device request fits means stands room is = is
turn_stays (Served service (Replies reply)) device request fits means stands room is = is
turn_stays (Served service (Executes command)) device request fits means stands room is =
    let narrow = command_fits request command fits means.means.given_is in
    let reply = embedded_reply objects_after objects_answer device.router command.request in
    mapped_stays device.ledger (with_executed command reply)
    (λ l own holds. last_stays l
    (record { originator = command.originator; number = command.number; reply = Some reply; ticket = None })
    holds (record {
      originator = narrow.originator;
      number = narrow.number;
      short = embedded_short device.router command.request;
      ticket = omega arith;
      one = refl;
    }) (room l own)) is
turn_stays (Served service (Queues command ticket)) device request fits means stands room is =
    let narrow = command_fits request command fits means.means.given_is in
    mapped_stays device.ledger (with_queued command ticket)
    (λ l own holds. last_stays l
    (record { originator = command.originator; number = command.number; reply = None; ticket = Some ticket })
    holds (record {
      originator = narrow.originator;
      number = narrow.number;
      short = omega arith;
      ticket = pending_narrow device.router command.request ticket stands.1;
      one = refl;
    }) (room l own)) is
turn_stays (Served service (Frees freed)) device request fits means stands room is =
    mapped_stays device.ledger (with_freed freed) (λ l own holds. freed_stays l freed holds) is

fate_room : (ledger : Option LedgerState) (w : OwnedState) (request : Request) (l : LedgerState) → ledger ≡ Some l
    → HasRoomFor l (fate owned_standing ledger w request.0 request.1)
fate_room ledger w request l own =
    subst (λ o. HasRoomFor l (fate owned_standing o w request.0 request.1)) (sym own)
    (room_fate l w request.0 (ledger_request request.1))

finished_stays : (ticket : ℕ) (old new : Option LedgerState) → IsFinished ticket old new → IfSome old IsLedger
    → IfSome new IsLedger
finished_stays ticket old new Unchanged is = is
finished_stays ticket old new (Completed reply) is =
    mapped_stays old (λ l. completed l ticket reply) (λ l own holds. completed_stays l ticket reply holds) is

-- ---- a number that is withdrawn

abbrev AreNarrow : Withdrawal → Type 0
AreNarrow w = (w.originator < 2 ^ 64) × (w.number < 2 ^ 32)

narrow_named : (originator number : ℕ) (w : Withdrawal) → originator < 2 ^ 64 → number < 2 ^ 32
    → IsNamed originator number w → AreNarrow w
narrow_named originator number w wide narrow same =
    (subst (λ n. n < 2 ^ 64) (sym same.0) wide, subst (λ n. n < 2 ^ 32) (sym same.1) narrow)

narrow_if : (b : Bool) (o : Option Withdrawal) (w : Withdrawal) → (o ≡ Some w → AreNarrow w)
    → (if b then o else None) ≡ Some w → AreNarrow w
narrow_if true o w more e = more e
narrow_if false o w more e = absurd (none-some w e)

narrow_asked : (ledger : LedgerState) (asked : LedgerRequest) (w : Withdrawal) → AreBytes asked.data
    → withdrawal_by ledger asked ≡ Some w → AreNarrow w
narrow_asked ledger asked w fits e =
    narrow_if (asked.instance == 1) _ w (by (asked.service == services.WITHDRAW) (asked.service == services.FORGET)) e
  where
    by : (withdraws forgets : Bool)
        → (if withdraws then by_withdraw ledger asked.data
        else (if forgets then by_forget ledger asked.data else None)) ≡ Some w → AreNarrow w
    by true forgets f =
        let o = number_at 8 8 asked.data in
        let n = number_at 16 4 asked.data in
        narrow_if ((length asked.data == 20) && (number_at 0 8 asked.data == ledger.life)) _ w
        (λ g. narrow_named o n w (number8 8 asked.data fits) (number4 16 asked.data fits)
        (slot-named ledger o n (slot_of o ledger.taken) w g)) f
    by false true f =
        let o = number_at 0 8 asked.data in
        let n = number_at 8 4 asked.data in
        narrow_if (length asked.data == 12) _ w
        (λ g. narrow_named o n w (number8 0 asked.data fits) (number4 8 asked.data fits)
        (forget-named o n (slot_of o ledger.taken) w g)) f
    by false false f = absurd (none-some w f)

-- what a request withdraws that consists of bytes
narrow_withdrawal : (ledger : LedgerState) (text : List ℕ) (w : Withdrawal) → AreBytes text
    → withdrawal_of (Some ledger) text ≡ Some w → AreNarrow w
narrow_withdrawal ledger text w fits = by (ledger_request text) refl
  where
    by : (asked : Option LedgerRequest) → ledger_request text ≡ asked
        → option_and_then (withdrawal_by ledger) asked ≡ Some w → AreNarrow w
    by None is e = absurd (none-some w e)
    by (Some asked) is e = narrow_asked ledger asked w (asked_data text asked fits is) e

with_withdrawn_stays : (ledger : LedgerState) (originator number : ℕ) → originator < 2 ^ 64 → number < 2 ^ 32
    → IsLedger ledger → IsLedger (with_withdrawn originator number ledger)
with_withdrawn_stays ledger originator number wide narrow is = by (has_place ledger originator) refl
  where
    by : (place : Bool) → has_place ledger originator ≡ place
        → IsLedger (if place then with_taken (slot_withdrawn originator number) ledger else ledger)
    by false e = is
    by true e =
        last_stays ledger (slot_withdrawn originator number) is (record {
          originator = wide;
          number = narrow;
          short = omega arith;
          ticket = omega arith;
          one = refl;
        })
        (λ none. ltb-true (length ledger.taken) ledger.slots
        (sym (ap (λ o. is_some o || nat_lt (length ledger.taken) ledger.slots) none) ∙ e))

-- the ledger once a command has left the queue
left_stays : (ticket : Option ℕ) (device left : Device) → left_device ticket device ≡ Some left
    → IfSome device.ledger IsLedger → IfSome left.ledger IsLedger
left_stays None device left e is = subst (λ (d : Device). IfSome d.ledger IsLedger) (same-some device left e) is
left_stays (Some ticket) device left e is = by (was_handed ticket device.router.queue) e
  where
    by : (handed : Bool) → (if handed then None else finished_in ticket withdrawal_result device) ≡ Some left
        → IfSome left.ledger IsLedger
    by true f = absurd (none-some left f)
    by false f =
        subst (λ (d : Device). IfSome d.ledger IsLedger) (ap (λ o. unwrap_or o device) f)
        (finished_stays ticket device.ledger (unwrap_or (finished_in ticket withdrawal_result device) device).ledger
        (finished-ledger ticket withdrawal_result device) is)

found_stays : (text : List ℕ) (device : Device) → AreBytes text → IfSome device.ledger IsLedger
    → IfSome (found_by text device).ledger IsLedger
found_stays text device fits is = by device.ledger
  where
    of_left : (w : Withdrawal) (left : Option Device) → left_device w.ticket device ≡ left → AreNarrow w
        → IfSome (unwrap_or (option_map (with_withdrawal w) left) device).ledger IsLedger
    of_left w None e narrow = is
    of_left w (Some left) e narrow =
        mapped_stays left.ledger (with_withdrawn w.originator w.number)
        (λ l own holds. with_withdrawn_stays l w.originator w.number narrow.0 narrow.1 holds)
        (left_stays w.ticket device left e is)

    of_found : (ledger : LedgerState) (found : Option Withdrawal) → withdrawal_of (Some ledger) text ≡ found
        → IfSome (unwrap_or (option_and_then (withdrawn_from device) found) device).ledger IsLedger
    of_found ledger None e = is
    of_found ledger (Some w) e = of_left w (left_device w.ticket device) refl (narrow_withdrawal ledger text w fits e)

    by : (ledger : Option LedgerState)
        → IfSome (unwrap_or (option_and_then (withdrawn_from device) (withdrawal_of ledger text)) device).ledger IsLedger
    by None = is
    by (Some ledger) = of_found ledger (withdrawal_of (Some ledger) text) refl

-- ---- the device's own writes

written_stays : (write : OwnWrite) (device : Device) → IsWriteOfBytes write → IfSome device.ledger IsLedger
    → IfSome (ledger_written write device) IsLedger
written_stays (WritesData instance offset bytes) device fits is = is
written_stays (WritesAttribute class instance attribute offset bytes) device fits is = is
written_stays (SetsStatus status) device fits is = is
written_stays (SetsState state) device fits is = is
written_stays (Prepares reply) device fits is = is
written_stays (Settles originator number reply) device fits is =
    mapped_stays device.ledger (λ l. settled l originator number reply)
    (λ l own holds. settled_stays l originator number reply holds) is
written_stays (Finishes ticket reply) device fits is =
    finished_stays ticket device.ledger (ledger_written (Finishes ticket reply) device)
    (finished-ledger ticket reply device) is
written_stays (Marks ticket) device fits is = is
written_stays (Withdraws request) device fits is = found_stays request device fits is

pub step_stays : (device : Device) (step : DeviceStep) → IsOfBytes step → IfSome device.ledger IsLedger
    → IfSome (device_after_step device step).ledger IsLedger
step_stays device (Requested request) fits is =
    turn_stays (fate owned_standing device.ledger device.router request.0 request.1) device request fits
    (fate-means owned_standing device.ledger device.router request)
    (stands_queued device.router device.ledger request) (fate_room device.ledger device.router request) is
step_stays device (WrittenBy write) fits is = written_stays write device fits is
