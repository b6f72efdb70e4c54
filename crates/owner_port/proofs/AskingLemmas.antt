-- Requests that begin to wait, and what is asked.
use Rattle.std.proofs.Common.{◌≡◌, ◌⊎◌, ℕ, ◌-◌, ◌^◌, ◌==◌, ◌&&◌, not, Bool, true, false, List, [], ◌∷◌, map, Option, Some, None}
use Rattle.std.proofs.Common.{refl, sym, ap, subst, ◌∙◌, inl, inr}
use Rattle.std.specs.List.{list_any}
use Rattle.std.specs.declared.net.ip_addr.IpAddr.{IpAddr}
use Rattle.std.proofs.lemmas.Bool.{false≢true, ne_eqb}
use Rattle.cip_ledger.specs.Device.{Device}
use Rattle.cip_objects.specs.OwnRequests.{Asked}
use Rattle.enip_adapter.specs.Calls.{AdapterState}
use Rattle.enip_server.specs.declared.peer_io.PeerIo.{PeerIo}
use Rattle.enip_server.specs.Admissions.{AreSlotsShown, IsDecided, IsPieceShown, IsSlotShown, frame_of_peer}
use Rattle.enip_server.specs.Rounds.{ServerState}
use Rattle.owner_port.specs.declared.asked_request.AskedRequest.{AskedRequest}
use Rattle.owner_port.specs.declared.port.OwnerPort.{OwnerPort}
use Rattle.owner_port.specs.declared.questions.Questions.{Questions}
use Rattle.owner_port.specs.Asking.{IsNewQuestion, IsEntered, IsEnteredBy, IsPass, IsRequestShown, IsShownTo, IsUnanswered}
use Rattle.owner_port.specs.Asking.{IsWaitingBy, can_ask}
use Rattle.owner_port.specs.Ports.{HasSeen}
use Rattle.owner_port.specs.Questions.{IsCopied, IsAdmitted, is_of, shown_by, with_list}
use Rattle.owner_port.specs.Sessions.{has_space}

can_by : (numbered space : Bool) (next : ℕ) → numbered ≡ false → space ≡ true → (next ≡ 2 ^ 32 - 1 → ⊥)
    → (not numbered && (space && not (next == 2 ^ 32 - 1))) ≡ true
can_by true space next plain has left = absurd (false≢true (sym plain))
can_by false false next plain has left = absurd (false≢true has)
can_by false true next plain has left = ap not (ne_eqb next (2 ^ 32 - 1) left)

-- the owner is asked
pub entered_asked : (peer : ℕ) (by : IpAddr) (asked : Asked) (numbered : Bool) (old new : OwnerPort) (copy : AskedRequest)
    → numbered ≡ false → has_space old.session ≡ true → (old.questions.next ≡ 2 ^ 32 - 1 → ⊥) → IsCopied asked copy
    → IsNewQuestion peer by asked copy old new → IsEntered peer by asked numbered old new
entered_asked peer by asked numbered old new copy plain has left copied asks =
    let can : can_ask numbered old ≡ true = can_by numbered (has_space old.session) old.questions.next plain has left in
    subst (λ b. IsEnteredBy b peer by asked old new) (sym can) (inl (copy, copied, asks))

-- a request is shown
pub request_shown : (peer : ℕ) (by : IpAddr) (asked : Asked) (numbered : Bool) (old between : OwnerPort)
    (questions after : Questions) (known admitted : Bool)
    → questions.list.items ≡ map (shown_by peer) old.questions.list.items
    → questions ≡ with_list questions.list old.questions
    → known ≡ list_any (is_of peer) old.questions.list.items
    → IsWaitingBy known peer by asked numbered (record old { questions = questions }) between
    → IsAdmitted peer between.questions admitted after
    → IsRequestShown peer by asked numbered old admitted (record between { questions = after })
request_shown peer by asked numbered old between questions after known admitted list same is waits decided = record {
  questions = questions;
  shown = (list, same);
  between = between;
  waits = subst (λ k. IsWaitingBy k peer by asked numbered (record old { questions = questions }) between) is waits;
  decided = decided;
  same = refl;
}

-- ---- what the port has seen

-- The sets that were reported, and the senders of commands, are the same.
abbrev KeepsSeen : OwnerPort → OwnerPort → Type 0
KeepsSeen old new = (new.counts ≡ old.counts) × (new.senders ≡ old.senders)

keeps_same : (old new : OwnerPort) → new ≡ old → KeepsSeen old new
keeps_same old new is = (ap (λ (p : OwnerPort). p.counts) is, ap (λ (p : OwnerPort). p.senders) is)

keeps_then : (old between new : OwnerPort) → KeepsSeen old between → KeepsSeen between new → KeepsSeen old new
keeps_then old between new first last = (last.0 ∙ first.0, last.1 ∙ first.1)

still_seen : (old new : OwnerPort) → KeepsSeen old new → (device : Device) → HasSeen old device → HasSeen new device
still_seen old new keeps device seen = record {
  counted = rw keeps.0 seen.counted;
  resets = ap (λ counts. counts.resets) keeps.0 ∙ seen.resets;
  next = ap (λ senders. senders.next) keeps.1 ∙ seen.next;
}

entered_keeps : (can : Bool) (peer : ℕ) (by : IpAddr) (asked : Asked) (old new : OwnerPort)
    → IsEnteredBy can peer by asked old new → KeepsSeen old new
entered_keeps true peer by asked old new (inl (copy, copied, asks)) =
    (ap (λ (p : OwnerPort). p.counts) asks.same, ap (λ (p : OwnerPort). p.senders) asks.same)
entered_keeps true peer by asked old new (inr none) =
    (ap (λ (p : OwnerPort). p.counts) none.same, ap (λ (p : OwnerPort). p.senders) none.same)
entered_keeps false peer by asked old new none =
    (ap (λ (p : OwnerPort). p.counts) none.same, ap (λ (p : OwnerPort). p.senders) none.same)

waiting_keeps : (known : Bool) (peer : ℕ) (by : IpAddr) (asked : Asked) (numbered : Bool) (old new : OwnerPort)
    → IsWaitingBy known peer by asked numbered old new → KeepsSeen old new
waiting_keeps true peer by asked numbered old new is = keeps_same old new is
waiting_keeps false peer by asked numbered old new is = entered_keeps (can_ask numbered old) peer by asked old new is

request_keeps : (peer : ℕ) (by : IpAddr) (asked : Asked) (numbered : Bool) (old : OwnerPort) (admitted : Bool)
    (new : OwnerPort) → IsRequestShown peer by asked numbered old admitted new → KeepsSeen old new
request_keeps peer by asked numbered old admitted new is =
    let begun : OwnerPort = record old { questions = is.questions } in
    let waits : KeepsSeen begun is.between
    = waiting_keeps (list_any (is_of peer) old.questions.list.items) peer by asked numbered begun is.between is.waits in
    (ap (λ (p : OwnerPort). p.counts) is.same ∙ waits.0, ap (λ (p : OwnerPort). p.senders) is.same ∙ waits.1)

module _ {W : Type 0} (waiting : W → Option (List ℕ)) (admitted_wire : W → W) (address : W → IpAddr) (now : ℕ) where
  decided_keeps : (gate : OwnerPort) (io : PeerIo W) (numbered : Bool) (asks : List Asked) (admitted : Bool)
      (next : OwnerPort) → IsDecided waiting admitted_wire (IsShownTo address) gate io numbered asks admitted next
      → KeepsSeen gate next
  decided_keeps gate io numbered [] admitted next is = keeps_same gate next is.1
  decided_keeps gate io numbered (asked ∷ more) admitted next is =
      request_keeps io.peer (address io.wire) asked numbered gate admitted next is

  piece_keeps : (gate : OwnerPort) (a : AdapterState) (io : PeerIo W) (piece : Option (List ℕ)) (admitted : Bool)
      (next : OwnerPort) (b : AdapterState)
      → IsPieceShown waiting admitted_wire (IsShownTo address) now gate a io piece admitted next b → KeepsSeen gate next
  piece_keeps gate a io None admitted next b is = keeps_same gate next is.1
  piece_keeps gate a io (Some piece) admitted next b is = decided_keeps gate io _ _ admitted next is.0

  slot_keeps : (gate : OwnerPort) (a : AdapterState) (io : Option (PeerIo W)) (next : OwnerPort) (b : AdapterState)
      (slot : Option (PeerIo W)) → IsSlotShown waiting admitted_wire (IsShownTo address) now gate a io next b slot
      → KeepsSeen gate next
  slot_keeps gate a None next b slot is = keeps_same gate next is.0
  slot_keeps gate a (Some io) next b slot is = piece_keeps gate a io (frame_of_peer waiting io) is.0 next b is.1

  slots_keep : (gate : OwnerPort) (a : AdapterState) (slots : List (Option (PeerIo W))) (next : OwnerPort) (b : AdapterState)
      (places : List (Option (PeerIo W)))
      → AreSlotsShown waiting admitted_wire (IsShownTo address) now gate a slots next b places → KeepsSeen gate next
  slots_keep gate a [] next b [] is = keeps_same gate next is.0
  slots_keep gate a [] next b (slot ∷ places) is = absurd is
  slots_keep gate a (io ∷ slots) next b [] is = absurd is
  slots_keep gate a (io ∷ slots) next b (slot ∷ places) is =
      keeps_then gate is.0 next (slot_keeps gate a io is.0 is.1 slot is.2) (slots_keep is.0 is.1 slots next b places is.3)

  -- a pass loses sight of nothing
  pub pass_seen : (old : OwnerPort) (before : ServerState W) (new : OwnerPort) (after : ServerState W)
      → IsPass waiting admitted_wire address now old before new after → (device : Device) → HasSeen old device
      → HasSeen new device
  pass_seen old before new after is device seen =
      let begun : OwnerPort = record old { questions = is.begun } in
      let shown : KeepsSeen begun is.shown
      = slots_keep begun before.adapter before.slots is.shown after.adapter after.slots is.shows.slots in
      still_seen old new
      (ap (λ (p : OwnerPort). p.counts) is.same ∙ shown.0, ap (λ (p : OwnerPort). p.senders) is.same ∙ shown.1) device seen
