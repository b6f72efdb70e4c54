-- Commands in doubt: their answers, and what settling them does.
use Rattle.std.proofs.Common.{◌≡◌, inl, inr, ℕ, ◌+◌, ◌≤◌, ◌<◌, ◌==◌, ◌&&◌, not, Bool, true, false, if◌then◌else◌, Option, Some, None, unwrap_or, List, [], ◌∷◌, length, refl, ap, sym, ◌∙◌, subst, arith}
use Rattle.std.specs.Prelude.{option_map, is_some}
use Rattle.std.proofs.lemmas.Bool.{eq-eqb, eqb-true, eqb-false, le-ltb, and_parts}
use Rattle.cip_ledger.specs.declared.router.LedgerRouter.{LedgerRouter}
use Rattle.cip_message.specs.declared.ledger_services.TheConstants as services
use Rattle.cip_ledger.specs.declared.target.Standing.{Standing}
use Rattle.cip_ledger.specs.Doubt.{is_doubtful, is_in_doubt_at, is_in_doubt, is_kept_reply, can_settle, with_last, settled}
use Rattle.cip_ledger.specs.DoubtLaws.{IsGiven}
use Rattle.cip_ledger.specs.Laws.{UntilFreed}
use Rattle.cip_ledger.specs.Ledger.{LedgerState, SlotState, slot_of}
use Rattle.cip_ledger.specs.Requests.{LedgerRequest, ledger_request}
use Rattle.cip_message.specs.LedgerCommand.{Command}
use Rattle.cip_ledger.specs.Runs.{Request, slot_in, command_by, command_given, turn_at, journal}
use Rattle.cip_ledger.specs.Standings.{at_router}
use Rattle.cip_ledger.specs.Services.{Replies, success, within, reply_to, state_content, last_content, IN_DOUBT, DONE, HEAD_SIZE, do_command, do_by_slot, action_of}
use Rattle.cip_ledger.specs.Turn.{Served, fate, fate_of, turn_of, turn_by}
use Rattle.cip_ledger.proofs.SlotLemmas.{slot_of-with_slot, slot_of-with_other}
use Rattle.cip_ledger.proofs.Answered.{gives}
use Rattle.cip_ledger.proofs.Executions.{new_request}
use Rattle.cip_ledger.proofs.Settled.{Settled, journal-above}

-- ---- a command that has the number of its originator's slot is answered by what the slot has

repeat_action : (ledger : LedgerState) (max_size : ℕ) (command : Command) (slot : SlotState) → slot.number ≡ command.number →
    do_by_slot ledger max_size command (Some slot) ≡ Replies (within max_size (success (last_content slot)))
repeat_action ledger max_size command slot same =
    rw (le-ltb command.number slot.number (omega (arith, same)), eq-eqb command.number slot.number (sym same)) refl

repeat_command : (ledger : LedgerState) (max_size : ℕ) (command : Command) (slot : SlotState) → command.life ≡ ledger.life →
    slot_of command.originator ledger.taken ≡ Some slot → slot.number ≡ command.number →
    do_command ledger max_size command ≡ Replies (within max_size (success (last_content slot)))
repeat_command ledger max_size command slot life found same =
    rw (eq-eqb command.life ledger.life life)
    (ap (do_by_slot ledger max_size command) found ∙ repeat_action ledger max_size command slot same)

fits_within : (max_size : ℕ) (content : List ℕ) → HEAD_SIZE + length content ≤ max_size →
    within max_size (success content) ≡ success content
fits_within max_size content fits = rw (le-ltb max_size (HEAD_SIZE + length content) fits) refl

repeat_asked : {M : Type 0} (standing : M → List ℕ → Standing) (ledger : LedgerState) (router : M) (max_size : ℕ) (asked : Option LedgerRequest) (command : Command) (slot : SlotState) →
    command_by asked ≡ Some command → command.life ≡ ledger.life →
    slot_of command.originator ledger.taken ≡ Some slot → slot.number ≡ command.number →
    HEAD_SIZE + length (last_content slot) ≤ max_size →
    fate_of standing ledger router max_size asked ≡ Served services.DO_ONCE (Replies (success (last_content slot)))
repeat_asked standing ledger router max_size asked command slot is life found same fits =
    let gift = gives asked command is in
    let action : action_of ledger max_size gift.request ≡ Replies (success (last_content slot))
    = new_request ledger max_size gift.request gift.instance gift.service gift.size
    ∙ ap (do_command ledger max_size) gift.command_is
    ∙ repeat_command ledger max_size command slot life found same
    ∙ ap Replies (fits_within max_size (last_content slot) fits) in
    ap (fate_of standing ledger router max_size) gift.asked_is
    ∙ ap (λ s. Served s (at_router standing router (action_of ledger max_size gift.request))) gift.service
    ∙ ap (λ a. Served services.DO_ONCE (at_router standing router a)) action

-- ---- a command in doubt, and one that is settled

no_reply : {A : Type 0} (kept : Option A) → not (is_some kept) ≡ true → kept ≡ None
no_reply None is = refl
no_reply (Some reply) is = absurd (cc)

doubtful-content : (slot : SlotState) → is_doubtful slot ≡ true → last_content slot ≡ IN_DOUBT ∷ []
doubtful-content slot is =
    let both = and_parts (not (is_some slot.reply)) (not (is_some slot.ticket)) is in
    ap (λ kept. state_content kept slot.ticket) (no_reply slot.reply both.0)
    ∙ ap (state_content None) (no_reply slot.ticket both.1)

doubtful-slot : (number : ℕ) (found : Option SlotState) → is_in_doubt_at number found ≡ true →
    (slot : SlotState) × (found ≡ Some slot) × (slot.number ≡ number) × (last_content slot ≡ IN_DOUBT ∷ [])
doubtful-slot number None is = absurd (cc)
doubtful-slot number (Some slot) is =
    let both = and_parts (slot.number == number) (is_doubtful slot) is in
    (slot, refl, eqb-true slot.number number both.0, doubtful-content slot both.1)

abbrev slot_settled : ℕ → ℕ → List ℕ → SlotState
slot_settled originator number reply =
    record { originator = originator; number = number; reply = Some reply; ticket = None }

settled-last : (ledger : LedgerState) (originator number : ℕ) (reply : List ℕ) → can_settle ledger originator number reply ≡ true →
    settled ledger originator number reply ≡ with_last originator number (Some reply) ledger
settled-last ledger originator number reply can =
    ap (λ is. if is then with_last originator number (Some reply) ledger else ledger) can

pub and_false : (a b : Bool) → b ≡ false → a && b ≡ false
and_false true b is = is
and_false false b is = refl

pub settled-once : (ledger : LedgerState) (originator number : ℕ) (reply other : List ℕ) →
    can_settle ledger originator number reply ≡ true →
    can_settle (settled ledger originator number reply) originator number other ≡ false
settled-once ledger originator number reply other can =
    let done : is_in_doubt (settled ledger originator number reply) originator number ≡ false
    = ap (λ (l : LedgerState). is_in_doubt l originator number) (settled-last ledger originator number reply can)
    ∙ ap (is_in_doubt_at number) (slot_of-with_slot ledger.taken (slot_settled originator number reply))
    ∙ and_false (number == number) false refl in
    and_false (is_kept_reply other) (is_in_doubt (settled ledger originator number reply) originator number) done

abbrev number_at : ℕ → LedgerState → Option ℕ
number_at originator ledger = option_map (λ (slot : SlotState). slot.number) (slot_of originator ledger.taken)

pub settled-numbers : (ledger : LedgerState) (originator number : ℕ) (reply : List ℕ) (any : ℕ) →
    number_at any (settled ledger originator number reply) ≡ number_at any ledger
settled-numbers ledger originator number reply any = go (can_settle ledger originator number reply) refl
  where
    after_settling : (own : Bool) → (originator == any) ≡ own → is_in_doubt ledger originator number ≡ true →
        number_at any (with_last originator number (Some reply) ledger) ≡ number_at any ledger
    after_settling true is doubt =
        let same = eqb-true originator any is in
        let parts = doubtful-slot number (slot_of originator ledger.taken) doubt in
        ap (λ o. number_at o (with_last originator number (Some reply) ledger)) (sym same)
        ∙ ap (option_map (λ (slot : SlotState). slot.number)) (slot_of-with_slot ledger.taken (slot_settled originator number reply))
        ∙ ap (λ n. Some n) (sym parts.2)
        ∙ ap (option_map (λ (slot : SlotState). slot.number)) (sym parts.1)
        ∙ ap (λ o. number_at o ledger) same
    after_settling false is doubt =
        ap (option_map (λ (slot : SlotState). slot.number))
        (slot_of-with_other ledger.taken (slot_settled originator number reply) any (eqb-false originator any is))

    go : (can : Bool) → can_settle ledger originator number reply ≡ can →
        number_at any (if can then with_last originator number (Some reply) ledger else ledger) ≡ number_at any ledger
    go false is = refl
    go true is =
        after_settling (originator == any) refl
        (and_parts (is_kept_reply reply) (is_in_doubt ledger originator number) is).1

-- ---- what was settled stays so if a command is settled

pub by_number : (number : ℕ) (content : List ℕ) (new old : Option SlotState) →
    option_map (λ (slot : SlotState). slot.number) new ≡ option_map (λ (slot : SlotState). slot.number) old →
    Settled number content old → (other : List ℕ) × Settled number other new
by_number number content new None same is = absurd is
by_number number content None (Some old) same is = absurd (cc)
by_number number content (Some new) (Some old) same is =
    let equal : new.number ≡ old.number = ap (λ o. unwrap_or o new.number) same in
    (last_content new, go equal is)
  where
    go : new.number ≡ old.number → Settled number content (Some old) → Settled number (last_content new) (Some new)
    go equal (inl both) = inl (equal ∙ both.0, refl)
    go equal (inr greater) = inr (omega (arith, equal, greater))

pub settled-stays : (ledger : LedgerState) (by given : ℕ) (reply : List ℕ) (originator number : ℕ) (content : List ℕ) →
    Settled number content (slot_of originator ledger.taken) →
    (other : List ℕ) × Settled number other (slot_of originator (settled ledger by given reply).taken)
settled-stays ledger by given reply originator number content is =
    by_number number content (slot_of originator (settled ledger by given reply).taken) (slot_of originator ledger.taken)
    (settled-numbers ledger by given reply originator) is

-- ---- the laws

module _ {M : Type 0} (after : M → ℕ → List ℕ → M) (answer : M → ℕ → List ℕ → List ℕ)
    (standing : M → List ℕ → Standing) where
  pub repeat-at : (l : Option LedgerState) (ledger : LedgerState) (router : M) (request : Request) (command : Command) (slot : SlotState) →
      l ≡ Some ledger → command_given request ≡ Some command → command.life ≡ ledger.life →
      slot_of command.originator ledger.taken ≡ Some slot → slot.number ≡ command.number →
      HEAD_SIZE + length (last_content slot) ≤ request.0 →
      turn_by after answer (fate standing l router request.0 request.1) l router request.0 request.1
      ≡ turn_of l router (reply_to services.DO_ONCE (success (last_content slot)))
  repeat-at l ledger router request command slot is given life found same fits =
      ap (λ o. turn_by after answer (fate standing o router request.0 request.1) l router request.0 request.1) is
      ∙ ap (λ f. turn_by after answer f l router request.0 request.1)
      (repeat_asked standing ledger router request.0 (ledger_request request.1) command slot given life found same fits)

  -- what a slot has is never executed
  pub kept-above : (node : LedgerRouter M) (requests : List Request) (originator : ℕ) (slot : SlotState) →
      slot_in originator node.ledger ≡ Some slot →
      UntilFreed originator (λ command. slot.number < command.number) (journal after answer standing node requests)
  kept-above node requests originator slot found =
      journal-above after answer standing requests node originator slot.number (last_content slot)
      (subst (Settled slot.number (last_content slot)) (sym found) (inl (refl, refl)))

  pub doubt-answered : (node : LedgerRouter M) (ledger : LedgerState) (request : Request) (command : Command) →
      node.ledger ≡ Some ledger → IsGiven ledger request command (HEAD_SIZE + 1) →
      is_in_doubt ledger command.originator command.number ≡ true →
      turn_at after answer standing node request
      ≡ turn_of node.ledger node.router (reply_to services.DO_ONCE (success (IN_DOUBT ∷ [])))
  doubt-answered node ledger request command is given doubt =
      let parts = doubtful-slot command.number (slot_of command.originator ledger.taken) doubt in
      let fits : HEAD_SIZE + length (last_content parts.0) ≤ request.0
      = subst (λ content. HEAD_SIZE + length content ≤ request.0) (sym parts.3) given.fits in
      repeat-at node.ledger ledger node.router request command parts.0 is given.given given.life parts.1 parts.2 fits
      ∙ ap (λ content. turn_of node.ledger node.router (reply_to services.DO_ONCE (success content))) parts.3

  pub settled-answered : (node : LedgerRouter M) (ledger : LedgerState) (request : Request) (command : Command) (reply : List ℕ) →
      node.ledger ≡ Some (settled ledger command.originator command.number reply) →
      IsGiven ledger request command (HEAD_SIZE + 1 + length reply) →
      can_settle ledger command.originator command.number reply ≡ true →
      turn_at after answer standing node request
      ≡ turn_of node.ledger node.router (reply_to services.DO_ONCE (success (DONE ∷ reply)))
  settled-answered node ledger request command reply is given can =
      let slot = slot_settled command.originator command.number reply in
      let fits = given.fits in
      repeat-at node.ledger (with_last command.originator command.number (Some reply) ledger) node.router request command slot
      (is ∙ ap (λ l. Some l) (settled-last ledger command.originator command.number reply can))
      given.given given.life (slot_of-with_slot ledger.taken slot) refl (omega (arith, fits))
