-- Turns of services that no router takes part in.
use Rattle.std.proofs.Common.{◌≡◌, ℕ, Option, Some, None, List, [], ◌∷◌, ap, sym, ◌∙◌, subst}
use Rattle.cip_message.specs.declared.ledger_services.TheConstants as services
use Rattle.cip_ledger.specs.declared.service.TheConstants as common
use Rattle.cip_ledger.specs.declared.target.Standing.{Standing}
use Rattle.cip_ledger.specs.Ledger.{LedgerState, SlotState, with_slot}
use Rattle.cip_ledger.specs.Requests.{LedgerRequest}
use Rattle.cip_message.specs.LedgerCommand.{Command}
use Rattle.cip_ledger.specs.Standings.{at_router}
use Rattle.cip_ledger.specs.Services.{Action, Replies, Executes, Queues, Frees, forget, get_attribute_list, ledger_values, instance_action, reply_to, success, DONE, PENDING}
use Rattle.cip_ledger.specs.Turn.{turn_of, acted, ActsAlone, with_freed, with_executed, with_queued, embedded_reply, after_embedded}

module _ {M : Type 0} (after : M → ℕ → List ℕ → M) (answer : M → ℕ → List ℕ → List ℕ) (standing : M → List ℕ → Standing)
    (old : LedgerState) (router : M) where
  acts-acted : (action : Action) (service : ℕ) (new : LedgerState) (text : List ℕ) → ActsAlone old action service new text →
      turn_of (Some new) router text ≡ acted after answer (at_router standing router action) service (Some old) router
  acts-acted (Replies reply) service new text acts =
      ap (λ l. turn_of (Some l) router text) acts.0 ∙ ap (λ t. turn_of (Some old) router t) acts.1
  acts-acted (Executes command) service new text acts = absurd acts
  acts-acted (Queues command ticket) service new text acts = absurd acts
  acts-acted (Frees originator) service new text acts =
      ap (λ l. turn_of (Some l) router text) acts.0 ∙ ap (λ t. turn_of (Some (with_freed originator old)) router t) acts.1

  module _ (service instance : ℕ) (attribute : Option ℕ) (bytes : List ℕ) (max_size : ℕ) where
    abbrev asked : ℕ → LedgerRequest
    asked s = record { service = s; instance = instance; attribute = attribute; «data» = bytes }

    -- Forget
    pub forget_turn : service ≡ services.FORGET → (new : LedgerState) (text : List ℕ) → ActsAlone old (forget old bytes) services.FORGET new text →
        turn_of (Some new) router text
        ≡ acted after answer
        (at_router standing router (instance_action old max_size (record { service = service; instance = instance; attribute = attribute; «data» = bytes })))
        service (Some old) router
    forget_turn is new text acts =
        subst (λ s. turn_of (Some new) router text ≡ acted after answer (at_router standing router (instance_action old max_size (asked s))) s (Some old) router) (sym is)
        (acts-acted (forget old bytes) services.FORGET new text acts)

    -- Get_Attribute_List
    pub list_turn : service ≡ common.GET_ATTRIBUTE_LIST → (text : List ℕ) →
        text ≡ reply_to common.GET_ATTRIBUTE_LIST (get_attribute_list (ledger_values old) max_size bytes) →
        turn_of (Some old) router text
        ≡ acted after answer
        (at_router standing router (instance_action old max_size (record { service = service; instance = instance; attribute = attribute; «data» = bytes })))
        service (Some old) router
    list_turn is text written =
        subst (λ s. turn_of (Some old) router text ≡ acted after answer (at_router standing router (instance_action old max_size (asked s))) s (Some old) router) (sym is)
        (ap (λ t. turn_of (Some old) router t) written)

  -- a command that is executed
  pub executed_turn : (command : Command) (router_left : M) (life slots slots_left : ℕ) (taken taken_left : List SlotState) (inner given kept text : List ℕ) →
      (let l : LedgerState = record { slots = slots; life = life; taken = taken } in l) ≡ old → slots_left ≡ slots →
      taken_left ≡ with_slot (record { originator = command.originator; number = command.number; reply = Some given; ticket = None }) taken →
      given ≡ inner → inner ≡ embedded_reply after answer router command.request → router_left ≡ after_embedded after answer router command.request →
      kept ≡ given → text ≡ reply_to services.DO_ONCE (success (DONE ∷ kept)) →
      turn_of (Some (let l : LedgerState = record { slots = slots_left; life = life; taken = taken_left } in l)) router_left text
      ≡ acted after answer (Executes command) services.DO_ONCE (Some old) router
  executed_turn command router_left life slots slots_left taken taken_left inner given kept text old_is slots_is taken_is given_is inner_is router_is kept_is text_is =
      let reply = embedded_reply after answer router command.request in
      let all = given_is ∙ inner_is in
      ap (λ n. turn_of (Some (let l : LedgerState = record { slots = n; life = life; taken = taken_left } in l)) router_left text) slots_is
      ∙ ap (λ t. turn_of (Some (let l : LedgerState = record { slots = slots; life = life; taken = t } in l)) router_left text) taken_is
      ∙ ap (λ r. turn_of (Some (with_executed command r (record { slots = slots; life = life; taken = taken }))) router_left text) all
      ∙ ap (λ l. turn_of (Some (with_executed command reply l)) router_left text) old_is
      ∙ ap (λ m. turn_of (Some (with_executed command reply old)) m text) router_is
      ∙ ap (λ t. turn_of (Some (with_executed command reply old)) (after_embedded after answer router command.request) t)
      (text_is ∙ ap (λ k. reply_to services.DO_ONCE (success (DONE ∷ k))) (kept_is ∙ all))

  -- a command that the router queues
  pub queued_turn : (command : Command) (ticket : ℕ) (router_left : M) (life slots slots_left : ℕ) (taken taken_left : List SlotState) (text : List ℕ) →
      (let l : LedgerState = record { slots = slots; life = life; taken = taken } in l) ≡ old → slots_left ≡ slots →
      taken_left ≡ with_slot (record { originator = command.originator; number = command.number; reply = None; ticket = Some ticket }) taken →
      router_left ≡ after_embedded after answer router command.request →
      text ≡ reply_to services.DO_ONCE (success (PENDING ∷ [])) →
      turn_of (Some (let l : LedgerState = record { slots = slots_left; life = life; taken = taken_left } in l)) router_left text
      ≡ acted after answer (Queues command ticket) services.DO_ONCE (Some old) router
  queued_turn command ticket router_left life slots slots_left taken taken_left text old_is slots_is taken_is router_is text_is =
      ap (λ n. turn_of (Some (let l : LedgerState = record { slots = n; life = life; taken = taken_left } in l)) router_left text) slots_is
      ∙ ap (λ t. turn_of (Some (let l : LedgerState = record { slots = slots; life = life; taken = t } in l)) router_left text) taken_is
      ∙ ap (λ l. turn_of (Some (with_queued command ticket l)) router_left text) old_is
      ∙ ap (λ m. turn_of (Some (with_queued command ticket old)) m text) router_is
      ∙ ap (λ t. turn_of (Some (with_queued command ticket old)) (after_embedded after answer router command.request) t) text_is
