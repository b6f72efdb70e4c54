-- Commands that are answered with success.
use Rattle.std.proofs.Common.{◌≡◌, ◌≢◌, ◌⊎◌, inl, inr, ℕ, ◌<◌, ◌≤◌, ◌==◌, ◌&&◌, nat_lt, Bool, true, false, if◌then◌else◌, Option, Some, None, unwrap_or, List, [], ◌∷◌, length, refl, ap, sym, ◌∙◌, subst, arith}
use Rattle.std.specs.Prelude.{option_map}
use Rattle.std.proofs.lemmas.Bool.{eqb-true, ltb-false}
use Rattle.cip_message.specs.Reply.{reply_service}
use Rattle.cip_message.specs.Router.{general_status}
use Rattle.cip_ledger.specs.Status.{status_number}
use Rattle.cip_ledger.specs.declared.router.LedgerRouter.{LedgerRouter}
use Rattle.cip_message.specs.declared.ledger_services.TheConstants as services
use Rattle.cip_ledger.specs.declared.target.Standing.{Standing}
use Rattle.cip_ledger.specs.Ledger.{LedgerState, SlotState, slot_of}
use Rattle.cip_ledger.specs.Requests.{LedgerRequest, command_of, ledger_request}
use Rattle.cip_message.specs.LedgerCommand.{Command}
use Rattle.cip_ledger.specs.Services.{Action, Replies, Executes, Queues, Frees, success, reply_to, last_content}
use Rattle.cip_ledger.specs.Turn.{Fate, Passed, Served, fate, turn_by, with_taken, slot_done, slot_queued, embedded_reply}
use Rattle.cip_ledger.specs.Runs.{Request, slot_in, command_by, command_given, Event, Executed, Freed}
use Rattle.cip_ledger.specs.Runs.{answer_to, next, node_after, journal}
use Rattle.cip_ledger.specs.Laws.{UntilFreed, Rises, HasNoDoubles, IsNotFreed, IsAnswered, Succeeds}
use Rattle.cip_ledger.proofs.Fates.{IsNewAt, Means, fate-means, IsServed}
use Rattle.cip_ledger.proofs.Settled.{Settled, newer_than, next_by, found-new, settled-run, journal-above}

-- ---- numbers that rise are no doubles

until-apart : (originator number : ℕ) (events : List Event) → UntilFreed originator (λ other. number < other.number) events →
    UntilFreed originator (λ other. number ≢ other.number) events
until-apart originator number [] above = tt
until-apart originator number (Executed command reply ∷ events) above = (
  (λ same (equal : number ≡ command.number). let least = above.0 same in absurd (omega (arith, least, equal))),
  until-apart originator number events above.1,
)
until-apart originator number (Freed freed ∷ events) above = λ other. until-apart originator number events (above other)

pub rises-apart : (events : List Event) → Rises events → HasNoDoubles events
rises-apart [] rises = tt
rises-apart (Executed command reply ∷ events) rises =
    (until-apart command.originator command.number events rises.0, rises-apart events rises.1)
rises-apart (Freed freed ∷ events) rises = rises-apart events rises

-- ---- a request that gives a command

-- it is for the instance, by Do_Once
pub record Gives (asked : Option LedgerRequest) (command : Command) : Type 0 where
  pub request : LedgerRequest
  pub asked_is : asked ≡ Some request
  pub instance : request.instance ≡ 1
  pub service : request.service ≡ services.DO_ONCE
  pub size : 22 ≤ length request.data
  pub command_is : command_of request.data ≡ command

pub gives : (asked : Option LedgerRequest) (command : Command) → command_by asked ≡ Some command → Gives asked command
gives None command is = absurd (cc)
gives (Some request) command is = go (request.instance == 1) (request.service == services.DO_ONCE) (nat_lt (length request.data) 22) refl refl refl is
  where
    go : (one once few : Bool) → (request.instance == 1) ≡ one → (request.service == services.DO_ONCE) ≡ once →
        nat_lt (length request.data) 22 ≡ few →
        (if one && once then (if few then None else Some (command_of request.data)) else None) ≡ Some command →
        Gives (Some request) command
    go false once few h i j e = absurd (cc)
    go true false few h i j e = absurd (cc)
    go true true true h i j e = absurd (cc)
    go true true false h i j e = record {
      request = request;
      asked_is = refl;
      instance = eqb-true request.instance 1 h;
      service = eqb-true request.service services.DO_ONCE i;
      size = ltb-false (length request.data) 22 j;
      command_is = ap (λ o. unwrap_or o (command_of request.data)) e;
    }

pub gives-unique : (asked : Option LedgerRequest) (a b : Command) → command_by asked ≡ Some a → command_by asked ≡ Some b → a ≡ b
gives-unique asked a b is_a is_b = ap (λ o. unwrap_or o a) (sym is_a ∙ is_b)

no_gift : (o : Option LedgerRequest) (command : Command) → o ≡ None → command_by o ≡ Some command → ⊥
no_gift o command none is = absurd (nothing (ap command_by none))
  where
    nothing : command_by o ≡ None → ⊥
    nothing e = let f = sym e ∙ is in absurd (cc)

-- a reply by its parts
pub spelled : (service other status : ℕ) (content given : List ℕ) → service ≡ other → status ≡ 0 → content ≡ given →
    ◌≡◌ {A = List ℕ} (reply_service service ∷ 0 ∷ status ∷ 0 ∷ content) (reply_service other ∷ 0 ∷ 0 ∷ 0 ∷ given)
spelled service other status content given a b c =
    ap (λ x. reply_service x ∷ 0 ∷ status ∷ 0 ∷ content) a
    ∙ ap (λ x. reply_service other ∷ 0 ∷ x ∷ 0 ∷ content) b
    ∙ ap (λ x. reply_service other ∷ 0 ∷ 0 ∷ 0 ∷ x) c

-- a slot that is settled and has this number has this answer
pub settled-content : (slot : SlotState) (number : ℕ) (content : List ℕ) → slot.number ≡ number → Settled number content (Some slot) →
    last_content slot ≡ content
settled-content slot number content is (inl same) = same.1
settled-content slot number content is (inr greater) = absurd (omega (arith, is, greater))

-- the service of a request that gives a command
pub once_service : (ledger : Option LedgerState) (request : Request) (service : ℕ) (action : Action) (command : Command) →
    IsServed ledger request service action → command_given request ≡ Some command → service ≡ services.DO_ONCE
once_service ledger request service action command means given =
    let gift = gives (ledger_request request.1) command given in
    let same : means.asked ≡ gift.request = ap (λ o. unwrap_or o means.asked) (sym means.asked_is ∙ gift.asked_is) in
    sym means.service_is ∙ ap (λ (r : LedgerRequest). r.service) same ∙ gift.service

-- without a ledger, or elsewhere, no command is given to one
pub passed_none : (ledger : Option LedgerState) (request : Request) (command : Command) → Means ledger request Passed →
    ledger ≢ None → command_given request ≡ Some command → ⊥
passed_none ledger request command (inl none) some given = some none
passed_none ledger request command (inr none) some given = no_gift (ledger_request request.1) command none given

pub none_some : (o : Option Command) (command : Command) → o ≡ None → o ≡ Some command → ⊥
none_some o command none some = absurd (cc)

module _ {M : Type 0} (after : M → ℕ → List ℕ → M) (answer : M → ℕ → List ℕ → List ℕ) where
  -- a success answer is what the originator's slot says afterwards
  pub record Settles (f : Fate) (node : LedgerRouter M) (request : Request) (originator number : ℕ) : Type 0 where
    pub slot : SlotState
    pub found : slot_in originator (next_by after answer f node request).ledger ≡ Some slot
    pub number_is : slot.number ≡ number
    pub content : List ℕ
    pub content_is : last_content slot ≡ content
    pub answered : (turn_by after answer f node.ledger node.router request.0 request.1).answer ≡ reply_to services.DO_ONCE (success content)
    pub settled : Settled number content (slot_in originator (next_by after answer f node request).ledger)

  module _ (node : LedgerRouter M) (request : Request) (originator number : ℕ) (some : node.ledger ≢ None) (command : Command)
      (given : command_given request ≡ Some command) (originator_is : command.originator ≡ originator) (number_is : command.number ≡ number) where
    settles-with : (f : Fate) (slot : SlotState) → slot_in originator (next_by after answer f node request).ledger ≡ Some slot →
        slot.number ≡ number →
        (turn_by after answer f node.ledger node.router request.0 request.1).answer ≡ reply_to services.DO_ONCE (success (last_content slot)) →
        Settles f node request originator number
    settles-with f slot found own answered = record {
      slot = slot;
      found = found;
      number_is = own;
      content = last_content slot;
      content_is = refl;
      answered = answered;
      settled = subst (Settled number (last_content slot)) (sym found) (inl (own, refl));
    }

    -- the slot of the command, which is new
    found-by : (state : LedgerState) (executed : Command) (slot : SlotState) → node.ledger ≡ Some state → executed ≡ command →
        slot.originator ≡ executed.originator →
        slot_in originator (option_map (with_taken slot) node.ledger) ≡ Some slot
    found-by state executed slot is same own =
        subst (λ o. slot_in o (option_map (with_taken slot) node.ledger) ≡ Some slot)
        (own ∙ ap (λ (c : Command). c.originator) same ∙ originator_is) (found-new node.ledger state slot is)

    pub settles-by : (f : Fate) → Means node.ledger request f →
        general_status (turn_by after answer f node.ledger node.router request.0 request.1).answer ≡ 0 →
        Settles f node request originator number
    settles-by Passed means status = absurd (passed_none node.ledger request command means some given)
    settles-by (Served service (Replies reply)) means status =
        let kept = means.means.kept command given status in
        settles-with (Served service (Replies reply)) kept.slot
        (subst (λ l. slot_in originator l ≡ Some kept.slot) (sym means.ledger_is)
        (subst (λ o. slot_of o means.state.taken ≡ Some kept.slot) originator_is kept.found))
        (kept.number_is ∙ number_is)
        (spelled service services.DO_ONCE (status_number reply.status) reply.content (last_content kept.slot)
        (once_service node.ledger request service (Replies reply) command means given) status kept.content_is)
    settles-by (Served service (Executes executed)) means status =
        let slot = slot_done executed (embedded_reply after answer node.router executed.request) in
        let same : executed ≡ command = gives-unique (ledger_request request.1) executed command means.means.given_is given in
        settles-with (Served service (Executes executed)) slot (found-by means.state executed slot means.ledger_is same refl)
        (ap (λ (c : Command). c.number) same ∙ number_is)
        (ap (λ x. reply_to x (success (last_content slot)))
        (once_service node.ledger request service (Executes executed) command means given))
    settles-by (Served service (Queues executed ticket)) means status =
        let slot = slot_queued executed ticket in
        let same : executed ≡ command = gives-unique (ledger_request request.1) executed command means.means.given_is given in
        settles-with (Served service (Queues executed ticket)) slot (found-by means.state executed slot means.ledger_is same refl)
        (ap (λ (c : Command). c.number) same ∙ number_is)
        (ap (λ x. reply_to x (success (last_content slot)))
        (once_service node.ledger request service (Queues executed ticket) command means given))
    settles-by (Served service (Frees freed)) means status =
        absurd (none_some (command_given request) command means.means.no_command given)

    -- a number that is settled is not new
    not-new : (state : LedgerState) (executed : Command) (content : List ℕ) → node.ledger ≡ Some state → executed ≡ command →
        Settled number content (slot_in originator node.ledger) →
        IsNewAt (slot_of executed.originator state.taken) executed.number → ⊥
    not-new state executed content is same settled newer =
        let there : Settled number content (slot_of executed.originator state.taken)
        = subst (λ o. Settled number content (slot_of o state.taken)) (sym (ap (λ (c : Command). c.originator) same ∙ originator_is))
        (subst (λ l. Settled number content (slot_in originator l)) is settled) in
        let greater = newer_than (slot_of executed.originator state.taken) number executed.number content there newer in
        let equal = ap (λ (c : Command). c.number) same ∙ number_is in
        absurd (omega (arith, greater, equal))

    pub again-by : (f : Fate) (content : List ℕ) → Means node.ledger request f → Settled number content (slot_in originator node.ledger) →
        general_status (turn_by after answer f node.ledger node.router request.0 request.1).answer ≡ 0 →
        (turn_by after answer f node.ledger node.router request.0 request.1).answer ≡ reply_to services.DO_ONCE (success content)
    again-by Passed content means settled status = absurd (passed_none node.ledger request command means some given)
    again-by (Served service (Replies replied)) content means settled status =
        let kept = means.means.kept command given status in
        let there : Settled number content (Some kept.slot)
        = subst (Settled number content) kept.found
        (subst (λ o. Settled number content (slot_of o means.state.taken)) (sym originator_is)
        (subst (λ l. Settled number content (slot_in originator l)) means.ledger_is settled)) in
        spelled service services.DO_ONCE (status_number replied.status) replied.content content
        (once_service node.ledger request service (Replies replied) command means given) status
        (kept.content_is ∙ settled-content kept.slot number content (kept.number_is ∙ number_is) there)
    again-by (Served service (Executes executed)) content means settled status =
        absurd (not-new means.state executed content means.ledger_is
        (gives-unique (ledger_request request.1) executed command means.means.given_is given) settled means.means.newer)
    again-by (Served service (Queues executed ticket)) content means settled status =
        absurd (not-new means.state executed content means.ledger_is
        (gives-unique (ledger_request request.1) executed command means.means.given_is given) settled means.means.newer)
    again-by (Served service (Frees freed)) content means settled status =
        absurd (none_some (command_given request) command means.means.no_command given)

    -- the slot has a greater number
    older-by : (f : Fate) → Means node.ledger request f →
        general_status (turn_by after answer f node.ledger node.router request.0 request.1).answer ≡ 0x0c →
        Settled number [] (slot_in originator (next_by after answer f node request).ledger)
    older-by Passed means status = absurd (passed_none node.ledger request command means some given)
    older-by (Served service (Replies reply)) means status =
        let older = means.means.older command given status in
        let greater = older.greater in
        subst (λ l. Settled number [] (slot_in originator l)) (sym means.ledger_is)
        (subst (λ o. Settled number [] (slot_of o means.state.taken)) originator_is
        (subst (Settled number []) (sym older.found) (inr (omega (arith, greater, number_is)))))
    older-by (Served service (Executes executed)) means status = absurd (omega (arith, status))
    older-by (Served service (Queues executed ticket)) means status = absurd (omega (arith, status))
    older-by (Served service (Frees freed)) means status = absurd (omega (arith, status))

module _ {M : Type 0} (after : M → ℕ → List ℕ → M) (answer : M → ℕ → List ℕ → List ℕ)
    (standing : M → List ℕ → Standing) where
  pub settles : (node : LedgerRouter M) (request : Request) (originator number : ℕ) →
      Succeeds after answer standing node request originator number →
      Settles after answer (fate standing node.ledger node.router request.0 request.1) node request originator number
  settles node request originator number is =
      settles-by after answer node request originator number is.has_ledger is.command is.given is.originator_is is.number_is
      (fate standing node.ledger node.router request.0 request.1) (fate-means standing node.ledger node.router request) is.status_is

  -- only greater numbers are executed once a number was answered with success, or as too old
  pub never-again : (node : LedgerRouter M) (request : Request) (later : List Request) (originator number status : ℕ) →
      IsAnswered after answer standing node request originator number status → (status ≡ 0) ⊎ (status ≡ 0x0c) →
      UntilFreed originator (λ command. number < command.number)
      (journal after answer standing (next after answer standing node request) later)
  never-again node request later originator number status is (inl success) =
      let s = settles-by after answer node request originator number is.has_ledger is.command is.given is.originator_is is.number_is
      (fate standing node.ledger node.router request.0 request.1) (fate-means standing node.ledger node.router request) (is.status_is ∙ success) in
      journal-above after answer standing later (next after answer standing node request) originator number s.content s.settled
  never-again node request later originator number status is (inr older) =
      journal-above after answer standing later (next after answer standing node request) originator number []
      (older-by after answer node request originator number is.has_ledger is.command is.given is.originator_is is.number_is
      (fate standing node.ledger node.router request.0 request.1) (fate-means standing node.ledger node.router request) (is.status_is ∙ older))

  -- two success answers to a number have the same bytes
  pub same-bytes : (node : LedgerRouter M) (first again : Request) (between : List Request) (originator number : ℕ) →
      Succeeds after answer standing node first originator number →
      Succeeds after answer standing (node_after after answer standing node (first ∷ between)) again originator number →
      IsNotFreed originator (journal after answer standing (next after answer standing node first) between) →
      answer_to after answer standing (node_after after answer standing node (first ∷ between)) again ≡ answer_to after answer standing node first
  same-bytes node first again between originator number is again_is kept =
      let s = settles node first originator number is in
      let last = node_after after answer standing node (first ∷ between) in
      again-by after answer last again originator number again_is.has_ledger again_is.command again_is.given again_is.originator_is again_is.number_is
      (fate standing last.ledger last.router again.0 again.1) s.content (fate-means standing last.ledger last.router again)
      (settled-run after answer standing between (next after answer standing node first) originator number s.content s.settled kept)
      again_is.status_is
      ∙ sym s.answered
