-- The exchange over all that was read.
use Rattle.std.proofs.Common.{◌≡◌, ℕ, ◌<◌, ◌≤◌, Bool, true, false, List, [], ◌∷◌, ◌++◌, length, take, append-nil, append_assoc, refl, sym, ap, subst, ◌∙◌, if◌then◌else◌, Option, Some, None, Result, Ok, Err, arith}
use Rattle.std.specs.List.{flat_map, AllByRecursion}
use Rattle.std.proofs.lemmas.List.Concat.{flat_map-append}
use Rattle.std.proofs.lemmas.List.{length-take-le}
use Rattle.std.proofs.KnownBytes.{Appends-nil, Consumes-nil, Consumes-trans}
use Rattle.std.specs.Io.KnownBytes.{Appends, Consumes}
use Rattle.enip_wire.specs.Frames.{Frame, frame, IsFrame}
use Rattle.enip_wire.specs.Stream.{Parsed, parsed}
use Rattle.enip_wire.specs.Stream.Parsed.{Incomplete, WholeFrame, TooLongHeader}
use Rattle.enip_client.specs.declared.fault.AskFault.{AskFault}
use Rattle.enip_client.specs.declared.fault.AskFault.TheVariants as ask_faults
use Rattle.enip_client.specs.declared.step.Step.{Step}
use Rattle.enip_client.specs.declared.step.Step.TheVariants as steps
use Rattle.enip_client.specs.declared.step.Asked.{Asked}
use Rattle.enip_client.specs.declared.fault.ClientFault.{ClientFault}
use Rattle.enip_client.specs.declared.state.State.{State}
use Rattle.enip_client.specs.declared.fault.ClientFault.TheVariants as faults
use Rattle.enip_client.specs.declared.state.Awaited.TheVariants.{Session}
use Rattle.enip_client.specs.Frames.{register_frame}
use Rattle.enip_client.specs.Calls.{Lent, lending, unless, refusal, can_register, next_number, awaiting, registers, bytes_lent, after_lending}
use Rattle.enip_client.specs.Client.{ClientState, with_state, IsBetween}
use Rattle.enip_client.specs.Hears.{hears_parsed}
use Rattle.enip_client.specs.Asking.{AskPhase, Exchange, is_awaiting, failed, lends_call, sends_lent, begun_over, after_turn, after_parsed, at_last, over, AllAwaited, Heard, IsPartial, Writes, Ends, AskingOver, IsAwaiting, IsAskedOver}
use Rattle.enip_client.specs.Asking.AskPhase.{Registering, Completed, Failed}
use Rattle.enip_client.specs.AskSteps.{ask_phase_of, exchange_as, exchange_now, Held, IsAtPhase, ExchangeResult, Hears, IsPieceFed, IsAwaited, IsRead, FailsWithin}
use Rattle.enip_client.proofs.HearingLemmas.{hears_none, heard_of, parts_on, came_more}

over-join : (e : Exchange) (fs gs : List Frame) → over e (fs ++ gs) ≡ over (over e fs) gs
over-join e [] gs = refl
over-join e (x ∷ xs) gs = over-join (after_parsed e (WholeFrame x)) xs gs

awaited-join : (e : Exchange) (fs gs : List Frame) → AllAwaited e fs → AllAwaited (over e fs) gs → AllAwaited e (fs ++ gs)
awaited-join e [] gs p q = q
awaited-join e (x ∷ xs) gs p q = (p.0, awaited-join (after_parsed e (WholeFrame x)) xs gs p.1 q)

each-join : (fs gs : List Frame) → AllByRecursion IsFrame fs → AllByRecursion IsFrame gs → AllByRecursion IsFrame (fs ++ gs)
each-join [] gs p q = q
each-join (x ∷ xs) gs p q = (p.0, each-join xs gs p.1 q)

parts_join : (before fed held more after : List ℕ) (fs gs : List Frame) → before ++ fed ≡ flat_map frame fs ++ held
    → held ++ more ≡ flat_map frame gs ++ after → before ++ (fed ++ more) ≡ flat_map frame (fs ++ gs) ++ after
parts_join before fed held more after fs gs p q =
    parts_on before fed held more (flat_map frame fs) p ∙ ap (λ l. flat_map frame fs ++ l) q
    ∙ sym (append_assoc (flat_map frame fs) (flat_map frame gs) after) ∙ ap (λ l. l ++ after) (sym (flat_map-append frame fs gs))

heard_join : (begins e last : Exchange) (before fed held more : List ℕ) (after : ClientState) → Hears begins before fed held e
    → Heard e held more after last → Heard begins before (fed ++ more) after last
heard_join begins e last before fed held more after h k = record {
  frames = h.frames ++ k.frames;
  parts = parts_join before fed held more after.held h.frames k.frames h.parts k.parts;
  each = each-join h.frames k.frames h.each k.each;
  awaited = awaited-join begins h.frames k.frames h.awaited (subst (λ x. AllAwaited x k.frames) h.exchange k.awaited);
  unheard = k.unheard;
  exchange = k.exchange ∙ ap (λ x. at_last (over x k.frames) (parsed after.held)) h.exchange
      ∙ ap (λ x. at_last x (parsed after.held)) (sym (over-join begins h.frames k.frames));
  state = k.state;
}

hears_join : (begins e last : Exchange) (before fed held more after : List ℕ) → Hears begins before fed held e
    → Hears e held more after last → Hears begins before (fed ++ more) after last
hears_join begins e last before fed held more after h k = record {
  frames = h.frames ++ k.frames;
  parts = parts_join before fed held more after h.frames k.frames h.parts k.parts;
  each = each-join h.frames k.frames h.each k.each;
  awaited = awaited-join begins h.frames k.frames h.awaited (subst (λ x. AllAwaited x k.frames) h.exchange k.awaited);
  exchange = k.exchange ∙ ap (λ x. over x k.frames) h.exchange ∙ sym (over-join begins h.frames k.frames);
  partial = k.partial;
}

-- The part of the state that feeding a piece changes.
abbrev pub held_in : Ends → Held
held_in e = record { client = e.client; written = e.written; reply = e.reply }

abbrev pub begins_at : Asked → Ends → Exchange
begins_at asked old = begun_over asked.route.now old.client.state asked.request.now asked.connected old.reply

-- The result of what was read.
pub record Come (asked : Asked) (old new : Ends) (r : Result Step AskFault) : Type 0 where
  pub exchange : Exchange
  pub fed : List ℕ
  pub rest : List ℕ
  pub few : length rest < 4096
  pub consumed : Consumes old.left new.left (fed ++ rest)
  pub heard : Heard (begins_at asked old) old.client.held fed new.client exchange
  pub came : ExchangeResult asked [] (held_in old) (held_in new) exchange r
  pub more : IsAwaited r → (rest ≡ []) × Hears (begins_at asked old) old.client.held fed new.client.held exchange

-- a read gave this many bytes
pub size_read : (size : ℕ) (into : List ℕ) → size ≤ 4096 → length into ≡ 4096 → length (take size into) ≡ size
size_read size into within room = length-take-le size into (omega arith)

-- a further piece was read and heard
pub come_on : (asked : Asked) (step : Step) (old mid new : Ends) (piece : List ℕ) (size : ℕ) (r : Result Step AskFault)
    → Come asked old mid (Ok step) → is_awaiting (ask_phase_of step) ≡ true → Consumes mid.left new.left piece
    → length piece ≡ size → 0 < size → size ≤ 4096
    → (IsPartial mid.client.held → (sent : List Frame) → IsPieceFed asked step piece (held_in mid) (held_in new) r sent)
    → Come asked old new r
come_on asked step old mid new piece size r c waits consumed all some few pieces =
    let sent : List Frame = c.came.frames in
    let p : IsPieceFed asked step piece (held_in mid) (held_in new) r sent = pieces (c.more waits).1.partial sent in
    let h : Hears (begins_at asked old) old.client.held c.fed mid.client.held (exchange_now asked step (held_in mid) sent)
    = subst (Hears (begins_at asked old) old.client.held c.fed mid.client.held) c.came.exchange (c.more waits).1 in
    let bytes : (c.fed ++ c.rest) ++ piece ≡ (c.fed ++ p.fed) ++ p.rest
    = ap (λ l. (c.fed ++ l) ++ piece) (c.more waits).0 ∙ ap (λ l. l ++ piece) (append-nil c.fed) ∙ ap (λ l. c.fed ++ l) p.parts
    ∙ sym (append_assoc c.fed p.fed p.rest) in
    record {
      exchange = p.exchange;
      fed = c.fed ++ p.fed;
      rest = p.rest;
      few = omega (arith, p.some (omega arith));
      consumed = subst (Consumes old.left new.left) bytes (Consumes-trans old.left mid.left new.left (c.fed ++ c.rest) piece c.consumed consumed);
      heard = heard_join (begins_at asked old) (exchange_now asked step (held_in mid) sent) p.exchange old.client.held c.fed mid.client.held p.fed new.client h p.heard;
      came = came_more asked [] sent (held_in old) (held_in mid) (held_in new) p.exchange r c.came.written p.came;
      more = λ w. ((p.more w).0, hears_join (begins_at asked old) (exchange_now asked step (held_in mid) sent) p.exchange old.client.held c.fed mid.client.held p.fed new.client.held h (p.more w).1);
    }

stands_reply : (asked : Asked) (sent : List Frame) (old new : Held) (ask_phase : AskPhase) (e : Exchange)
    → IsAtPhase asked sent old new ask_phase e → new.reply ≡ e.reply
stands_reply asked sent old new ask_phase e p = ap (λ x. x.reply) (sym p.exchange)

came_reply : (asked : Asked) (sent : List Frame) (old new : Held) (e : Exchange) (r : Result Step AskFault)
    → ExchangeResult asked sent old new e r → new.reply ≡ e.reply
came_reply asked sent old new e (Ok step) p = stands_reply asked sent old new (ask_phase_of step) e p
came_reply asked sent old new e (Err ask_faults.Write) p = ap (λ x. x.reply) (sym p.exchange)
came_reply asked sent old new e (Err ask_faults.Read) p = absurd p
came_reply asked sent old new e (Err ask_faults.Ended) p = absurd p
came_reply asked sent old new e (Err ask_faults.Spent) p = absurd p
came_reply asked sent old new e (Err (ask_faults.Client fault)) p = stands_reply asked sent old new (Failed (ask_faults.Client fault)) e p
came_reply asked sent old new e (Err (ask_faults.Submit why)) p = stands_reply asked sent old new (Failed (ask_faults.Submit why)) e p

abbrev asking_of : (asked : Asked) (old new : Ends) (r : Result Step AskFault) → Come asked old new r
    → AskingOver asked.route.now asked.request.now asked.connected old new
asking_of asked old new r c = record {
  exchange = c.exchange;
  fed = c.fed;
  rest = c.rest;
  few = c.few;
  consumed = c.consumed;
  heard = c.heard;
  reply = came_reply asked [] (held_in old) (held_in new) c.exchange r c.came;
}

stands_writes : (asked : Asked) (old new : Held) (ask_phase : AskPhase) (e : Exchange) → IsAtPhase asked [] old new ask_phase e
    → Writes old.written new.written e.sent
stands_writes asked old new ask_phase e p =
    subst (λ l. Appends old.written new.written (flat_map frame l)) (ap (λ x. x.sent) (sym p.exchange)) p.written

-- a piece ended the exchange
pub asked_fault : (asked : Asked) (old new : Ends) (fault : AskFault) → Come asked old new (Err fault)
    → IsAskedOver asked.route.now asked.request.now asked.connected old new (Err fault)
asked_fault asked old new ask_faults.Write c = (
  asking_of asked old new (Err ask_faults.Write) c,
  record {
    whole = c.came.whole;
    last = c.came.last;
    all = ap (λ x. x.sent) c.came.exchange;
    front = c.came.front;
    not_all = c.came.not_all;
    written = c.came.written;
  },
)
asked_fault asked old new (ask_faults.Client fault) c = (
  asking_of asked old new (Err (ask_faults.Client fault)) c,
  ap (λ x. x.ask_phase) c.came.exchange,
  stands_writes asked (held_in old) (held_in new) (Failed (ask_faults.Client fault)) c.exchange c.came,
)
asked_fault asked old new (ask_faults.Submit why) c = (
  asking_of asked old new (Err (ask_faults.Submit why)) c,
  ap (λ x. x.ask_phase) c.came.exchange,
  stands_writes asked (held_in old) (held_in new) (Failed (ask_faults.Submit why)) c.exchange c.came,
)
asked_fault asked old new ask_faults.Read c = absurd c.came
asked_fault asked old new ask_faults.Ended c = absurd c.came
asked_fault asked old new ask_faults.Spent c = absurd c.came

completed : (step : Step) → is_awaiting (ask_phase_of step) ≡ false → ask_phase_of step ≡ Completed
completed steps.Completed ended = refl
completed steps.Registering ended = let no : true ≡ false = ended in cc
completed steps.Opening ended = let no : true ≡ false = ended in cc
completed steps.Requesting ended = let no : true ≡ false = ended in cc
completed steps.Closing ended = let no : true ≡ false = ended in cc

-- the exchange was completed
pub asked_done : (asked : Asked) (old new : Ends) (step : Step) → Come asked old new (Ok step) → is_awaiting (ask_phase_of step) ≡ false
    → IsAskedOver asked.route.now asked.request.now asked.connected old new (Ok tt)
asked_done asked old new step c ended = (
  asking_of asked old new (Ok step) c,
  ap (λ x. x.ask_phase) c.came.exchange ∙ completed step ended,
  stands_writes asked (held_in old) (held_in new) (ask_phase_of step) c.exchange c.came,
)

-- The state after a read that gave no byte.
abbrev pub read_on : Ends → Option (List ℕ) → ℕ → Ends
read_on e left reads = record e { left = left; reads = reads }

abbrev still : (asked : Asked) (step : Step) (old mid : Ends) (left : Option (List ℕ)) (reads : ℕ) → Come asked old mid (Ok step)
    → Consumes mid.left left [] → Come asked old (read_on mid left reads) (Ok step)
still asked step old mid left reads c none = record {
  exchange = c.exchange;
  fed = c.fed;
  rest = c.rest;
  few = c.few;
  consumed = subst (Consumes old.left left) (append-nil (c.fed ++ c.rest))
      (Consumes-trans old.left mid.left left (c.fed ++ c.rest) [] c.consumed none);
  heard = c.heard;
  came = c.came;
  more = c.more;
}

awaiting_of : (asked : Asked) (step : Step) (old new : Ends) (c : Come asked old new (Ok step)) → is_awaiting (ask_phase_of step) ≡ true
    → IsAwaiting c.exchange c.rest
awaiting_of asked step old new c waits =
    record { ask_phase = ap (λ x. is_awaiting x.ask_phase) c.came.exchange ∙ waits; all = (c.more waits).0 }

-- a read gave no byte
pub asked_read : (asked : Asked) (step : Step) (old mid : Ends) (left : Option (List ℕ)) (reads : ℕ) (into : List ℕ) (fault : AskFault)
    → Come asked old mid (Ok step) → is_awaiting (ask_phase_of step) ≡ true → IsRead mid.left left mid.reads reads into (Err fault)
    → IsAskedOver asked.route.now asked.request.now asked.connected old (read_on mid left reads) (Err fault)
asked_read asked step old mid left reads into ask_faults.Ended c waits is =
    let s : Come asked old (read_on mid left reads) (Ok step) = still asked step old mid left reads c is.0 in (
      asking_of asked old (read_on mid left reads) (Ok step) s,
      awaiting_of asked step old (read_on mid left reads) s waits,
      is.1,
      stands_writes asked (held_in old) (held_in mid) (ask_phase_of step) c.exchange c.came,
    )
asked_read asked step old mid left reads into ask_faults.Read c waits is =
    let s : Come asked old (read_on mid left reads) (Ok step) = still asked step old mid left reads c is in (
      asking_of asked old (read_on mid left reads) (Ok step) s,
      awaiting_of asked step old (read_on mid left reads) s waits,
      stands_writes asked (held_in old) (held_in mid) (ask_phase_of step) c.exchange c.came,
    )
asked_read asked step old mid left reads into ask_faults.Spent c waits is =
    let s : Come asked old (read_on mid left reads) (Ok step) = still asked step old mid left reads c is.0 in (
      asking_of asked old (read_on mid left reads) (Ok step) s,
      awaiting_of asked step old (read_on mid left reads) s waits,
      is.1,
      stands_writes asked (held_in old) (held_in mid) (ask_phase_of step) c.exchange c.came,
    )
asked_read asked step old mid left reads into ask_faults.Write c waits is = absurd is
asked_read asked step old mid left reads into (ask_faults.Client fault) c waits is = absurd is
asked_read asked step old mid left reads into (ask_faults.Submit why) c waits is = absurd is

-- the exchange began
pub started : (asked : Asked) (old new : Ends) (r : Result Step AskFault) → IsPartial old.client.held → new.client.held ≡ old.client.held
    → new.client.state ≡ (begins_at asked old).state → new.left ≡ old.left
    → ExchangeResult asked [] (held_in old) (held_in new) (begins_at asked old) r → Come asked old new r
started asked old new r partial held state left came =
    let hears : Hears (begins_at asked old) old.client.held [] new.client.held (begins_at asked old)
    = subst (λ h. Hears (begins_at asked old) old.client.held [] h (begins_at asked old)) (sym held) (hears_none (begins_at asked old) old.client.held partial) in
    record {
      exchange = begins_at asked old;
      fed = [];
      rest = [];
      few = omega arith;
      consumed = subst (λ l. Consumes old.left l []) (sym left) (Consumes-nil old.left);
      heard = heard_of (begins_at asked old) old.client.held [] new.client (begins_at asked old) hears state;
      came = came;
      more = λ w. (refl, hears);
    }

-- The exchange before it begins.
abbrev unbegun : Asked → Ends → Exchange
unbegun asked old = exchange_as asked old.client.state Registering old.reply []

pub lent_ok : {E : Type 0} (r : Result Lent E) (bytes : List ℕ) → Ok bytes ≡ bytes_lent r → (l : Lent) × (r ≡ Ok l) × (bytes ≡ frame l.frame)
lent_ok (Ok lent) bytes is = (lent, refl, cc)
lent_ok (Err fault) bytes is = absurd (let no : Ok bytes ≡ Err fault = is in cc)

pub lent_err : {E : Type 0} (r : Result Lent E) (fault : E) → Err fault ≡ bytes_lent r → r ≡ Err fault
lent_err (Ok lent) fault is = cc
lent_err (Err why) fault is = cc

-- an exchange that ended hears nothing more
stays : (e : Exchange) (seen : Parsed) → is_awaiting e.ask_phase ≡ false → at_last e seen ≡ e
stays e Incomplete ended = refl
stays e (WholeFrame f) ended = refl
stays e (TooLongHeader h) ended = ap (λ b. if b then after_turn e (hears_parsed e.state (TooLongHeader h)) else e) ended

-- the first call was refused
pub start_refused : (asked : Asked) (old : Ends) (client : ClientState) (fault : ClientFault) → registers old.client.state ≡ Err fault
    → client ≡ with_state old.client (after_lending old.client.state (registers old.client.state)) → IsBetween old.client
    → Come asked old (record old { client = client }) (Err (ask_faults.Client fault))
start_refused asked old client fault refused is between =
    let begins : begins_at asked old ≡ failed (unbegun asked old) (ask_faults.Client fault)
    = ap (λ l. sends_lent (unbegun asked old) Registering (lends_call l)) refused in
    let same : client ≡ old.client = is ∙ ap (λ l. with_state old.client (after_lending old.client.state l)) refused in
    record {
      exchange = begins_at asked old;
      fed = [];
      rest = [];
      few = omega arith;
      consumed = Consumes-nil old.left;
      heard = record {
        frames = [];
        parts = append-nil old.client.held ∙ ap (λ x. x.held) (sym same);
        each = tt;
        awaited = tt;
        unheard = λ f is. between.unheard f (ap (λ x. parsed x.held) (sym same) ∙ is);
        exchange = sym (stays (begins_at asked old) (parsed client.held) (ap (λ x. is_awaiting x.ask_phase) begins));
        state = ap (λ x. x.state) same ∙ ap (λ x. x.state) (sym begins);
      };
      came = record {
        frames = [];
        exchange = begins ∙ ap (λ x. exchange_as asked x.state (Failed (ask_faults.Client fault)) old.reply []) (sym same);
        written = Appends-nil old.written;
      };
      more = λ no. absurd no;
    }

healthy_refusal : (s : State) (o : Option ClientFault) (possible : Bool) (x l : Lent)
    → unless (refusal (record s { fault = o }) possible) (Ok x) ≡ Ok l → (o ≡ None) × (x ≡ l)
healthy_refusal s (Some fault) possible x l is = absurd (let no : Err fault ≡ Ok l = is in cc)
healthy_refusal s None true x l is = (refl, cc)
healthy_refusal s None false x l is = absurd (let no : Err faults.State ≡ Ok l = is in cc)

-- no fault lasts when the exchange begins
pub start_healthy : (s : State) (l : Lent) → registers s ≡ Ok l → l.state.fault ≡ None
start_healthy s l is =
    let p = healthy_refusal s s.fault (can_register s) (lending (register_frame (next_number s)) (awaiting Session s)) l is in
    ap (λ x. x.state.fault) (sym p.1) ∙ p.0

-- what the client held when the exchange began is a front of a frame, or no byte
start_partial : (c : ClientState) (l : Lent) → registers c.state ≡ Ok l → IsBetween c → IsPartial c.held
start_partial c l is between =
    let p = healthy_refusal c.state c.state.fault (can_register c.state)
    (lending (register_frame (next_number c.state)) (awaiting Session c.state)) l is in
    record { bytes = between.bytes; partly = between.partly p.0 }

-- the first frame was written
pub start_sent : (asked : Asked) (old : Ends) (client : ClientState) (after : Option (List ℕ)) (lent : Lent) → registers old.client.state ≡ Ok lent
    → client ≡ with_state old.client (after_lending old.client.state (registers old.client.state)) → IsBetween old.client
    → Appends old.written after (frame lent.frame)
    → Come asked old (record old { client = client; written = after }) (Ok steps.Registering)
start_sent asked old client after lent made is between wrote =
    let begins : begins_at asked old ≡ exchange_as asked lent.state Registering old.reply (lent.frame ∷ [])
    = ap (λ l. sends_lent (unbegun asked old) Registering (lends_call l)) made in
    let same : client ≡ with_state old.client lent.state = is ∙ ap (λ l. with_state old.client (after_lending old.client.state l)) made in
    started asked old (record old { client = client; written = after }) (Ok steps.Registering)
    (start_partial old.client lent made between) (ap (λ x. x.held) same)
    (ap (λ x. x.state) same ∙ ap (λ x. x.state) (sym begins)) refl (record {
      frames = lent.frame ∷ [];
      exchange = begins ∙ ap (λ x. exchange_as asked x.state Registering old.reply (lent.frame ∷ [])) (sym same);
      written = subst (Appends old.written after) (sym (append-nil (frame lent.frame))) wrote;
    })

-- the writer failed within the first frame
pub start_broken : (asked : Asked) (old : Ends) (client : ClientState) (after : Option (List ℕ)) (lent : Lent) (bytes : List ℕ) (fault : AskFault)
    → registers old.client.state ≡ Ok lent → bytes ≡ frame lent.frame
    → client ≡ with_state old.client (after_lending old.client.state (registers old.client.state)) → IsBetween old.client
    → FailsWithin old.written after bytes fault
    → Come asked old (record old { client = client; written = after }) (Err fault)
start_broken asked old client after lent bytes fault made whole is between fails =
    let begins : begins_at asked old ≡ exchange_as asked lent.state Registering old.reply (lent.frame ∷ [])
    = ap (λ l. sends_lent (unbegun asked old) Registering (lends_call l)) made in
    let same : client ≡ with_state old.client lent.state = is ∙ ap (λ l. with_state old.client (after_lending old.client.state l)) made in
    subst (λ f. Come asked old (record old { client = client; written = after }) (Err f)) (sym fails.fault_is)
    (started asked old (record old { client = client; written = after }) (Err ask_faults.Write)
    (start_partial old.client lent made between) (ap (λ x. x.held) same)
    (ap (λ x. x.state) same ∙ ap (λ x. x.state) (sym begins)) refl (record {
      whole = [];
      last = lent.frame;
      ask_phase = Registering;
      exchange = begins ∙ ap (λ x. exchange_as asked x.state Registering old.reply (lent.frame ∷ [])) (sym same);
      front = fails.front;
      not_all = subst (λ b. fails.front < length b) whole fails.not_all;
      written = subst (λ b. Appends old.written after (take fails.front b)) whole fails.written;
    }))
