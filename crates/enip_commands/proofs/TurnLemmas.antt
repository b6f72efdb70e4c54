-- The turns of a session: what was heard so far, and what was sent.
use Rattle.std.proofs.Common.{◌≡◌, ℕ, ◌+◌, ◌-◌, ◌^◌, ◌⊎◌, inl, inr, Bool, true, false, ◌||◌, List, [], ◌∷◌, ◌++◌, take, drop, append-nil, append_assoc, refl, sym, ap, subst, ◌∙◌, Option, Some, None, Result, Ok, Err}
use Rattle.std.specs.List.{list_any}
use Rattle.std.proofs.lemmas.List.{take-append-drop}
use Rattle.std.proofs.KnownBytes.{Consumes-nil, Consumes-trans}
use Rattle.std.specs.Io.KnownBytes.{Appends, Consumes}
use Rattle.std.specs.Option.{option_map}
use Rattle.enip_wire.specs.Frames.{Frame, frame}
use Rattle.enip_client.specs.Asking.{lends, client_failure}
use Rattle.enip_client.specs.Calls.{Lent, after_lending, bytes_lent}
use Rattle.enip_client.specs.Client.{ClientState, fed, with_state}
use Rattle.enip_client.specs.Hears.{HeardEvent}
use Rattle.enip_client.specs.declared.fault.AskFault.{AskFault}
use Rattle.enip_client.specs.declared.fault.AskFault.TheVariants as ask
use Rattle.enip_client.specs.declared.fault.ClientFault.{ClientFault}
use Rattle.enip_client.specs.declared.fault.ClientFault.TheVariants as client
use Rattle.enip_client.specs.declared.state.State.{State}
use Rattle.enip_client.proofs.AskedLemmas.{lent_ok}
use Rattle.enip_commands.specs.declared.turns.Turn.{Turn}
use Rattle.enip_commands.specs.declared.turns.Turn.TheVariants as turns
use Rattle.enip_commands.specs.Sessions.{SessionEnds, session_ends, is_answer, kept_after, last_kept, Hearing, IsWritten, lent_again}
use Rattle.enip_commands.specs.Sessions.{IsSent, IsAnswered, EndsWith, IsCause, IsUnanswered, IsAwaited, IsAwaitedIf, IsTurn, IsWrittenBy}
use Rattle.enip_commands.specs.Sessions.{IsReadBy, HearsWhole, HearsFront, IsFaultHeard}
use Rattle.enip_commands.specs.Sessions.Hearing.{Start, More}

-- ---- events

or_nothing : (b : Bool) → (b || false) ≡ b
or_nothing true = refl
or_nothing false = refl

or_assoc : (a b c : Bool) → (a || (b || c)) ≡ ((a || b) || c)
or_assoc true b c = refl
or_assoc false b c = refl

any_join : (p : HeardEvent → Bool) (events more : List HeardEvent) → list_any p (events ++ more) ≡ (list_any p events || list_any p more)
any_join p [] more = refl
any_join p (e ∷ es) more = ap (λ b. p e || b) (any_join p es more) ∙ or_assoc (p e) (list_any p es) (list_any p more)

any_more : (p : HeardEvent → Bool) (events : List HeardEvent) (e : HeardEvent) → list_any p (events ++ e ∷ []) ≡ (list_any p events || p e)
any_more p events e = any_join p events (e ∷ []) ∙ ap (λ b. list_any p events || b) (or_nothing (p e))

kept_join : (turn : Turn) (old : List ℕ) (events more : List HeardEvent)
    → last_kept turn old (events ++ more) ≡ last_kept turn (last_kept turn old events) more
kept_join turn old [] more = refl
kept_join turn old (e ∷ es) more = kept_join turn (kept_after turn old e) es more

hearing_join : (a b : ClientState) (xs : List ℕ) (es : List HeardEvent) → Hearing a xs es b → (ys : List ℕ) (fs : List HeardEvent) (c : ClientState)
    → Hearing b ys fs c → Hearing a (xs ++ ys) (es ++ fs) c
hearing_join a b xs es h _ _ _ Start =
    subst (λ (l : List ℕ). Hearing a l (es ++ []) b) (sym (append-nil xs))
    (subst (λ (l : List HeardEvent). Hearing a xs l b) (sym (append-nil es)) h)
hearing_join a b xs es h _ _ _ (More bytes events mid piece k) =
    subst (λ (l : List ℕ). Hearing a l (es ++ (events ++ (fed mid piece).heard_event ∷ [])) (fed mid piece).client)
    (append_assoc xs bytes (take (fed mid piece).taken piece))
    (subst (λ (l : List HeardEvent). Hearing a ((xs ++ bytes) ++ take (fed mid piece).taken piece) l (fed mid piece).client)
    (append_assoc es events ((fed mid piece).heard_event ∷ []))
    (More (xs ++ bytes) (es ++ events) mid piece (hearing_join a b xs es h bytes events mid k)))

-- ---- a piece

-- A front of a piece was fed.
pub record Fed (turn : Turn) (old new : ClientState) (before after piece rest : List ℕ) (is_heard : Bool) : Type 0 where
  pub front : List ℕ
  pub events : List HeardEvent
  pub parts : piece ≡ front ++ rest
  pub hearing : Hearing old front events new
  pub heard : is_heard ≡ list_any (is_answer turn) events
  pub reply : after ≡ last_kept turn before events

pub none_fed : (turn : Turn) (c : ClientState) (reply piece : List ℕ) → Fed turn c c reply reply piece piece false
none_fed turn c reply piece = record { front = []; events = []; parts = refl; hearing = Start; heard = refl; reply = refl }

fed_bytes : (whole rest front : List ℕ) (taken : ℕ) → whole ≡ front ++ rest → whole ≡ (front ++ take taken rest) ++ drop taken rest
fed_bytes whole rest front taken is =
    is ∙ ap (λ (l : List ℕ). front ++ l) (sym (take-append-drop taken rest)) ∙ sym (append_assoc front (take taken rest) (drop taken rest))

hearing_more : (old mid new : ClientState) (bytes rest : List ℕ) (events : List HeardEvent) (taken : ℕ) (event : HeardEvent)
    → Hearing old bytes events mid → new ≡ (fed mid rest).client → taken ≡ (fed mid rest).taken → event ≡ (fed mid rest).heard_event
    → Hearing old (bytes ++ take taken rest) (events ++ event ∷ []) new
hearing_more old mid new bytes rest events taken event h c t e = rw (c, t, e) (More bytes events mid rest h)

pub more_fed : (turn : Turn) (old mid new : ClientState) (before kept after piece rest behind : List ℕ) (is_heard here : Bool) (taken : ℕ) (event : HeardEvent)
    → Fed turn old mid before kept piece rest is_heard → new ≡ (fed mid rest).client → taken ≡ (fed mid rest).taken
    → event ≡ (fed mid rest).heard_event → here ≡ is_answer turn event → after ≡ kept_after turn kept event → behind ≡ drop taken rest
    → Fed turn old new before after piece behind (is_heard || here)
more_fed turn old mid new before kept after piece rest behind is_heard here taken event f c t e is keeps rest_is = record {
  front = f.front ++ take taken rest;
  events = f.events ++ event ∷ [];
  parts = fed_bytes piece rest f.front taken f.parts ∙ ap (λ (l : List ℕ). (f.front ++ take taken rest) ++ l) (sym rest_is);
  hearing = hearing_more old mid new f.front rest f.events taken event f.hearing c t e;
  heard = ap (λ b. b || here) f.heard ∙ ap (λ b. list_any (is_answer turn) f.events || b) is ∙ sym (any_more (is_answer turn) f.events event);
  reply = keeps ∙ ap (λ (l : List ℕ). kept_after turn l event) f.reply ∙ sym (kept_join turn before f.events (event ∷ []));
}

pub fed_to_a_refusal : (turn : Turn) (old mid new : ClientState) (before kept piece rest : List ℕ) (is_heard : Bool) (taken : ℕ) (event : HeardEvent) (fault : AskFault)
    → Fed turn old mid before kept piece rest is_heard → new ≡ (fed mid rest).client → taken ≡ (fed mid rest).taken
    → event ≡ (fed mid rest).heard_event → IsFaultHeard turn event fault → HearsFront turn old new piece fault
fed_to_a_refusal turn old mid new before kept piece rest is_heard taken event fault f c t e is = record {
  front = f.front ++ take taken rest;
  rest = drop taken rest;
  events = f.events ++ event ∷ [];
  parts = fed_bytes piece rest f.front taken f.parts;
  hearing = hearing_more old mid new f.front rest f.events taken event f.hearing c t e;
  of_client = is.0;
  is = is.1;
  cause = inr (record { before = f.events; event = event; last = refl; is = is.2 });
}

-- ---- all that was read

-- What was heard in the bytes that were read so far.
pub record Awaits (turn : Turn) (old new : ClientState) (before after : List ℕ) (left rest : Option (List ℕ)) (is_heard : Bool) : Type 0 where
  pub bytes : List ℕ
  pub events : List HeardEvent
  pub consumed : Consumes left rest bytes
  pub hearing : Hearing old bytes events new
  pub heard : is_heard ≡ list_any (is_answer turn) events
  pub reply : after ≡ last_kept turn before events

pub none_awaited : (turn : Turn) (c : ClientState) (reply : List ℕ) (left : Option (List ℕ)) → Awaits turn c c reply reply left left false
none_awaited turn c reply left =
    record { bytes = []; events = []; consumed = Consumes-nil left; hearing = Start; heard = refl; reply = refl }

pub more_awaited : (turn : Turn) (old mid new : ClientState) (before kept after piece : List ℕ) (left between rest : Option (List ℕ)) (here : Bool)
    → Awaits turn old mid before kept left between false → Consumes between rest piece → HearsWhole turn mid new kept after piece here
    → Awaits turn old new before after left rest here
more_awaited turn old mid new before kept after piece left between rest here a read h = record {
  bytes = a.bytes ++ piece;
  events = a.events ++ h.events;
  consumed = Consumes-trans left between rest a.bytes piece a.consumed read;
  hearing = hearing_join old mid a.bytes a.events a.hearing piece h.events new h.hearing;
  heard = h.heard ∙ ap (λ b. b || list_any (is_answer turn) h.events) a.heard ∙ sym (any_join (is_answer turn) a.events h.events);
  reply = h.reply ∙ ap (λ (l : List ℕ). last_kept turn l h.events) a.reply ∙ sym (kept_join turn before a.events h.events);
}

-- Nothing more was read.
pub not_read : (turn : Turn) (old new : ClientState) (before after into : List ℕ) (left between rest : Option (List ℕ))
    (reads so_far more failures later at_last : ℕ) (is_heard : Bool) (fault : AskFault)
    → Awaits turn old new before after left between is_heard → later ≡ failures → IsReadBy between rest so_far more later at_last into (Err fault)
    → (written : Option (List ℕ)) (write_failures : ℕ)
    → IsAwaited turn (session_ends old left reads failures written write_failures before) (session_ends new rest more at_last written write_failures after) (Err fault)
not_read turn old new before after into left between rest reads so_far more failures later at_last is_heard ask.Ended a same is written write_failures = record {
  bytes = a.bytes;
  rest = [];
  events = a.events;
  consumed = Consumes-trans left between rest a.bytes [] a.consumed is.0;
  hearing = a.hearing;
  cause = is.1;
  written = refl;
  write_failures = refl;
}
not_read turn old new before after into left between rest reads so_far more failures later at_last is_heard ask.Read a same is written write_failures = record {
  bytes = a.bytes;
  rest = [];
  events = a.events;
  consumed = Consumes-trans left between rest a.bytes [] a.consumed is.0;
  hearing = a.hearing;
  cause = is.1 ∙ ap (λ n. n + 1) same;
  written = refl;
  write_failures = refl;
}
not_read turn old new before after into left between rest reads so_far more failures later at_last is_heard ask.Spent a same is written write_failures = record {
  bytes = a.bytes;
  rest = [];
  events = a.events;
  consumed = Consumes-trans left between rest a.bytes [] a.consumed is.0;
  hearing = a.hearing;
  cause = is.1;
  written = refl;
  write_failures = refl;
}
not_read turn old new before after into left between rest reads so_far more failures later at_last is_heard ask.Write a same is written write_failures = absurd is
not_read turn old new before after into left between rest reads so_far more failures later at_last is_heard (ask.Client fault) a same is written write_failures = absurd is
not_read turn old new before after into left between rest reads so_far more failures later at_last is_heard (ask.Submit why) a same is written write_failures = absurd is

ends_later : (turn : Turn) (before events : List HeardEvent) (fault : ClientFault) → EndsWith turn events fault → EndsWith turn (before ++ events) fault
ends_later turn before events fault e = record {
  before = before ++ e.before;
  event = e.event;
  last = ap (λ (l : List HeardEvent). before ++ l) e.last ∙ sym (append_assoc before e.before (e.event ∷ []));
  is = e.is;
}

caused_later : (turn : Turn) (new : ClientState) (before events : List HeardEvent) (fault : ClientFault)
    → (new.state.fault ≡ Some fault) ⊎ EndsWith turn events fault → (new.state.fault ≡ Some fault) ⊎ EndsWith turn (before ++ events) fault
caused_later turn new before events fault (inl is) = inl is
caused_later turn new before events fault (inr e) = inr (ends_later turn before events fault e)

-- The client met a fault.
pub not_heard : (turn : Turn) (old mid new : ClientState) (before kept after piece : List ℕ) (left between rest : Option (List ℕ))
    (reads more failures later : ℕ) (is_heard : Bool) (fault : AskFault) → Awaits turn old mid before kept left between is_heard
    → Consumes between rest piece → HearsFront turn mid new piece fault → (written : Option (List ℕ)) (write_failures : ℕ)
    → IsAwaited turn (session_ends old left reads failures written write_failures before) (session_ends new rest more later written write_failures after) (Err fault)
not_heard turn old mid new before kept after piece left between rest reads more failures later is_heard fault a read h written write_failures = record {
  bytes = a.bytes ++ h.front;
  rest = h.rest;
  events = a.events ++ h.events;
  consumed = subst (Consumes left rest) (ap (λ (l : List ℕ). a.bytes ++ l) h.parts ∙ sym (append_assoc a.bytes h.front h.rest))
      (Consumes-trans left between rest a.bytes piece a.consumed read);
  hearing = hearing_join old mid a.bytes a.events a.hearing h.front h.events new h.hearing;
  cause = rw h.is (caused_later turn new a.events h.events h.of_client h.cause);
  written = refl;
  write_failures = refl;
}

-- ---- a turn

written_by : (lent : Lent) (old new : ClientState) (left : Option (List ℕ)) (reads read_failures : ℕ) (before after : Option (List ℕ))
    (failures later : ℕ) (reply bytes : List ℕ) → new ≡ with_state old lent.state → Appends before after bytes
    → IsWritten lent (session_ends old left reads read_failures before failures reply) (session_ends new left reads read_failures after later reply) bytes
written_by lent old new left reads read_failures before after failures later reply bytes is appends =
    record { written = appends; client = is; left = refl; reads = refl; read_failures = refl; reply = refl }

-- Whether the frame that a call lent was written.
pub sent_by : {E : Type 0} (failure : E → AskFault) (r : Result Lent E) (old new : ClientState) (left : Option (List ℕ))
    (reads read_failures : ℕ) (before after : Option (List ℕ)) (failures later : ℕ) (reply bytes : List ℕ) (result : Result (Unit {0}) AskFault)
    → Ok bytes ≡ bytes_lent r → new ≡ with_state old (after_lending old.state r) → IsWrittenBy before after failures later bytes result
    → IsSent (lends failure r) (session_ends old left reads read_failures before failures reply)
    (session_ends new left reads read_failures after later reply) result
sent_by failure r old new left reads read_failures before after failures later reply bytes (Ok done) lent is written =
    let l = lent_ok r bytes lent in
    let at : new ≡ with_state old l.0.state = is ∙ ap (λ x. with_state old (after_lending old.state x)) l.1 in
    rw l.1 (
      written_by l.0 old new left reads read_failures before after failures later reply (frame l.0.frame) at
          (subst (Appends before after) l.2 written.0),
      written.1,
    )
sent_by failure r old new left reads read_failures before after failures later reply bytes (Err fault) lent is written =
    let l = lent_ok r bytes lent in
    let at : new ≡ with_state old l.0.state = is ∙ ap (λ x. with_state old (after_lending old.state x)) l.1 in
    rw l.1 (
      written.0,
      written.1,
      (
        written.2.0,
        written_by l.0 old new left reads read_failures before after failures later reply
            (take written.2.0 (frame l.0.frame)) at (subst (λ (b : List ℕ). Appends before after (take written.2.0 b)) l.2 written.2.1),
      ),
    )

-- The frame was written, and its answer awaited.
pub turn_sent : (lent : Result Lent AskFault) (turn : Turn) (old mid new : SessionEnds) (result : Result (Unit {0}) AskFault)
    → IsSent lent old mid (Ok tt) → IsAwaited turn mid new result → IsTurn lent turn old new result
turn_sent lent turn old mid new result s a = record { sent = Ok tt; mid = mid; sending = s; awaiting = a }

-- ---- the waiting request, once more

pub again_lent : (s : State) (o : Option Frame) (bytes : List ℕ) → Some bytes ≡ option_map frame o → Ok bytes ≡ bytes_lent (lent_again s o)
again_lent s (Some again) bytes is = cc
again_lent s None bytes is = absurd (let no : Some bytes ≡ None = is in cc)

pub again_stays : (c : ClientState) (o : Option Frame) → with_state c (after_lending c.state (lent_again c.state o)) ≡ c
again_stays c (Some again) = refl
again_stays c None = refl

-- no request waited
pub again_refused : (s : State) (o : Option Frame) (old new : SessionEnds) → None ≡ option_map frame o → new ≡ old
    → IsTurn (lends client_failure (lent_again s o)) turns.Request old new (Err (ask.Client client.State))
again_refused s None old new is same =
    record { sent = Err (ask.Client client.State); mid = old; sending = (refl, refl); awaiting = (refl, same) }
again_refused s (Some again) old new is same = absurd (let no : None ≡ Some (frame again) = is in cc)

-- the frame was not written
pub turn_not_sent : (lent : Result Lent AskFault) (turn : Turn) (old new : SessionEnds) (fault : AskFault)
    → IsSent lent old new (Err fault) → IsTurn lent turn old new (Err fault)
turn_not_sent lent turn old new fault s = record { sent = Err fault; mid = new; sending = s; awaiting = (refl, refl) }
