-- The exchange over the frames of what was fed, piece by piece.
use Rattle.std.proofs.Common.{◌≡◌, ℕ, ◌+◌, ◌-◌, ◌<◌, ◌≤◌, nat_lt, if◌then◌else◌, Bool, true, false, List, [], ◌∷◌, ◌++◌, length, take, drop, append-nil, append_assoc, length-drop, refl, sym, ap, subst, ◌∙◌, None, Result, Ok, Err, arith}
use Rattle.std.specs.Prelude.{⊤, ◌==◌}
use Rattle.std.specs.List.{flat_map, AllByRecursion}
use Rattle.std.proofs.lemmas.List.Concat.{flat_map-append}
use Rattle.std.proofs.lemmas.Bool.Decides.{nat_tests}
use Rattle.std.proofs.lemmas.List.{take-append-drop, drop_all}
use Rattle.std.proofs.Math.Seq.{take-add}
use Rattle.std.proofs.KnownBytes.{Appends-nil, Appends-trans}
use Rattle.std.specs.Io.KnownBytes.{Appends}
use Rattle.cip_bytes.specs.Numbers.{number_at, AreBytes}
use Rattle.cip_bytes.proofs.Bytes.{AreBytes-append, AreBytes-take, AreBytes-drop}
use Rattle.enip_wire.specs.Headers.{header_at}
use Rattle.enip_wire.specs.declared.header.Header.{Header}
use Rattle.enip_wire.specs.Frames.{Frame, frame, IsFrame}
use Rattle.enip_wire.specs.Stream.{Parsed, parsed, held_and_taken, bytes_taken, cleared}
use Rattle.enip_wire.specs.Stream.Parsed.{Incomplete, WholeFrame, TooLongHeader}
use Rattle.enip_wire.proofs.HeaderLemmas.{header_spelling-header_at}
use Rattle.enip_wire.proofs.FrameLemmas.{IsHeader-header_at}
use Rattle.enip_client.specs.declared.fault.AskFault.{AskFault}
use Rattle.enip_client.specs.declared.fault.AskFault.TheVariants as ask_faults
use Rattle.enip_client.specs.declared.step.Step.{Step}
use Rattle.enip_client.specs.declared.step.Step.TheVariants as steps
use Rattle.enip_client.specs.declared.state.State.{State}
use Rattle.enip_client.specs.declared.step.Asked.{Asked}
use Rattle.enip_client.specs.Client.{ClientState}
use Rattle.enip_client.specs.Hears.{hears_parsed}
use Rattle.enip_client.specs.Hears.HeardEvent.{Nothing}
use Rattle.enip_client.specs.Asking.{AskPhase, Exchange, is_awaiting, goes_on, hears_unless, after_turn, after_parsed, at_last, over, AllAwaited, Heard, IsPartial}
use Rattle.enip_client.specs.Asking.AskPhase.{Registering, Opening, Requesting, Closing, Completed, Failed}
use Rattle.enip_client.specs.AskSteps.{ask_phase_of, exchange_as, exchange_now, Held, IsAtPhase, FailsAtWrite, ExchangeResult, IsAdvanced, IsPieceFed, IsHealthy, Hears}

-- What parsing yields about the bytes.
abbrev Seen : List ℕ → Parsed → Type 0
Seen bytes Incomplete = ⊤
Seen bytes (WholeFrame f) = IsFrame f × (bytes ≡ frame f)
Seen bytes (TooLongHeader h) = ⊤

seen_if : (short long whole : Bool) (bytes : List ℕ) (h : Header) (f : Frame)
    → (short ≡ false → long ≡ false → whole ≡ true → IsFrame f × (bytes ≡ frame f))
    → Seen bytes (if short then Incomplete else if long then TooLongHeader h else if whole then WholeFrame f else Incomplete)
seen_if true long whole bytes h f is = tt
seen_if false true whole bytes h f is = tt
seen_if false false true bytes h f is = is refl refl refl
seen_if false false false bytes h f is = tt

size_of : (bytes : List ℕ) → nat_lt (length bytes) 24 ≡ false → 24 ≤ length bytes
size_of bytes is = grind (arith, nat_tests)

within_of : (n : ℕ) → nat_lt 65511 n ≡ false → n ≤ 65511
within_of n is = grind (arith, nat_tests)

total_of : (m n : ℕ) → (m == n) ≡ true → m ≡ n
total_of m n is = grind (arith, nat_tests)

seen : (bytes : List ℕ) → AreBytes bytes → Seen bytes (parsed bytes)
seen bytes fits =
    seen_if (nat_lt (length bytes) 24) (nat_lt 65511 (number_at 2 2 bytes)) (length bytes == 24 + number_at 2 2 bytes) bytes
    (header_at bytes) (record { header = header_at bytes; body = drop 24 bytes }) (λ size within total.
    let long : 24 ≤ length bytes = size_of bytes size in
    let count : length bytes ≡ 24 + number_at 2 2 bytes = total_of (length bytes) (24 + number_at 2 2 bytes) total in (
      record {
        fields = IsHeader-header_at bytes long fits;
        counted = length-drop 24 bytes ∙ (omega (arith, count));
        within = within_of (number_at 2 2 bytes) within;
      },
      sym (header_spelling-header_at bytes long fits),
    ))

-- If nothing is heard, the exchange stays the same.
nothing_on : (e : Exchange) (ask_phase : AskPhase) → goes_on e ask_phase Nothing ≡ e
nothing_on e Registering = refl
nothing_on e Opening = refl
nothing_on e Requesting = refl
nothing_on e Closing = refl
nothing_on e Completed = refl
nothing_on e (Failed fault) = refl

quiet_if : (b : Bool) (e : Exchange) → e.state.fault ≡ None → (if b then hears_unless e Nothing e.state.fault else e) ≡ e
quiet_if true e healthy = ap (hears_unless e Nothing) healthy ∙ nothing_on e e.ask_phase
quiet_if false e healthy = refl

quiet : (e : Exchange) → e.state.fault ≡ None → after_parsed e Incomplete ≡ e
quiet e healthy = quiet_if (is_awaiting e.ask_phase) e healthy

over-append : (e : Exchange) (fs : List Frame) (f : Frame) → over e (fs ++ (f ∷ [])) ≡ after_parsed (over e fs) (WholeFrame f)
over-append e [] f = refl
over-append e (x ∷ xs) f = over-append (after_parsed e (WholeFrame x)) xs f

awaited-append : (e : Exchange) (fs : List Frame) (f : Frame) → AllAwaited e fs → is_awaiting (over e fs).ask_phase ≡ true
    → AllAwaited e (fs ++ (f ∷ []))
awaited-append e [] f all waits = (waits, tt)
awaited-append e (x ∷ xs) f all waits = (all.0, awaited-append (after_parsed e (WholeFrame x)) xs f all.1 waits)

each-append : (fs : List Frame) (f : Frame) → AllByRecursion IsFrame fs → IsFrame f → AllByRecursion IsFrame (fs ++ (f ∷ []))
each-append [] f all is = (is, tt)
each-append (x ∷ xs) f all is = (all.0, each-append xs f all.1 is)

-- nothing is heard yet
pub hears_none : (e : Exchange) (before : List ℕ) → IsPartial before → Hears e before [] before e
hears_none e before partial =
    record { frames = []; parts = append-nil before; each = tt; awaited = tt; exchange = refl; partial = partial }

-- what goes on was heard
pub heard_of : (begins : Exchange) (before fed : List ℕ) (new : ClientState) (e : Exchange) → Hears begins before fed new.held e
    → new.state ≡ e.state → Heard begins before fed new e
heard_of begins before fed new e h state = record {
  frames = h.frames;
  parts = h.parts;
  each = h.each;
  awaited = h.awaited;
  unheard = λ f is. let p = h.partial.partly in cc;
  exchange = h.exchange ∙ ap (at_last (over begins h.frames)) (sym h.partial.partly);
  state = state;
}

-- a header over the limit ends the exchange
ended_long : (e : Exchange) (h : Header) → is_awaiting e.ask_phase ≡ true → is_awaiting (after_parsed e (TooLongHeader h)).ask_phase ≡ false
ended_long e h waits =
    ap (λ b. is_awaiting (if b then after_turn e (hears_parsed e.state (TooLongHeader h)) else e).ask_phase) waits

-- The result of feeding further bytes.
pub record FedOn (begins : Exchange) (before fed held : List ℕ) (e : Exchange) (new : ClientState) : Type 0 where
  pub heard : Heard begins before fed new e
  pub hears : is_awaiting e.ask_phase ≡ true → Hears begins before fed new.held e

pub parts_on : (before fed held more front : List ℕ) → before ++ fed ≡ front ++ held → before ++ (fed ++ more) ≡ front ++ (held ++ more)
parts_on before fed held more front is =
    sym (append_assoc before fed more) ∙ ap (λ l. l ++ more) is ∙ append_assoc front held more

flat_more : (fs : List Frame) (f : Frame) → flat_map frame fs ++ frame f ≡ flat_map frame (fs ++ (f ∷ [])) ++ []
flat_more fs f =
    sym (append-nil (flat_map frame (fs ++ (f ∷ []))) ∙ flat_map-append frame fs (f ∷ [])
    ∙ ap (λ l. flat_map frame fs ++ l) (append-nil (frame f)))

sight_on : (begins : Exchange) (before fed held more : List ℕ) (e : Exchange) (new : ClientState) (parsed_frame : Parsed)
    → Hears begins before fed held e → is_awaiting e.ask_phase ≡ true → e.state.fault ≡ None → AreBytes (held ++ more)
    → parsed (held ++ more) ≡ parsed_frame → Seen (held ++ more) parsed_frame
    → new.held ≡ cleared parsed_frame (held ++ more) → new.state ≡ (after_parsed e parsed_frame).state
    → FedOn begins before (fed ++ more) held (after_parsed e parsed_frame) new
sight_on begins before fed held more e new Incomplete h waits healthy fits is seen left state =
    let on : Hears begins before (fed ++ more) new.held (after_parsed e Incomplete) = record {
      frames = h.frames;
      parts = parts_on before fed held more (flat_map frame h.frames) h.parts ∙ ap (λ l. flat_map frame h.frames ++ l) (sym left);
      each = h.each;
      awaited = h.awaited;
      exchange = quiet e healthy ∙ h.exchange;
      partial = subst IsPartial (sym left) (record { bytes = fits; partly = is });
    } in
    record { heard = heard_of begins before (fed ++ more) new (after_parsed e Incomplete) on state; hears = λ w. on }
sight_on begins before fed held more e new (WholeFrame f) h waits healthy fits is seen left state =
    let on : Hears begins before (fed ++ more) new.held (after_parsed e (WholeFrame f)) = record {
      frames = h.frames ++ (f ∷ []);
      parts = parts_on before fed held more (flat_map frame h.frames) h.parts ∙ ap (λ l. flat_map frame h.frames ++ l) seen.1
          ∙ flat_more h.frames f ∙ ap (λ l. flat_map frame (h.frames ++ (f ∷ [])) ++ l) (sym left);
      each = each-append h.frames f h.each seen.0;
      awaited = awaited-append begins h.frames f h.awaited (ap (λ x. is_awaiting x.ask_phase) (sym h.exchange) ∙ waits);
      exchange = ap (λ x. after_parsed x (WholeFrame f)) h.exchange ∙ sym (over-append begins h.frames f);
      partial = subst IsPartial (sym left) (record { bytes = λ i. omega arith; partly = refl });
    } in
    record { heard = heard_of begins before (fed ++ more) new (after_parsed e (WholeFrame f)) on state; hears = λ w. on }
sight_on begins before fed held more e new (TooLongHeader header) h waits healthy fits is seen left state =
    let long : parsed new.held ≡ TooLongHeader header = ap parsed left ∙ is in
    record {
      heard = record {
        frames = h.frames;
        parts = parts_on before fed held more (flat_map frame h.frames) h.parts ∙ ap (λ l. flat_map frame h.frames ++ l) (sym left);
        each = h.each;
        awaited = h.awaited;
        unheard = λ f no. cc;
        exchange = ap (λ x. after_parsed x (TooLongHeader header)) h.exchange ∙ ap (at_last (over begins h.frames)) (sym long);
        state = state;
      };
      hears = λ w. let no : true ≡ false = sym w ∙ ended_long e header waits in cc;
    }

stands_state : (asked : Asked) (sent : List Frame) (old new : Held) (ask_phase : AskPhase) (e : Exchange)
    → IsAtPhase asked sent old new ask_phase e → new.client.state ≡ e.state
stands_state asked sent old new ask_phase e p = ap (λ x. x.state) (sym p.exchange)

-- the client's state is that of the exchange
came_state : (asked : Asked) (sent : List Frame) (old new : Held) (e : Exchange) (r : Result Step AskFault)
    → ExchangeResult asked sent old new e r → new.client.state ≡ e.state
came_state asked sent old new e (Ok step) p = stands_state asked sent old new (ask_phase_of step) e p
came_state asked sent old new e (Err ask_faults.Write) p = ap (λ x. x.state) (sym p.exchange)
came_state asked sent old new e (Err ask_faults.Read) p = absurd p
came_state asked sent old new e (Err ask_faults.Ended) p = absurd p
came_state asked sent old new e (Err ask_faults.Spent) p = absurd p
came_state asked sent old new e (Err (ask_faults.Client fault)) p = stands_state asked sent old new (Failed (ask_faults.Client fault)) e p
came_state asked sent old new e (Err (ask_faults.Submit why)) p = stands_state asked sent old new (Failed (ask_faults.Submit why)) e p

stands_more : (asked : Asked) (sent fs : List Frame) (old mid new : Held) (ask_phase : AskPhase) (e : Exchange)
    → Appends old.written mid.written (flat_map frame fs) → IsAtPhase asked (sent ++ fs) mid new ask_phase e → IsAtPhase asked sent old new ask_phase e
stands_more asked sent fs old mid new ask_phase e first p = record {
  frames = fs ++ p.frames;
  exchange = p.exchange ∙ ap (λ l. exchange_as asked new.client.state ask_phase new.reply l) (append_assoc sent fs p.frames);
  written = subst (Appends old.written new.written) (sym (flat_map-append frame fs p.frames))
      (Appends-trans old.written mid.written new.written (flat_map frame fs) (flat_map frame p.frames) first p.written);
}

breaks_more : (asked : Asked) (sent fs : List Frame) (old mid new : Held) (e : Exchange)
    → Appends old.written mid.written (flat_map frame fs) → FailsAtWrite asked (sent ++ fs) mid new e → FailsAtWrite asked sent old new e
breaks_more asked sent fs old mid new e first p =
    let cut : List ℕ = take p.front (frame p.last) in
    record {
      whole = fs ++ p.whole;
      last = p.last;
      ask_phase = p.ask_phase;
      exchange = p.exchange ∙ ap (λ l. exchange_as asked new.client.state p.ask_phase new.reply l)
          (append_assoc sent fs (p.whole ++ (p.last ∷ [])) ∙ ap (λ l. sent ++ l) (sym (append_assoc fs p.whole (p.last ∷ []))));
      front = p.front;
      not_all = p.not_all;
      written = subst (Appends old.written new.written)
          (sym (append_assoc (flat_map frame fs) (flat_map frame p.whole) cut) ∙ ap (λ l. l ++ cut) (sym (flat_map-append frame fs p.whole)))
          (Appends-trans old.written mid.written new.written (flat_map frame fs) (flat_map frame p.whole ++ cut) first p.written);
    }

-- what was sent before is sent too
pub came_more : (asked : Asked) (sent fs : List Frame) (old mid new : Held) (e : Exchange) (r : Result Step AskFault)
    → Appends old.written mid.written (flat_map frame fs) → ExchangeResult asked (sent ++ fs) mid new e r → ExchangeResult asked sent old new e r
came_more asked sent fs old mid new e (Ok step) first p = stands_more asked sent fs old mid new (ask_phase_of step) e first p
came_more asked sent fs old mid new e (Err ask_faults.Write) first p = breaks_more asked sent fs old mid new e first p
came_more asked sent fs old mid new e (Err ask_faults.Read) first p = absurd p
came_more asked sent fs old mid new e (Err ask_faults.Ended) first p = absurd p
came_more asked sent fs old mid new e (Err ask_faults.Spent) first p = absurd p
came_more asked sent fs old mid new e (Err (ask_faults.Client fault)) first p =
    stands_more asked sent fs old mid new (Failed (ask_faults.Client fault)) e first p
came_more asked sent fs old mid new e (Err (ask_faults.Submit why)) first p =
    stands_more asked sent fs old mid new (Failed (ask_faults.Submit why)) e first p

-- This many bytes of a piece were fed, and the exchange awaits this step.
pub record SoFar (asked : Asked) (step : Step) (fed : List ℕ) (old new : Held) (now : Step) (sent : List Frame) : Type 0 where
  pub exchange : Exchange
  pub heard : Heard (exchange_now asked step old sent) old.client.held fed new.client exchange
  pub hears : is_awaiting (ask_phase_of now) ≡ true → Hears (exchange_now asked step old sent) old.client.held fed new.client.held exchange
  pub came : IsAtPhase asked sent old new (ask_phase_of now) exchange

-- before the first byte
pub none_fed : (asked : Asked) (step : Step) (old : Held) (sent : List Frame) → IsPartial old.client.held
    → SoFar asked step [] old old step sent
none_fed asked step old sent partial =
    let none : Hears (exchange_now asked step old sent) old.client.held [] old.client.held (exchange_now asked step old sent)
    = hears_none (exchange_now asked step old sent) old.client.held partial in
    record {
      exchange = exchange_now asked step old sent;
      heard = heard_of (exchange_now asked step old sent) old.client.held [] old.client (exchange_now asked step old sent) none refl;
      hears = λ w. none;
      came = record {
        frames = [];
        exchange = ap (λ l. exchange_now asked step old l) (sym (append-nil sent));
        written = Appends-nil old.written;
      };
    }

-- The result of feeding once more.
pub record FedMore (asked : Asked) (step : Step) (fed : List ℕ) (old new : Held) (r : Result Step AskFault) (sent : List Frame) : Type 0 where
  pub exchange : Exchange
  pub heard : Heard (exchange_now asked step old sent) old.client.held fed new.client exchange
  pub hears : is_awaiting exchange.ask_phase ≡ true → Hears (exchange_now asked step old sent) old.client.held fed new.client.held exchange
  pub came : ExchangeResult asked sent old new exchange r

pub fed_more : (asked : Asked) (step now : Step) (fed rest : List ℕ) (old mid new : Held) (r : Result Step AskFault) (sent : List Frame)
    → SoFar asked step fed old mid now sent → is_awaiting (ask_phase_of now) ≡ true → mid.client.state.fault ≡ None → AreBytes rest
    → IsAdvanced asked now rest mid new r
    → FedMore asked step (fed ++ take (bytes_taken mid.client.held rest) rest) old new r sent
fed_more asked step now fed rest old mid new r sent h waits healthy fits once =
    let more : List ℕ = take (bytes_taken mid.client.held rest) rest in
    let bytes : List ℕ = held_and_taken mid.client.held rest in
    let e : Exchange = h.exchange in
    let parsed_frame : Parsed = parsed bytes in
    let stands : e ≡ exchange_now asked now mid (sent ++ h.came.frames) = h.came.exchange in
    let whole : AreBytes (mid.client.held ++ more)
    = AreBytes-append mid.client.held more (h.hears waits).partial.bytes (AreBytes-take (bytes_taken mid.client.held rest) rest fits) in
    let came : ExchangeResult asked (sent ++ h.came.frames) mid new (after_parsed e parsed_frame) r
    = subst (λ x. ExchangeResult asked (sent ++ h.came.frames) mid new (after_parsed x parsed_frame) r) (sym stands) (once.came (sent ++ h.came.frames)) in
    let on : FedOn (exchange_now asked step old sent) old.client.held (fed ++ more) mid.client.held (after_parsed e parsed_frame) new.client
    = sight_on (exchange_now asked step old sent) old.client.held fed mid.client.held more e new.client parsed_frame (h.hears waits)
    (ap (λ x. is_awaiting x.ask_phase) stands ∙ waits) (ap (λ x. x.state.fault) stands ∙ healthy) whole refl (seen bytes whole) once.bytes
    (came_state asked (sent ++ h.came.frames) mid new (after_parsed e parsed_frame) r came) in
    record {
      exchange = after_parsed e parsed_frame;
      heard = on.heard;
      hears = on.hears;
      came = came_more asked sent h.came.frames old mid new (after_parsed e parsed_frame) r h.came.written came;
    }

-- a step that is reached
pub so_far_of : (asked : Asked) (step now : Step) (fed whole : List ℕ) (old new : Held) (sent : List Frame) → fed ≡ whole
    → FedMore asked step fed old new (Ok now) sent → SoFar asked step whole old new now sent
so_far_of asked step now fed whole old new sent is m =
    subst (λ x. SoFar asked step x old new now sent) is (record {
      exchange = m.exchange;
      heard = m.heard;
      hears = λ w. m.hears (ap (λ x. is_awaiting x.ask_phase) m.came.exchange ∙ w);
      came = m.came;
    })

-- the bytes that are left of a slice
pub slice_bytes : (k : ℕ) (piece : List ℕ) → AreBytes piece → AreBytes (take (length piece - k) (drop k piece))
slice_bytes k piece fits = AreBytes-take (length piece - k) (drop k piece) (AreBytes-drop k piece fits)

pub healthy_step : (s : State) (step : Step) → IsHealthy s (Ok step) → is_awaiting (ask_phase_of step) ≡ true → s.fault ≡ None
healthy_step s steps.Registering healthy w = healthy
healthy_step s steps.Opening healthy w = healthy
healthy_step s steps.Requesting healthy w = healthy
healthy_step s steps.Closing healthy w = healthy
healthy_step s steps.Completed healthy w = let no : false ≡ true = w in cc

pub front_more : (k n m : ℕ) (piece rest : List ℕ) → rest ≡ drop k piece → n ≡ m → take (k + n) piece ≡ take k piece ++ take m rest
front_more k n m piece rest same is =
    take-add k n piece ∙ ap (λ l. take k piece ++ take n l) (sym same) ∙ ap (λ j. take k piece ++ take j rest) is

-- a piece that ended in a fault
pub piece_of_fault : (asked : Asked) (step : Step) (piece : List ℕ) (k : ℕ) (rest : List ℕ) (old mid new : Held) (fault : AskFault)
    (r : Result Step AskFault) (sent : List Frame) → rest ≡ drop k piece → r ≡ Err fault
    → k < length piece → (0 < length rest → 0 < bytes_taken mid.client.held rest)
    → FedMore asked step (take k piece ++ take (bytes_taken mid.client.held rest) rest) old new (Err fault) sent
    → IsPieceFed asked step piece old new r sent
piece_of_fault asked step piece k rest old mid new fault r sent same is within some m =
    let n : ℕ = bytes_taken mid.client.held rest in
    let size : length rest ≡ length piece - k = ap length same ∙ length-drop k piece in
    let fed : 0 < n = some (omega arith) in
    subst (λ x. IsPieceFed asked step piece old new x sent) (sym is) (record {
      exchange = m.exchange;
      fed = take k piece ++ take n rest;
      rest = drop n rest;
      some = λ any. omega (arith, length-drop n rest);
      parts = sym (append_assoc (take k piece) (take n rest) (drop n rest) ∙ ap (λ l. take k piece ++ l) (take-append-drop n rest ∙ same)
          ∙ take-append-drop k piece);
      heard = m.heard;
      came = m.came;
      more = λ no. absurd no;
    })

-- a piece that was fed as far as it goes
pub piece_of_step : (asked : Asked) (step now : Step) (piece : List ℕ) (k : ℕ) (old new : Held) (sent : List Frame)
    → (is_awaiting (ask_phase_of now) ≡ true → length piece ≤ k) → (0 < length piece → 0 < k)
    → SoFar asked step (take k piece) old new now sent → IsPieceFed asked step piece old new (Ok now) sent
piece_of_step asked step now piece k old new sent past some h = record {
  exchange = h.exchange;
  fed = take k piece;
  rest = drop k piece;
  some = λ any. omega (arith, length-drop k piece, some any);
  parts = sym (take-append-drop k piece);
  heard = h.heard;
  came = h.came;
  more = λ w. (drop_all k piece (past w), h.hears w);
}
