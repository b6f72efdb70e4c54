-- How the stream is cut does not matter: pieces do what their bytes do one by one.
use Rattle.std.proofs.Common.{◌≡◌, ℕ, zero, suc, ◌-◌, ◌≤◌, inl, inr, Option, Some, None, List, [], ◌∷◌, ◌++◌, length}
use Rattle.std.proofs.Common.{take, drop, refl, sym, ap, subst, ◌∙◌, arith, append_assoc, length-drop}
use Rattle.std.specs.List.{concat}
use Rattle.std.proofs.lemmas.Bool.{cases_lt}
use Rattle.enip_wire.specs.Stream.{bytes_taken, held_and_taken, parsed, cleared}
use Rattle.enip_wire.proofs.RunningLemmas.{IsRunning, running-next, parsed-running, bytes_taken-one, bytes_taken-some}
use Rattle.enip_wire.proofs.RunningLemmas.{bytes_taken-next}
use Rattle.enip_client.specs.declared.fault.ClientFault.{ClientFault}
use Rattle.enip_client.specs.declared.state.State.{State}
use Rattle.enip_client.specs.declared.wants.Wants.{Wants}
use Rattle.enip_client.specs.Client.{ClientState, Fed, new_client, fed, fed_unless, fed_parsed}
use Rattle.enip_client.specs.Hears.{HeardEvent, hears_parsed}
use Rattle.enip_client.specs.Hears.HeardEvent.{Nothing}
use Rattle.enip_client.specs.Runs.{Call, Feed, after_calls, heard_events_before, heard_in, FeedsPieces}
use Rattle.enip_client.specs.Runs.FeedsPieces.{Ended, Taken, Continued, Dropped}
use Rattle.enip_client.proofs.FaultLemmas.{fed-fault}
use Rattle.enip_client.proofs.RunLemmas.{heard_event-more}
use Rattle.enip_client.proofs.StreamLemmas.{IsReady, ready-call, ready-calls, ready-new}

abbrev byte_fed : ClientState → ℕ → Fed
byte_fed c b = fed c (b ∷ [])

-- The client after bytes that arrive one by one, and what is heard in them.
abbrev after_bytes : ClientState → List ℕ → ClientState
after_bytes c [] = c
after_bytes c (b ∷ bs) = after_bytes (byte_fed c b).client bs

abbrev told : ClientState → List ℕ → List HeardEvent
told c [] = []
told c (b ∷ bs) = heard_events_before (byte_fed c b).heard_event (told (byte_fed c b).client bs)

after-append : (c : ClientState) (xs ys : List ℕ) → after_bytes c (xs ++ ys) ≡ after_bytes (after_bytes c xs) ys
after-append c [] ys = refl
after-append c (x ∷ xs) ys = after-append (byte_fed c x).client xs ys

told-append : (c : ClientState) (xs ys : List ℕ) → told c (xs ++ ys) ≡ told c xs ++ told (after_bytes c xs) ys
told-append c [] ys = refl
told-append c (x ∷ xs) ys =
    ap (heard_events_before (byte_fed c x).heard_event) (told-append (byte_fed c x).client xs ys)
    ∙ heard_event-more (byte_fed c x).heard_event (told (byte_fed c x).client xs) _

-- Once a fault lasts, bytes do nothing.
after-fault : (c : ClientState) (fault : ClientFault) (bytes : List ℕ) → c.state.fault ≡ Some fault
    → after_bytes c bytes ≡ c
after-fault c fault [] lasts = refl
after-fault c fault (b ∷ bs) lasts =
    ap (λ (f : Fed). after_bytes f.client bs) (fed-fault c fault (b ∷ []) lasts) ∙ after-fault c fault bs lasts

told-fault : (c : ClientState) (fault : ClientFault) (bytes : List ℕ) → c.state.fault ≡ Some fault → told c bytes ≡ []
told-fault c fault [] lasts = refl
told-fault c fault (b ∷ bs) lasts =
    ap (λ (f : Fed). heard_events_before f.heard_event (told f.client bs)) (fed-fault c fault (b ∷ []) lasts)
    ∙ told-fault c fault bs lasts

-- A piece, by all that has arrived of the frame.
abbrev shown : State → List ℕ → ℕ → Fed
shown s bytes n = fed_parsed s (cleared (parsed bytes) bytes) n (hears_parsed s (parsed bytes))

fed-shown : (c : ClientState) (piece bytes : List ℕ) (n : ℕ) → c.state.fault ≡ None → held_and_taken c.held piece ≡ bytes
    → bytes_taken c.held piece ≡ n → fed c piece ≡ shown c.state bytes n
fed-shown c piece bytes n well joined number =
    ap (fed_unless c piece) well
    ∙ (ap (λ x. shown c.state x (bytes_taken c.held piece)) joined ∙ ap (shown c.state bytes) number)

joined-at : (held piece : List ℕ) (n : ℕ) → bytes_taken held piece ≡ n → held_and_taken held piece ≡ held ++ take n piece
joined-at held piece n number = ap (λ k. held ++ take k piece) number

-- Bytes one by one, after a piece.
record Steps (c : ClientState) (bytes : List ℕ) (f : Fed) : Type 0 where
  after : after_bytes c bytes ≡ after_bytes f.client (drop f.taken bytes)
  heard : told c bytes ≡ heard_events_before f.heard_event (told f.client (drop f.taken bytes))

-- A piece of which one byte is taken.
one-step : (c : ClientState) (b : ℕ) (bs : List ℕ) → c.state.fault ≡ None → IsRunning c.held
    → bytes_taken c.held (b ∷ bs) ≡ 1 → Steps c (b ∷ bs) (fed c (b ∷ bs))
one-step c b bs well running number =
    let first : fed c (b ∷ []) ≡ shown c.state (c.held ++ b ∷ []) 1
    = fed-shown c (b ∷ []) (c.held ++ b ∷ []) 1 well (joined-at c.held (b ∷ []) 1 (bytes_taken-one c.held b running))
    (bytes_taken-one c.held b running) in
    let all : fed c (b ∷ bs) ≡ shown c.state (c.held ++ b ∷ []) 1
    = fed-shown c (b ∷ bs) (c.held ++ b ∷ []) 1 well (joined-at c.held (b ∷ bs) 1 number) number in
    subst (Steps c (b ∷ bs)) (sym all) (record {
      after = ap (λ (f : Fed). after_bytes f.client bs) first;
      heard = ap (λ (f : Fed). heard_events_before f.heard_event (told f.client bs)) first;
    })

abbrev waiting : ClientState → ℕ → ClientState
waiting c b = record { state = c.state; held = c.held ++ b ∷ [] }

-- A first byte that completes nothing.
first-quiet : (c : ClientState) (b : ℕ) → c.state.fault ≡ None → IsRunning c.held → IsRunning (c.held ++ b ∷ [])
    → fed c (b ∷ []) ≡ record { client = waiting c b; taken = 1; heard_event = Nothing }
first-quiet c b well running on =
    fed-shown c (b ∷ []) (c.held ++ b ∷ []) 1 well (joined-at c.held (b ∷ []) 1 (bytes_taken-one c.held b running))
    (bytes_taken-one c.held b running)
    ∙ ap (λ x. fed_parsed c.state (cleared x (c.held ++ b ∷ [])) 1 (hears_parsed c.state x))
    (parsed-running (c.held ++ b ∷ []) on)

next-step : (c : ClientState) (b x : ℕ) (xs : List ℕ) (n : ℕ) → c.state.fault ≡ None → IsRunning c.held
    → bytes_taken c.held (b ∷ x ∷ xs) ≡ suc n → IsRunning (c.held ++ b ∷ [])
    → Steps (waiting c b) (x ∷ xs) (fed (waiting c b) (x ∷ xs))
    → Steps c (b ∷ x ∷ xs) (fed c (b ∷ x ∷ xs))
next-step c b x xs n well running number on rest =
    let bytes : List ℕ = (c.held ++ b ∷ []) ++ take n (x ∷ xs) in
    let more : bytes_taken (c.held ++ b ∷ []) (x ∷ xs) ≡ n = bytes_taken-next c.held b (x ∷ xs) ∙ omega arith in
    let first : fed c (b ∷ []) ≡ record { client = waiting c b; taken = 1; heard_event = Nothing }
    = first-quiet c b well running on in
    let second : fed (waiting c b) (x ∷ xs) ≡ shown c.state ((c.held ++ b ∷ []) ++ take n (x ∷ xs)) n
    = fed-shown (waiting c b) (x ∷ xs) ((c.held ++ b ∷ []) ++ take n (x ∷ xs)) n well
    (joined-at (c.held ++ b ∷ []) (x ∷ xs) n more) more in
    let all : fed c (b ∷ x ∷ xs) ≡ shown c.state ((c.held ++ b ∷ []) ++ take n (x ∷ xs)) (suc n)
    = fed-shown c (b ∷ x ∷ xs) ((c.held ++ b ∷ []) ++ take n (x ∷ xs)) (suc n) well
    (joined-at c.held (b ∷ x ∷ xs) (suc n) number ∙ sym (append_assoc c.held (b ∷ []) (take n (x ∷ xs)))) number in
    let then : Steps (waiting c b) (x ∷ xs) (shown c.state ((c.held ++ b ∷ []) ++ take n (x ∷ xs)) n)
    = subst (Steps (waiting c b) (x ∷ xs)) second rest in
    subst (Steps c (b ∷ x ∷ xs)) (sym all) (record {
      after = ap (λ (f : Fed). after_bytes f.client (x ∷ xs)) first ∙ then.after;
      heard = ap (λ (f : Fed). heard_events_before f.heard_event (told f.client (x ∷ xs))) first ∙ then.heard;
    })

steps : (bs : List ℕ) (c : ClientState) (b : ℕ) → c.state.fault ≡ None → IsRunning c.held
    → Steps c (b ∷ bs) (fed c (b ∷ bs))
steps [] c b well running = one-step c b [] well running (bytes_taken-one c.held b running)
steps (x ∷ xs) c b well running =
    let some : 1 ≤ bytes_taken c.held (b ∷ x ∷ xs) = bytes_taken-some c.held b (x ∷ xs) running in
    elim (cases_lt (bytes_taken c.held (b ∷ x ∷ xs)) 2) [
      | inl one ↦ one-step c b (x ∷ xs) well running (omega (arith, one, some))
      | inr two ↦
          let on : IsRunning (c.held ++ b ∷ []) = running-next c.held b (x ∷ xs) running two in
          next-step c b x xs (bytes_taken c.held (b ∷ x ∷ xs) - 1) well running (omega (arith, some)) on
          (steps xs (waiting c b) x well on)
    ]

-- Pieces that are fed do what their bytes do one by one.
record IsPoured (c last : ClientState) (bytes : List ℕ) (heard_event : List HeardEvent) : Type 0 where
  client : last ≡ after_bytes c bytes
  heard : heard_in heard_event ≡ told c bytes

went-on : (c last : ClientState) (b : ℕ) (bs more : List ℕ) (heard_event : List HeardEvent) → c.state.fault ≡ None → IsRunning c.held
    → IsPoured (fed c (b ∷ bs)).client last (drop (fed c (b ∷ bs)).taken (b ∷ bs) ++ more) heard_event
    → IsPoured c last ((b ∷ bs) ++ more) ((fed c (b ∷ bs)).heard_event ∷ heard_event)
went-on c last b bs more heard_event well running rest =
    let step : Steps c (b ∷ bs) (fed c (b ∷ bs)) = steps bs c b well running in
    let left : List ℕ = drop (fed c (b ∷ bs)).taken (b ∷ bs) in
    record {
      client = rest.client
          ∙ (after-append (fed c (b ∷ bs)).client (drop (fed c (b ∷ bs)).taken (b ∷ bs)) more
          ∙ (ap (λ d. after_bytes d more) (sym step.after) ∙ sym (after-append c (b ∷ bs) more)));
      heard = ap (heard_events_before (fed c (b ∷ bs)).heard_event)
          (rest.heard ∙ told-append (fed c (b ∷ bs)).client (drop (fed c (b ∷ bs)).taken (b ∷ bs)) more)
          ∙ (heard_event-more (fed c (b ∷ bs)).heard_event (told (fed c (b ∷ bs)).client (drop (fed c (b ∷ bs)).taken (b ∷ bs))) _
          ∙ (ap (λ xs. xs ++ told (after_bytes (fed c (b ∷ bs)).client (drop (fed c (b ∷ bs)).taken (b ∷ bs))) more)
          (sym step.heard)
          ∙ (ap (λ d. told c (b ∷ bs) ++ told d more) (sym step.after) ∙ sym (told-append c (b ∷ bs) more))));
    }

poured : {c last : ClientState} {pieces : List (List ℕ)} {heard_event : List HeardEvent} → FeedsPieces c pieces heard_event last → IsReady c
    → IsPoured c last (concat pieces) heard_event
poured Ended ready = record { client = refl; heard = refl }
poured (Taken pours) ready = poured pours ready
poured (Continued {c} {last} {b} {bs} {pieces} {heard_event} well pours) ready =
    went-on c last b bs (concat pieces) heard_event well (ready well) (poured pours (ready-call c (Feed (b ∷ bs)) ready))
poured (Dropped {c} {fault} {b} {bs} {pieces} lasts) ready = record {
  client = sym (after-fault c fault ((b ∷ bs) ++ concat pieces) lasts);
  heard = sym (told-fault c fault ((b ∷ bs) ++ concat pieces) lasts);
}

module _ (wants : Wants) (calls : List Call) where
  reached : IsReady (after_calls (new_client wants) calls)
  reached = ready-calls (new_client wants) calls (ready-new wants)

  pub cuts-heard_event : (pieces others : List (List ℕ)) (heard_event heard : List HeardEvent) (last end : ClientState)
      → concat pieces ≡ concat others → FeedsPieces (after_calls (new_client wants) calls) pieces heard_event last
      → FeedsPieces (after_calls (new_client wants) calls) others heard end → heard_in heard_event ≡ heard_in heard
  cuts-heard_event pieces others heard_event heard last end same p q =
      (poured p reached).heard
      ∙ (ap (told (after_calls (new_client wants) calls)) same ∙ sym (poured q reached).heard)

  pub cuts-client : (pieces others : List (List ℕ)) (heard_event heard : List HeardEvent) (last end : ClientState)
      → concat pieces ≡ concat others → FeedsPieces (after_calls (new_client wants) calls) pieces heard_event last
      → FeedsPieces (after_calls (new_client wants) calls) others heard end → last ≡ end
  cuts-client pieces others heard_event heard last end same p q =
      (poured p reached).client
      ∙ (ap (after_bytes (after_calls (new_client wants) calls)) same ∙ sym (poured q reached).client)

-- Every list of pieces can be fed.
record HasPour (c : ClientState) (pieces : List (List ℕ)) : Type 0 where
  heard_event : List HeardEvent
  last : ClientState
  pours : FeedsPieces c pieces heard_event last

taken-fed : (c : ClientState) (b : ℕ) (bs : List ℕ) → c.state.fault ≡ None → IsRunning c.held
    → 1 ≤ (fed c (b ∷ bs)).taken
taken-fed c b bs well running =
    subst (λ n. 1 ≤ n) (sym (ap (λ o. (fed_unless c (b ∷ bs) o).taken) well)) (bytes_taken-some c.held b bs running)

pour-piece : (most : ℕ) (piece : List ℕ) (pieces : List (List ℕ)) (c : ClientState) → length piece ≤ most → IsReady c
    → ((d : ClientState) → IsReady d → HasPour d pieces) → HasPour c (piece ∷ pieces)
pour-piece most [] pieces c within ready later =
    let rest : HasPour c pieces = later c ready in
    record { heard_event = rest.heard_event; last = rest.last; pours = Taken rest.pours }
pour-piece zero (b ∷ bs) pieces c within ready later = absurd (omega arith)
pour-piece (suc most) (b ∷ bs) pieces c within ready later =
    go c.state.fault refl
    (λ less. pour-piece most (drop (fed c (b ∷ bs)).taken (b ∷ bs)) pieces (fed c (b ∷ bs)).client less
    (ready-call c (Feed (b ∷ bs)) ready) later)
  where
    go : (o : Option ClientFault) → c.state.fault ≡ o
        → (length (drop (fed c (b ∷ bs)).taken (b ∷ bs)) ≤ most
        → HasPour (fed c (b ∷ bs)).client (drop (fed c (b ∷ bs)).taken (b ∷ bs) ∷ pieces))
        → HasPour c ((b ∷ bs) ∷ pieces)
    go (Some fault) lasts next = record { heard_event = []; last = c; pours = Dropped lasts }
    go None well next =
        let some : 1 ≤ (fed c (b ∷ bs)).taken = taken-fed c b bs well (ready well) in
        let size : length (drop (fed c (b ∷ bs)).taken (b ∷ bs)) ≡ length (b ∷ bs) - (fed c (b ∷ bs)).taken
        = length-drop (fed c (b ∷ bs)).taken (b ∷ bs) in
        let rest : HasPour (fed c (b ∷ bs)).client (drop (fed c (b ∷ bs)).taken (b ∷ bs) ∷ pieces)
        = next (omega (arith, some, size, within)) in
        record { heard_event = (fed c (b ∷ bs)).heard_event ∷ rest.heard_event; last = rest.last; pours = Continued well rest.pours }

pour-pieces : (pieces : List (List ℕ)) (c : ClientState) → IsReady c → HasPour c pieces
pour-pieces [] c ready = record { heard_event = []; last = c; pours = Ended }
pour-pieces (piece ∷ pieces) c ready = pour-piece (length piece) piece pieces c (omega arith) ready (pour-pieces pieces)

pub some-pour : (wants : Wants) (calls : List Call) (pieces : List (List ℕ))
    → (heard_event : List HeardEvent) × ((last : ClientState) × FeedsPieces (after_calls (new_client wants) calls) pieces heard_event last)
some-pour wants calls pieces =
    let p : HasPour (after_calls (new_client wants) calls) pieces
    = pour-pieces pieces (after_calls (new_client wants) calls)
    (ready-calls (new_client wants) calls (ready-new wants)) in
    (p.heard_event, (p.last, p.pours))
