-- Bytes arrive at the originator.
use Rattle.std.proofs.Common.{◌≡◌, ℕ, arith, length-append, Bool, true, false, if◌then◌else◌, Option, Some, None, List}
use Rattle.std.proofs.Common.{[], ◌∷◌, ◌++◌, length, take, drop, refl, ap, sym, ◌∙◌, subst, append_assoc, append-nil}
use Rattle.std.proofs.lemmas.List.{take-append-drop}
use Rattle.cip_commander.specs.CommanderRule.{outcome_of}
use Rattle.enip_reconnect.specs.Worlds.{awaits}
use Rattle.enip_reconnect.specs.Worlds as messages
use Rattle.enip_wire.specs.Frames.{Frame, frame, IsFrame}
use Rattle.enip_client.specs.Client.{ClientState, Fed, fed}
use Rattle.enip_client.specs.Frames.{request_frame}
use Rattle.enip_client.specs.Hears.{TurnResult, hears}
use Rattle.enip_reconnect.specs.Events.{Receive}
use Rattle.enip_reconnect.specs.World.{TcpConnection, Stream, Ends, stream_with, received, heard, replied, accepting}
use Rattle.enip_reconnect.proofs.ClientPieces.{keeps, hears_whole, Front, Whole, delivered, fed-nothing}
use Rattle.enip_reconnect.proofs.ClientSide.{HearsRegistered, hears-registered, HearsReplied, hears-replied}
use Rattle.enip_reconnect.proofs.ClientSide.{registered_frame, registered-framed, request-framed}
use Rattle.enip_reconnect.proofs.Flights.{left-over, take-none}
use Rattle.enip_reconnect.proofs.Steps.{Comes, StepComes, stays, message_run, on}
use Rattle.enip_reconnect.proofs.Tracking.{Phase, New, Registering, Registered, Free, Asking, Answered, Inquiring}
use Rattle.enip_reconnect.proofs.Tracking.{Informed, flight_in, back_in, ClientIs, Runs, Flies, IsOn, Tracks}
use Rattle.enip_reconnect.proofs.Tracking.{in_messages}

-- ---- nothing is heard

-- a client that holds other bytes is as far as before
still-is : (c : ClientState) (held : List ℕ) (peer : ℕ) (phase : Phase) → ClientIs c peer phase →
    ClientIs (record c { held = held }) peer phase
still-is c held peer New is =
    record { fresh = is.fresh; registered = is.registered; awaiting = is.awaiting; fault = is.fault }
still-is c held peer (Registering context) is = record { awaiting = is.awaiting; fault = is.fault; fits = is.fits }
still-is c held peer (Registered context) is = record { awaiting = is.awaiting; fault = is.fault; fits = is.fits }
still-is c held peer Free is = record {
  has = record { registered = is.has.registered; begun = is.has.begun; handle = is.has.handle };
  awaiting = is.awaiting;
  fault = is.fault;
}
still-is c held peer (Asking context position command) is = record {
  has = record { registered = is.has.registered; begun = is.has.begun; handle = is.has.handle };
  awaiting = is.awaiting;
  fault = is.fault;
  fits = is.fits;
}
still-is c held peer (Inquiring context request) is = record {
  has = record { registered = is.has.registered; begun = is.has.begun; handle = is.has.handle };
  awaiting = is.awaiting;
  fault = is.fault;
  fits = is.fits;
}
still-is c held peer (Informed context request answer) is = record {
  has = record { registered = is.has.registered; begun = is.has.begun; handle = is.has.handle };
  awaiting = is.awaiting;
  fault = is.fault;
  fits = is.fits;
}
still-is c held peer (Answered context position number message answer) is = record {
  has = record { registered = is.has.registered; begun = is.has.begun; handle = is.has.handle };
  awaiting = is.awaiting;
  fault = is.fault;
  fits = is.fits;
}

-- nothing is held, and nothing arrives
nothing-fed : (c : ClientState) (count : ℕ) (text : List ℕ) → c.state.fault ≡ None → c.held ++ text ≡ [] →
    fed c (take count text) ≡ keeps c (take count text)
nothing-fed c count [] fine none =
    ap (fed c) (take-none count) ∙ fed-nothing c fine (sym (append-nil c.held) ∙ none) ∙ ap (keeps c) (sym (take-none count))
nothing-fed c count (byte ∷ text) fine none = absurd (omega (arith, ap length none, length-append c.held (byte ∷ text)))

module _ (own : ℕ) (ends : Ends) (sent back : List (ℕ × List ℕ)) (count : ℕ) (connection : TcpConnection)
    (is : Tracks own (on ends (Some connection)) sent back) where
  abbrev text : List ℕ
  text = connection.in_flight

  abbrev piece : List ℕ
  piece = take count connection.in_flight

  -- both ends, if this is what the bytes do at the client
  abbrev after : Fed → Ends
  after fed = record (received (on ends (Some connection)) connection fed) { adapter = ends.adapter }

  abbrev ComesBy : Fed → Type 0
  ComesBy fed = Comes own (on ends (Some connection)) (after fed) [] [] sent back

  -- the stream, if it did not end, has what this phase says
  abbrev HasStream : Phase → Type 0
  HasStream phase = (stream : Stream) → stream_with connection.peer ends.streams ≡ Some stream →
      Flies own ends.adapter sent stream (flight_in phase)

  -- nothing is heard
  quiet : (phase : Phase) → HasStream phase → Runs back connection phase →
      (connection.client.held ++ piece) ++ drop (length piece) text ≡ back_in connection.peer phase →
      ComesBy (keeps connection.client piece)
  quiet phase flies runs stream = stays own _ _ _ sent back (record {
    sound = is.sound;
    connection = record {
      below = is.connection.below;
      phase = phase;
      runs = record {
        client = still-is connection.client (connection.client.held ++ piece) connection.peer phase runs.client;
        stream = stream;
        asked = runs.asked;
        was_back = runs.was_back;
      };
      flies = flies;
    };
    streams = is.streams;
  }) refl refl refl

  front-stream : (phase : Phase) → Runs back connection phase →
      (connection.client.held ++ piece) ++ drop (length piece) text ≡ back_in connection.peer phase
  front-stream phase runs =
      ap (λ left. (connection.client.held ++ piece) ++ left) (left-over count text)
      ∙ (append_assoc connection.client.held piece (drop count text)
      ∙ (ap (λ bytes. connection.client.held ++ bytes) (take-append-drop count text) ∙ runs.stream))

  -- nothing is on its way
  nothing-comes : (phase : Phase) → HasStream phase → Runs back connection phase → connection.client.state.fault ≡ None →
      back_in connection.peer phase ≡ [] → ComesBy (fed connection.client piece)
  nothing-comes phase flies runs fine none =
      subst ComesBy (sym (nothing-fed connection.client count text fine (runs.stream ∙ none)))
      (quiet phase flies runs (front-stream phase runs))

  -- a frame is on its way
  frame-comes : (phase : Phase) (f : Frame) → HasStream phase → Runs back connection phase →
      connection.client.state.fault ≡ None → IsFrame f → back_in connection.peer phase ≡ frame f →
      (drop (length piece) text ≡ [] → ComesBy (hears_whole connection.client piece f)) →
      ComesBy (fed connection.client piece)
  frame-comes phase f flies runs fine ok same whole =
      elim (delivered connection.client text count f fine ok (runs.stream ∙ same)) [
        | Front fed_is left parts ↦ subst ComesBy (sym fed_is) (quiet phase flies runs (front-stream phase runs))
        | Whole fed_is left ↦ subst ComesBy (sym fed_is) (whole left)
      ]

  -- the whole frame is heard so
  abbrev heard_by : TurnResult → Fed
  heard_by turned = record {
    client = record { state = turned.state; held = [] };
    taken = length piece;
    heard_event = turned.heard_event;
  }

  -- the connection after it
  abbrev left_on : TurnResult → TcpConnection
  left_on turned = record connection {
    client = record { state = turned.state; held = [] };
    in_flight = drop (length piece) text;
  }

  registered-comes : (context : ℕ) (turned : TurnResult) → HasStream (Registered context) → Runs back connection (Registered context) →
      drop (length piece) text ≡ [] → HearsRegistered connection.peer turned → ComesBy (heard_by turned)
  registered-comes context turned flies runs left reply =
      subst (λ event. Comes own (on ends (Some connection))
      (record (heard (on ends (Some connection)) (left_on turned) event) { adapter = ends.adapter }) [] [] sent back)
      (sym reply.heard_event) (stays own _ _ _ sent back (record {
        sound = is.sound;
        connection = record {
          below = is.connection.below;
          phase = Free;
          runs = record {
            client = reply.after;
            stream = left;
            asked = runs.asked;
            was_back = tt;
          };
          flies = flies;
        };
        streams = is.streams;
      }) refl refl refl)

  -- the connection after a reply
  abbrev free_on : TurnResult → TcpConnection
  free_on turned = record (left_on turned) { asked = None }

  -- the reply to another request: the commander does not receive it
  informed-comes : (context : ℕ) (request answer : List ℕ) (turned : TurnResult) →
      HasStream (Informed context request answer) → Runs back connection (Informed context request answer) →
      drop (length piece) text ≡ [] → HearsReplied connection.peer answer turned → ComesBy (heard_by turned)
  informed-comes context request answer turned flies runs left reply =
      subst (λ event. Comes own (on ends (Some connection))
      (record (heard (on ends (Some connection)) (left_on turned) event) { adapter = ends.adapter }) [] [] sent back)
      (sym reply.heard_event)
      (subst (λ asked. Comes own (on ends (Some connection))
      (record (replied (on ends (Some (free_on turned))) asked answer) { adapter = ends.adapter }) [] [] sent back)
      (sym runs.asked) (stays own _ _ _ sent back (record {
        sound = is.sound;
        connection = record {
          below = is.connection.below;
          phase = Free;
          runs = record { client = reply.after; stream = left; asked = refl; was_back = tt };
          flies = flies;
        };
        streams = is.streams;
      }) refl refl refl))

  answered-comes : (context position number : ℕ) (message answer : List ℕ) (turned : TurnResult) →
      HasStream (Answered context position number message answer) →
      Runs back connection (Answered context position number message answer) →
      drop (length piece) text ≡ [] → HearsReplied connection.peer answer turned → ComesBy (heard_by turned)
  answered-comes context position number message answer turned flies runs left reply =
      subst (λ event. Comes own (on ends (Some connection))
      (record (heard (on ends (Some connection)) (left_on turned) event) { adapter = ends.adapter }) [] [] sent back)
      (sym reply.heard_event)
      (subst (λ asked. Comes own (on ends (Some connection))
      (record (replied (on ends (Some (free_on turned))) asked answer) { adapter = ends.adapter }) [] [] sent back)
      (sym runs.asked) (by_test (awaits ends.commander number) refl))
    where
      freed : IsOn own ends.adapter sent back ends.streams (free_on turned)
      freed = record {
        below = is.connection.below;
        phase = Free;
        runs = record { client = reply.after; stream = left; asked = refl; was_back = tt };
        flies = flies;
      }

      image : (takes : Bool) → awaits ends.commander number ≡ takes →
          message_run (in_messages (on ends (Some connection)) sent back) (messages.Back position ∷ [])
          ≡ (if takes then messages.heard (in_messages (on ends (Some connection)) sent back) (outcome_of ends.commander answer)
          else in_messages (on ends (Some connection)) sent back)
      image takes e =
          ap (messages.ends_back (in_messages (on ends (Some connection)) sent back)) runs.was_back.at
          ∙ ap (λ test. if test then messages.heard (in_messages (on ends (Some connection)) sent back) (outcome_of ends.commander answer)
          else in_messages (on ends (Some connection)) sent back) e

      by_test : (takes : Bool) → awaits ends.commander number ≡ takes →
          Comes own (on ends (Some connection)) (record (
          if takes then accepting (on ends (Some (free_on turned))) (outcome_of ends.commander answer)
          else on ends (Some (free_on turned))) { adapter = ends.adapter }) [] [] sent back
      by_test true e = record {
        more = messages.Back position ∷ [];
        new_sent = sent;
        new_back = back;
        tracks = record { sound = is.sound; connection = freed; streams = is.streams };
        image = image true e;
        reached = refl;
        decided = refl;
        given = sym (append-nil ends.given);
        others = (tt, tt);
      }
      by_test false e = record {
        more = messages.Back position ∷ [];
        new_sent = sent;
        new_back = back;
        tracks = record { sound = is.sound; connection = freed; streams = is.streams };
        image = image false e;
        reached = refl;
        decided = refl;
        given = sym (append-nil ends.given);
        others = (tt, tt);
      }

  comes : (phase : Phase) → HasStream phase → Runs back connection phase → ComesBy (fed connection.client piece)
  comes New flies runs = nothing-comes New flies runs runs.client.fault refl
  comes (Registering context) flies runs = nothing-comes (Registering context) flies runs runs.client.fault refl
  comes (Registered context) flies runs =
      frame-comes (Registered context) (registered_frame connection.peer context) flies runs runs.client.fault
      (registered-framed connection.peer context is.connection.below) refl (λ left.
      registered-comes context (hears connection.client.state (registered_frame connection.peer context)) flies runs left
      (hears-registered connection.client connection.peer context runs.client))
  comes Free flies runs = nothing-comes Free flies runs runs.client.fault refl
  comes (Asking context position command) flies runs =
      nothing-comes (Asking context position command) flies runs runs.client.fault refl
  comes (Answered context position number message answer) flies runs =
      frame-comes (Answered context position number message answer) (request_frame connection.peer context answer) flies
      runs runs.client.fault
      (request-framed connection.peer context answer is.connection.below runs.was_back.taken.within) refl (λ left.
      answered-comes context position number message answer
      (hears connection.client.state (request_frame connection.peer context answer)) flies runs left
      (hears-replied connection.client connection.peer context message answer runs.client runs.was_back.taken))
  comes (Inquiring context request) flies runs =
      nothing-comes (Inquiring context request) flies runs runs.client.fault refl
  comes (Informed context request answer) flies runs =
      frame-comes (Informed context request answer) (request_frame connection.peer context answer) flies runs
      runs.client.fault (request-framed connection.peer context answer is.connection.below runs.was_back.within) refl (λ left.
      informed-comes context request answer
      (hears connection.client.state (request_frame connection.peer context answer)) flies runs left
      (hears-replied connection.client connection.peer context request answer runs.client runs.was_back))

pub receives : (own : ℕ) (ends : Ends) (sent back : List (ℕ × List ℕ)) (count : ℕ) (connection : Option TcpConnection) →
    Tracks own (on ends connection) sent back → StepComes own (on ends connection) (Receive count) sent back
receives own ends sent back count None is = stays own _ _ _ sent back is refl refl refl
receives own ends sent back count (Some connection) is =
    comes own ends sent back count connection is is.connection.phase is.connection.flies is.connection.runs
