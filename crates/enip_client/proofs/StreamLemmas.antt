-- What is taken of the stream are its frames, followed by the bytes held.
use Rattle.std.proofs.Common.{◌≡◌, ℕ, Option, Some, None, List, [], ◌∷◌, ◌++◌, take, refl, sym, ap, subst, ◌∙◌}
use Rattle.std.proofs.Common.{append-nil, lit<}
use Rattle.std.specs.List.{flat_map, AllByRecursion}
use Rattle.cip_bytes.specs.Numbers.{AreBytes}
use Rattle.cip_bytes.proofs.Bytes.{AreBytes-take, AreBytes-append}
use Rattle.enip_wire.specs.Frames.{Frame, frame, IsFrame}
use Rattle.enip_wire.specs.Stream.{Cut, Parsed, bytes_taken, held_and_taken, parsed, cleared}
use Rattle.enip_wire.specs.Stream.Parsed.{Incomplete, WholeFrame, TooLongHeader}
use Rattle.enip_wire.proofs.RunningLemmas.{IsRunning, running-empty, running-taken}
use Rattle.enip_wire.proofs.ParsedLemmas.{HasNone, none-running, none-long, seen-frame, seen-long, then-cut}
use Rattle.enip_client.specs.declared.fault.ClientFault.{ClientFault}
use Rattle.enip_client.specs.declared.state.State.{State}
use Rattle.enip_client.specs.declared.wants.Wants.{Wants}
use Rattle.enip_client.specs.Client.{ClientState, new_client, fed_unless}
use Rattle.enip_client.specs.Hears.{hears_parsed}
use Rattle.enip_client.specs.Runs.{Call, Event, Act, Feed, Acted, Framed, Long}
use Rattle.enip_client.specs.Runs.{after_call, after_calls, events_of_parsed, events_of_piece, events_of_call}
use Rattle.enip_client.specs.Runs.{events_of_calls}
use Rattle.enip_client.specs.Runs.{frames_of_events, taken_by_call, taken_by_calls, IsOfBytes}
use Rattle.enip_client.proofs.ActionLemmas.{IsAction, Stays, Asks, Sends, is-action}

-- Unless a fault lasts, what is held waits for more.
abbrev pub IsReady : ClientState → Type 0
IsReady c = c.state.fault ≡ None → IsRunning c.held

fault-kept : {s t : State} {what : Option _} {lent : Option Frame} → IsAction s what lent t → t.fault ≡ s.fault
fault-kept Stays = refl
fault-kept (Asks w f connection_state e free numbered) = refl
fault-kept (Sends f registration connection_state originator e) = refl

ready-parsed_frame : (s : State) (held piece : List ℕ) (x : Parsed) → parsed (held_and_taken held piece) ≡ x → IsRunning held
    → (hears_parsed s x).state.fault ≡ None → IsRunning (cleared x (held_and_taken held piece))
ready-parsed_frame s held piece Incomplete seen running well = running-taken held piece running seen
ready-parsed_frame s held piece (WholeFrame f) seen running well = running-empty
ready-parsed_frame s held piece (TooLongHeader h) seen running well = cc

pub ready-call : (c : ClientState) (call : Call) → IsReady c → IsReady (after_call c call)
ready-call c (Act a) ready = λ well. ready (sym (fault-kept (is-action c.state a)) ∙ well)
ready-call c (Feed piece) ready = go c.state.fault refl
  where
    go : (o : Option ClientFault) → c.state.fault ≡ o → IsReady (fed_unless c piece o).client
    go None e = ready-parsed_frame c.state c.held piece (parsed (held_and_taken c.held piece)) refl (ready e)
    go (Some fault) e = ready

pub ready-calls : (c : ClientState) (calls : List Call) → IsReady c → IsReady (after_calls c calls)
ready-calls c [] ready = ready
ready-calls c (call ∷ calls) ready = ready-calls (after_call c call) calls (ready-call c call ready)

pub ready-new : (wants : Wants) → IsReady (new_client wants)
ready-new wants = λ well. running-empty

-- These bytes are held, and begin with no whole frame.
record IsHeld (bytes : List ℕ) : Type 0 where
  fits : AreBytes bytes
  none : HasNone bytes

AreBytes-none : AreBytes []
AreBytes-none i = lit< tt

none-held : IsHeld []
none-held = record { fits = AreBytes-none; none = none-running [] running-empty }

-- What a call takes of the stream are frames, followed by what is held after it.
record Advances (bytes taken : List ℕ) (events : List Event) (left : List ℕ) : Type 0 where
  at : IsHeld left
  parts : bytes ++ taken ≡ flat_map frame (frames_of_events events) ++ left
  each : AllByRecursion IsFrame (frames_of_events events)

advances-parsed_frame : (held piece : List ℕ) (x : Parsed) → parsed (held_and_taken held piece) ≡ x → IsRunning held → IsHeld held
    → AreBytes piece
    → Advances held (take (bytes_taken held piece) piece) (events_of_parsed x) (cleared x (held_and_taken held piece))
advances-parsed_frame held piece x seen running at fits = go x seen
  where
    whole : AreBytes (held_and_taken held piece)
    whole = AreBytes-append held (take (bytes_taken held piece) piece) at.fits
        (AreBytes-take (bytes_taken held piece) piece fits)

    go : (x : Parsed) → parsed (held_and_taken held piece) ≡ x
        → Advances held (take (bytes_taken held piece) piece) (events_of_parsed x) (cleared x (held_and_taken held piece))
    go Incomplete seen = record {
      at = record { fits = whole; none = none-running (held_and_taken held piece) (running-taken held piece running seen) };
      parts = refl;
      each = tt;
    }
    go (WholeFrame f) seen =
        let is : IsFrame f × (held_and_taken held piece ≡ frame f) = seen-frame (held_and_taken held piece) f whole seen in
        record {
          at = none-held;
          parts = is.1 ∙ (sym (append-nil (frame f)) ∙ sym (append-nil (frame f ++ [])));
          each = (is.0, tt);
        }
    go (TooLongHeader h) seen = record {
      at = record { fits = whole; none = none-long (held_and_taken held piece) (seen-long (held_and_taken held piece) h seen) };
      parts = refl;
      each = tt;
    }

advances-call : (c : ClientState) (call : Call) → IsReady c → IsHeld c.held → IsOfBytes call
    → Advances c.held (taken_by_call c call) (events_of_call c call) (after_call c call).held
advances-call c (Act a) ready at fits = record { at = at; parts = append-nil c.held; each = tt }
advances-call c (Feed piece) ready at fits = go c.state.fault refl
  where
    go : (o : Option ClientFault) → c.state.fault ≡ o
        → Advances c.held (take (fed_unless c piece o).taken piece) (events_of_piece c.held piece o)
        (fed_unless c piece o).client.held
    go None e = advances-parsed_frame c.held piece (parsed (held_and_taken c.held piece)) refl (ready e) at fits
    go (Some fault) e = record { at = at; parts = append-nil c.held; each = tt }

frames-append : (es fs : List Event) → frames_of_events (es ++ fs) ≡ frames_of_events es ++ frames_of_events fs
frames-append [] fs = refl
frames-append (Acted a ∷ es) fs = frames-append es fs
frames-append (Framed f ∷ es) fs = ap (λ gs. f ∷ gs) (frames-append es fs)
frames-append (Long h ∷ es) fs = frames-append es fs

cut-calls : (calls : List Call) (c : ClientState) → IsReady c → IsHeld c.held → AllByRecursion IsOfBytes calls
    → Cut (c.held ++ taken_by_calls c calls) (frames_of_events (events_of_calls c calls)) (after_calls c calls).held
cut-calls [] c ready at fits = record { parts = append-nil c.held; each = tt; no_more = at.none }
cut-calls (call ∷ calls) c ready at fits =
    let step : Advances c.held (taken_by_call c call) (events_of_call c call) (after_call c call).held
    = advances-call c call ready at fits.0 in
    subst (λ fs. Cut (c.held ++ (taken_by_call c call ++ taken_by_calls (after_call c call) calls)) fs
    (after_calls (after_call c call) calls).held)
    (sym (frames-append (events_of_call c call) (events_of_calls (after_call c call) calls)))
    (then-cut c.held (taken_by_call c call) (taken_by_calls (after_call c call) calls) (after_call c call).held _ _ _
    step.parts step.each (cut-calls calls (after_call c call) (ready-call c call ready) step.at fits.1))

pub cut-of-calls : (wants : Wants) (calls : List Call) → AllByRecursion IsOfBytes calls
    → Cut (taken_by_calls (new_client wants) calls) (frames_of_events (events_of_calls (new_client wants) calls))
    (after_calls (new_client wants) calls).held
cut-of-calls wants calls fits = cut-calls calls (new_client wants) (ready-new wants) none-held fits
