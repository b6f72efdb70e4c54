-- A release of one wire.
use Rattle.std.proofs.Common.{◌≡◌, ◌<◌, ℕ, List, [], ◌++◌, length, take, drop, Bool, true, false, Option, None}
use Rattle.std.proofs.Common.{refl, sym, ap, subst, ◌∙◌, take-append-drop}
use Rattle.std.proofs.KnownBytes.{Appends-nil}
use Rattle.std.specs.Io.KnownBytes.{Appends}
use Rattle.enip_server.specs.declared.held_wire.HeldWire.{HeldWire}
use Rattle.enip_server.specs.declared.peer_io.Turn.{Turn}
use Rattle.enip_server.specs.declared.peer_io.Turn.TheVariants.{More, UntilReadable, UntilWritable, Finished}
use Rattle.enip_server.specs.declared.wire_counts.WireCounts.{WireCounts}
use Rattle.enip_server.specs.contracts.peer_io.Turn.{the_type}
use Rattle.enip_server.specs.Held.{IsReleased, Stops}
use Rattle.enip_server.specs.PeerStates.{IsCutShort}
use Rattle.enip_server.specs.Wires.{KnownCalls}
use Rattle.enip_server.proofs.FlushLemmas.{waits_here}
use denote.Enum.Bare.{sameb}

-- how a write that is cut short went
stops_by : (turn : Turn) (failed : Bool) (old new : WireCounts) → failed ≡ sameb the_type turn Finished
    → IsCutShort None turn old new → Stops failed old new
stops_by More failed old new is cut = absurd (cut.0 refl)
stops_by UntilReadable failed old new is cut = absurd cut
stops_by UntilWritable failed old new is cut =
    let here : failed ≡ false = is in subst (λ b. Stops b old new) (sym here) cut
stops_by Finished failed old new is cut =
    let here : failed ≡ true = is in subst (λ b. Stops b old new) (sym here) cut

module _ {W : Type 0} (left written : W → Option (List ℕ)) (known : W → Option KnownCalls) (counts : W → WireCounts) where
  -- the wire inside has failed before
  pub released_not : (old : HeldWire W) → old.has_failed ≡ true → IsReleased left written known counts old old false
  released_not old failed = record {
    gone = [];
    front = refl;
    sent = Appends-nil (written old.wire);
    unread = refl;
    reads = refl;
    failed = λ _. (refl, refl);
    all = λ goes _. cc;
    rest = λ goes _. cc;
  }

  -- the wire inside did not take all
  pub released_some : (old new : HeldWire W) (size : ℕ) (turn : Turn) (failed : Bool) → old.has_failed ≡ false
      → new ≡ record old { wire = new.wire; held = new.held; has_failed = failed } → new.held ≡ drop size old.held
      → size < length old.held → Appends (written old.wire) (written new.wire) (take size old.held)
      → left new.wire ≡ left old.wire → known new.wire ≡ known old.wire
      → (counts new.wire).reads ≡ (counts old.wire).reads → failed ≡ sameb the_type turn Finished
      → IsCutShort None turn (counts old.wire) (counts new.wire) → IsReleased left written known counts old new failed
  released_some old new size turn failed goes same rest less appends unread not_shut reads is cut = record {
    gone = take size old.held;
    front = sym (take-append-drop size old.held) ∙ ap (λ xs. take size old.held ++ xs) (sym rest);
    sent = appends;
    unread = unread;
    reads = reads;
    failed = λ gone. cc;
    all = λ _ none. absurd (waits_here size old.held new.held less rest none);
    rest = λ _ _. record { stops = stops_by turn failed (counts old.wire) (counts new.wire) is cut; not_shut = not_shut; same = same };
  }
