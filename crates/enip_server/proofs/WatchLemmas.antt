-- What a watcher has seen, if the device did not change or a frame changed it.
use Rattle.std.proofs.Common.{◌≡◌, ℕ, List, [], ◌∷◌, Option, Some, None, refl, sym, subst}
use Rattle.cip_ledger.specs.Device.{Device}
use Rattle.cip_objects.specs.OwnRequests.{Asked}
use Rattle.cip_owner.specs.Replies.{Reply}
use Rattle.enip_adapter.proofs.DeviceLemmas.{step-ends}
use Rattle.enip_adapter.specs.Asks.{asks_of_call, calls_asking, after_asking}
use Rattle.enip_adapter.specs.Calls.{AdapterState, after_call}
use Rattle.enip_adapter.specs.Calls.Call.{Ends_peer, Feeds, Ticks}
use Rattle.enip_adapter.specs.Runs.{after_calls}
use Rattle.enip_adapter.specs.Withdrawing.{found_by_piece}
use Rattle.enip_adapter.specs.Turn.Event.{At, End}
use Rattle.enip_server.specs.Watching.{IsAfterFrame}

module _ {O : Type 0} (answer : O → Asked → Option Reply) (after : O → Asked → O) where
  -- by what a feed asks
  asks_frame : (a : AdapterState) (owner : O) (now peer : ℕ) (piece : List ℕ) (asked : List Asked)
      → IsAfterFrame a.state.shared.objects
      (after_calls (found_by_piece a peer piece) (calls_asking answer after owner now peer piece asked)).state.shared.objects
  asks_frame a owner now peer piece [] = record {
    adapter = a;
    moment = now;
    peer = peer;
    piece = piece;
    answered = None;
    before = refl;
    after = refl;
  }
  asks_frame a owner now peer piece (asked ∷ more) = record {
    adapter = a;
    moment = now;
    peer = peer;
    piece = piece;
    answered = Some (answer owner asked);
    before = refl;
    after = refl;
  }

  -- a feed that asks the owner is one frame
  pub fed_frame : (a b : AdapterState) (owner : O) (now peer : ℕ) (piece : List ℕ)
      → b ≡ after_asking answer after (found_by_piece a peer piece) owner now peer piece
      → IsAfterFrame a.state.shared.objects b.state.shared.objects
  fed_frame a b owner now peer piece is =
      subst (λ (x : AdapterState). IsAfterFrame a.state.shared.objects x.state.shared.objects) (sym is)
      (asks_frame a owner now peer piece (asks_of_call (found_by_piece a peer piece) (Feeds now peer piece)))

module _ {T : Type 0} (has_seen : T → Device → Type 0) (watcher : T) where
  -- a time that the adapter is given leaves the device as it is
  pub seen_ticked : (a b : AdapterState) (now : ℕ) → b ≡ after_call a (Ticks now)
      → has_seen watcher a.state.shared.objects → has_seen watcher b.state.shared.objects
  seen_ticked a b now is seen =
      subst (λ (x : AdapterState). has_seen watcher x.state.shared.objects) (sym is)
      (subst (has_seen watcher) (sym (step-ends a.state (At now))) seen)

  -- and so does the end of a peer
  pub seen_ended : (a b : AdapterState) (peer : ℕ) → b ≡ after_call a (Ends_peer peer)
      → has_seen watcher a.state.shared.objects → has_seen watcher b.state.shared.objects
  seen_ended a b peer is seen =
      subst (λ (x : AdapterState). has_seen watcher x.state.shared.objects) (sym is)
      (subst (has_seen watcher) (sym (step-ends a.state (End peer))) seen)
