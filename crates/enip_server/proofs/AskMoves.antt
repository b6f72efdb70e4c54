-- What the owner of the device is asked in a turn and in a round is what the calls of the adapter ask.
use Rattle.std.proofs.Common.{◌≡◌, ℕ, List, [], ◌∷◌, ◌++◌}
use Rattle.std.proofs.Common.{Option, Some, None, append_assoc, append-nil, refl, sym, ap, ◌∙◌}
use Rattle.cip_ledger.specs.Ledger.{LedgerState}
use Rattle.cip_ledger.specs.Runs.{Request}
use Rattle.cip_objects.specs.OwnRequests.{Asked}
use Rattle.cip_owner.specs.Replies.{Reply}
use Rattle.enip_adapter.proofs.AskedLemmas.{asked-alike, calls-ask, withdraw-asks}
use Rattle.enip_adapter.specs.Asks.{asks_by_step, asks_of_call, asks_of_calls, calls_asking, owner_after, prepared_feed, with_reply}
use Rattle.enip_adapter.specs.Calls.{AdapterState, Call, after_call}
use Rattle.enip_adapter.specs.Calls.Call.{Feeds}
use Rattle.enip_adapter.specs.OwnerLaws.{EndsNone, asks_call_by_call}
use Rattle.enip_adapter.specs.DeviceRuns.{WrittenBy}
use Rattle.enip_adapter.specs.OwnWrites.{Prepares, Withdraws}
use Rattle.enip_adapter.specs.Runs.{after_calls}
use Rattle.enip_adapter.specs.Withdrawing.{requests_of_piece, writes_of}

asks_two : (a : AdapterState) (calls more : List Call)
    → asks_call_by_call a (calls ++ more) ≡ asks_call_by_call a calls ++ asks_call_by_call (after_calls a calls) more
asks_two a [] more = refl
asks_two a (call ∷ calls) more =
    ap (λ asked. asks_of_call a call ++ asked) (asks_two (after_call a call) calls more)
    ∙ sym (append_assoc (asks_of_call a call) (asks_call_by_call (after_call a call) calls)
    (asks_call_by_call (after_calls (after_call a call) calls) more))

pub asks_then : (a : AdapterState) (calls more : List Call)
    → asks_of_calls a (calls ++ more) ≡ asks_of_calls a calls ++ asks_of_calls (after_calls a calls) more
asks_then a calls more =
    calls-ask a (calls ++ more) ∙ asks_two a calls more
    ∙ ap (λ asked. asked ++ asks_call_by_call (after_calls a calls) more) (sym (calls-ask a calls))
    ∙ ap (λ asked. asks_of_calls a calls ++ asked) (sym (calls-ask (after_calls a calls) more))

-- a reply that is prepared ends no command
prepares_ends_none : (ledger : Option LedgerState) (reply : Option Reply) → EndsNone ledger (Prepares reply)
prepares_ends_none None reply = tt
prepares_ends_none (Some ledger) reply = tt

module _ {O : Type 0} (answer : O → Asked → Option Reply) (next : O → Asked → O) where
  owner_two : (first : O) (asked more : List Asked)
      → owner_after answer next first (asked ++ more) ≡ owner_after answer next (owner_after answer next first asked) more
  owner_two first [] more = refl
  owner_two first (one ∷ asked) more = owner_two (next first one) asked more

  -- one list of calls after the other
  pub owner_then : (first between last : O) (a b : AdapterState) (calls more : List Call)
      → between ≡ owner_after answer next first (asks_of_calls a calls) → b ≡ after_calls a calls
      → last ≡ owner_after answer next between (asks_of_calls b more)
      → last ≡ owner_after answer next first (asks_of_calls a (calls ++ more))
  owner_then first between last a b calls more before leads later =
      later
      ∙ ap (λ o. owner_after answer next o (asks_of_calls b more)) before
      ∙ ap (λ x. owner_after answer next (owner_after answer next first (asks_of_calls a calls)) (asks_of_calls x more)) leads
      ∙ sym (owner_two first (asks_of_calls a calls) (asks_of_calls (after_calls a calls) more))
      ∙ ap (owner_after answer next first) (sym (asks_then a calls more))

  -- the calls of a feed ask what the feed asks
  pub feed_asks : (a : AdapterState) (owner : O) (now peer : ℕ) (piece : List ℕ) (asked : List Asked)
      → asks_of_call a (Feeds now peer piece) ≡ asked
      → asks_of_calls a (calls_asking answer next owner now peer piece asked) ≡ asked
  feed_asks a owner now peer piece [] is = is
  feed_asks a owner now peer piece (one ∷ more) is =
      calls-ask a (prepared_feed now peer piece (answer owner one))
      ∙ append-nil (asks_of_call (with_reply a (answer owner one)) (Feeds now peer piece))
      ∙ asked-alike a (Prepares (answer owner one)) now peer piece tt
      (prepares_ends_none a.state.shared.objects.ledger (answer owner one)) ∙ is

-- what a request withdraws asks nothing
withdrawing_asks : (a : AdapterState) (requests : List Request) → asks_of_calls a (writes_of requests) ≡ []
withdrawing_asks a [] = refl
withdrawing_asks a (request ∷ more) =
    append-nil (asks_by_step a.state.shared.objects (WrittenBy (Withdraws request.1)))
    ∙ withdraw-asks a.state.shared.objects request.1

pub found_asks : (a : AdapterState) (peer : ℕ) (piece : List ℕ)
    → asks_of_calls a (writes_of (requests_of_piece a peer piece)) ≡ []
found_asks a peer piece = withdrawing_asks a (requests_of_piece a peer piece)
