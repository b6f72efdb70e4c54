-- The command that a piece would execute, in the ledger that is saved with it.
use Rattle.std.proofs.Common.{◌≡◌, ℕ, List, [], ◌∷◌, Bool, true, false, if◌then◌else◌, Option, Some, None, sym, ap, ◌∙◌}
use Rattle.cip_ledger.specs.declared.doubt.DoubtfulCommand.{DoubtfulCommand}
use Rattle.cip_ledger.specs.Device.{owned_standing}
use Rattle.cip_ledger.specs.Doubt.{is_in_doubt}
use Rattle.cip_ledger.specs.Executing.{command_of, doubted_by}
use Rattle.cip_ledger.specs.Ledger.{LedgerState}
use Rattle.cip_ledger.specs.Runs.{Request}
use Rattle.cip_ledger.proofs.ExecutingLemmas.{executed_in_doubt}
use Rattle.enip_wire.specs.Stream.{Parsed, held_and_taken, parsed}
use Rattle.enip_wire.specs.Stream.Parsed.{Incomplete, WholeFrame, TooLongHeader}
use Rattle.enip_adapter.specs.declared.peer.Session.{Session}
use Rattle.enip_adapter.specs.declared.shared.Shared.{Shared}
use Rattle.enip_adapter.specs.Calls.{AdapterState, bytes_held}
use Rattle.enip_adapter.specs.DeviceRuns.{requests_in_frame}
use Rattle.enip_adapter.specs.Executing.{executing, executing_requests, executing_parsed, executing_piece}
use Rattle.enip_adapter.specs.Turn.{session_of}

abbrev IsDoubted : LedgerState → DoubtfulCommand → Type 0
IsDoubted ledger command =
    is_in_doubt (doubted_by (Some command) ledger) command.originator command.number ≡ true

by_requests : (shared : Shared) (ledger : LedgerState) (requests : List Request) (command : DoubtfulCommand)
    → shared.objects.ledger ≡ Some ledger → executing_requests shared requests ≡ Some command
    → IsDoubted ledger command
by_requests shared ledger [] command is e = absurd (cc)
by_requests shared ledger (request ∷ more) command is e =
    executed_in_doubt owned_standing ledger shared.objects.router request command
    (ap (λ l. command_of owned_standing l shared.objects.router request) (sym is) ∙ e)

by_parsed : (shared : Shared) (session : Session) (ledger : LedgerState) (x : Parsed) (command : DoubtfulCommand)
    → shared.objects.ledger ≡ Some ledger → executing_parsed shared session x ≡ Some command
    → IsDoubted ledger command
by_parsed shared session ledger Incomplete command is e = absurd (cc)
by_parsed shared session ledger (WholeFrame f) command is e =
    by_requests shared ledger (requests_in_frame shared session f) command is e
by_parsed shared session ledger (TooLongHeader h) command is e = absurd (cc)

by_session : (shared : Shared) (held piece : List ℕ) (ledger : LedgerState) (found : Option Session)
    (command : DoubtfulCommand) → shared.objects.ledger ≡ Some ledger
    → executing_piece shared held piece found ≡ Some command → IsDoubted ledger command
by_session shared held piece ledger None command is e = absurd (cc)
by_session shared held piece ledger (Some session) command is e = go session.closed e
  where
    go : (closed : Bool)
        → (if closed then None else executing_parsed shared session (parsed (held_and_taken held piece))) ≡ Some command
        → IsDoubted ledger command
    go true e = absurd (cc)
    go false e = by_parsed shared session ledger (parsed (held_and_taken held piece)) command is e

pub in_doubt : (a : AdapterState) (ledger : LedgerState) (peer : ℕ) (piece : List ℕ) (command : DoubtfulCommand)
    → a.state.shared.objects.ledger ≡ Some ledger → executing a peer piece ≡ Some command → IsDoubted ledger command
in_doubt a ledger peer piece command is e =
    by_session a.state.shared (bytes_held a.held peer) piece ledger (session_of a.state peer) command is e
