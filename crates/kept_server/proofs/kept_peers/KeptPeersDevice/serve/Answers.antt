use Rattle.std.proofs.Common.{◌≡◌, refl, sym, ap, ◌∙◌}
use Rattle.enip_adapter.specs.Calls.{AdapterState}
use Rattle.enip_keep.specs.Kept.{Kept, pairs_of}
use Rattle.enip_server.specs.Rounds.{state_of}
use Rattle.kept_server.specs.Changes.{newest}
use Rattle.kept_server.proofs.RoundLemmas.{same_contents}
use Rattle.kept_server.proofs.kept_peers.KeptPeersDevice.serve.Goals as goal

pub returns-then-is_saved-clause-served : goal.returns-then-is_saved-clause-served
returns-then-is_saved-clause-served g c =
    let table = c.args.self.now.table in
    let round = c.take_round-self.ensures.round in
    let new : AdapterState = (state_of c.take_round-self.new.peers).adapter in
    let saved : Kept = pairs_of (newest table.is_settled table.kept table.current).entries.items in
    let same : saved ≡ g.C.KeptDevice.saved new
    = ap pairs_of (sym c.newest.ensures) ∙ c.is_saved.ensures.0 c.if-is_saved.true
    ∙ ap g.C.KeptDevice.saved c.adapter.ensures in (
      record { input = c.args.input; calls = round.0 },
      refl,
      same_contents g.C.KeptDevice.saved (state_of c.args.self.now.peers).adapter new saved
          (newest table.is_settled table.kept table.current).waits.items (pairs_of table.found.items) round.0
          round.1.executed same,
      (c.args.guest.now, c.take_round-self.new.guest, round.1),
    )

pub invariant_of-self-3 : goal.invariant_of-self-3
invariant_of-self-3 g c =
    let round = c.take_round-self.ensures.round in
    let keys = g.C.KeptDevice.keys in
    record {
      keys = c.update.ensures.keys ∙ c.args.self.now.keys
          ∙ sym (g.met.C.KeptDevice.same_keys (state_of c.args.self.now.peers).adapter round.0)
          ∙ ap keys (sym round.1.executed);
    }
