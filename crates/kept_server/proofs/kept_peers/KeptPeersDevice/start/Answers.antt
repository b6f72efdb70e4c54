use Rattle.std.proofs.Common.{ap, sym, ◌∙◌}
use Rattle.kept_server.specs.Changes.{keys_of}
use Rattle.kept_server.proofs.kept_peers.KeptPeersDevice.start.Goals as goal

pub invariant_of-result : goal.invariant_of-result
invariant_of-result g c = record {
  keys = ap keys_of c.in_ok-table.ensures.saved ∙ ap keys_of c.in_ok-save.ensures.saved ∙ g.met.C.KeptDevice.under_keys _
      ∙ ap g.C.KeptDevice.keys (sym (ap (λ p. p.adapter) c.in_ok-peers.ensures));
}

pub returns-clause-accepted : goal.returns-clause-accepted
returns-clause-accepted g c = c.in_ok-adapter.ensures.accepted
