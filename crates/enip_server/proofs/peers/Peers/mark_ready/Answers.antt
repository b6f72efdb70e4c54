use Rattle.std.proofs.Common.{refl, arith}
use Rattle.std.specs.Box.{boxed_slice_with_item}
use Rattle.enip_server.specs.declared.peers.Peers.{Peers}
use Rattle.enip_server.proofs.RoundLemmas.{woken_free}
use Rattle.enip_server.proofs.peers.Peers.mark_ready.Goals as goal

pub returns-in_default : goal.returns-in_default
returns-in_default g c =
    woken_free c.args.ends c.args.self.now
    (let p : Peers g.row.W.Denot = record {
      adapter = c.args.self.now.adapter;
      idle_timeout = c.args.self.now.idle_timeout;
      slots = boxed_slice_with_item c.args.self.now.slots c.args.slot c.index_mut.result.now;
    } in p)
    c.args.slot c.index_mut.result.now _ refl refl refl
    (omega (arith, c.if-slot-len.false, c.len.ensures)) c.index_mut.ensures.value c.in_default.is
