use Rattle.std.proofs.Common.{refl}
use Rattle.enip_server.specs.Rounds.{state_of}
use Rattle.owner_port.proofs.AskingLemmas.{pass_seen}
use Rattle.owner_port.proofs.port.OwnerPort.admit_frames.Goals as goal

pub returns-clause-seen : goal.returns-clause-seen
returns-clause-seen g c =
    pass_seen g.W.GatedWire.waiting g.W.GatedWire.admitted g.W.HasAddress.address_of c.args.now c.args.self.now
    (state_of c.args.peers.now) (record c.admit_frames-ready.new.gate { questions = c.end_pass.new.self })
    (state_of c.admit_frames-ready.new.self) (record {
      begun = c.begin_pass.new.self;
      begins = c.begin_pass.ensures;
      shown = c.admit_frames-ready.new.gate;
      shows = c.admit_frames-ready.ensures.shown;
      ends = c.end_pass.ensures;
      same = refl;
    })
