use Rattle.enip_server.specs.Rounds.{state_of}
use Rattle.kept_server.proofs.AdmissionLemmas.{shown_admits}
use Rattle.owner_port.specs.Asking.{IsShownTo}
use Rattle.owner_sockets.proofs.guest.OwnerLinkRoundGuest.admit_frames.Goals as goal

pub returns-clause-admitted : goal.returns-clause-admitted
returns-clause-admitted g c = c.ask.ensures.pass

pub returns-clause-admission : goal.returns-clause-admission
returns-clause-admission g c =
    let pass = c.ask.ensures.pass in
    shown_admits g.W.Wire.left g.W.Wire.written g.W.GatedWire.waiting g.W.GatedWire.admitted g.met.W.GatedWire.unread
    g.met.W.GatedWire.unwritten (IsShownTo (λ held. g.W.HasAddress.address_of held.wire)) c.args.now
    (record c.args.self.now.port { questions = pass.begun }) (state_of c.args.peers.now) pass.shown
    (state_of c.ask.new.peers) pass.shows

pub returns-clause-seen : goal.returns-clause-seen
returns-clause-seen g c = c.ask.ensures.seen
