use Rattle.enip_server.proofs.AdmissionLemmas.{admission_runs}
use Rattle.enip_server.proofs.laws.admissions_lose_nothing.Goals as goal

pub returns : goal.returns
returns g c =
    admission_runs g.W.Wire.left g.W.Wire.written g.W.Wire.known g.W.Wire.counts g.W.GatedWire.waiting
    g.W.GatedWire.admitted g.met.W.GatedWire.unread g.met.W.GatedWire.unwritten g.G.Gate.shows g.O.Owner.answer g.O.Owner.after
