use Rattle.enip_server.specs.Rounds.{state_of}
use Rattle.owner_sockets.proofs.guest.OwnerLinkUnkeptGuest.admit_frames.Goals as goal

pub returns : goal.returns
returns g c = (state_of c.ask-is_ready.new.peers, c.ask-is_ready.ensures.pass, c.mark.ensures.writes)
