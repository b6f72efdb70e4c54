-- The three ways in which a begin is refused, and the one in which a peer begins.
use Rattle.std.proofs.Common.{ℕ, ltb, not, false, length, Option}
use Rattle.enip_adapter.specs.declared.adapter.Full.{Full}
use Rattle.enip_adapter.specs.declared.adapter.Full.TheVariants.{Places, Handles, Share}
use Rattle.enip_adapter.specs.declared.peer.Rights.{Rights}
use Rattle.enip_adapter.specs.Groups.{has_share}
use Rattle.enip_adapter.specs.Turn.{State, TurnResult, turned, with_peer, begun}
use Rattle.enip_adapter.specs.Turn.Output.{Begins, Refuses}
use Rattle.enip_adapter.proofs.ListLemmas.{both}

-- What holds of a refusal, for any reason, and of a peer that begins, holds of a begin.
pub each-begun : (P : TurnResult → Type 0) (s : State) (rights : Rights) (group : Option ℕ)
    → ((full : Full) → P (turned s (Refuses full) false))
    → P (turned (with_peer s rights group) (Begins s.next_handle) false) → P (begun s rights group)
each-begun P s rights group refused begins =
    both P (not (has_share s.shared.share s.peers group)) _ _ (refused Share)
    (both P (not (ltb (length s.peers) s.places)) _ _ (refused Places)
    (both P (ltb 0xffffffff s.next_handle) _ _ (refused Handles) begins))
