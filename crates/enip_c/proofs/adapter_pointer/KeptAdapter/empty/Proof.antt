use Rattle.enip_c.proofs.KeptPlaces.{adapter_place}
use Rattle.enip_c.proofs.KeptWalks.{empty_meets}
use Rattle.enip_c.specs.contracts.adapter_pointer.KeptAdapter.empty.Key.{name as #self}
use Rattle.enip_c.proofs.adapter_pointer.KeptAdapter.empty.Statement.{statement}
use Rattle.enip_c.proofs.adapter_pointer.KeptAdapter.empty.Code as code

pub empty_spec : {M : Type 1} → statement M
empty_spec 𝓤 𝓛 𝓜 𝓡 wired = empty_meets adapter_place 𝓤 𝓛 𝓜 𝓡 #self (code.unfolded 𝓤 𝓛.H 𝓜 𝓡 wired)
