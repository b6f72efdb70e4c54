use Rattle.enip_c.proofs.KeptPlaces.{adapter_place}
use Rattle.enip_c.proofs.KeptWalks.{of_loose_meets}
use Rattle.enip_c.specs.contracts.adapter_pointer.KeptAdapter.of_loose.Key.{name as #self}
use Rattle.enip_c.proofs.adapter_pointer.KeptAdapter.of_loose.Statement.{statement}
use Rattle.enip_c.proofs.adapter_pointer.KeptAdapter.of_loose.Code as code

pub of_loose_spec : {M : Type 1} → statement M
of_loose_spec 𝓤 𝓛 𝓜 𝓡 wired = of_loose_meets adapter_place 𝓤 𝓛 𝓜 𝓡 #self (code.unfolded 𝓤 𝓛.H 𝓜 𝓡 wired)
