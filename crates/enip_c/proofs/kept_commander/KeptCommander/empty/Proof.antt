use Rattle.enip_c.proofs.KeptPlaces.{commander_place}
use Rattle.enip_c.proofs.KeptWalks.{empty_meets}
use Rattle.enip_c.specs.contracts.kept_commander.KeptCommander.empty.Key.{name as #self}
use Rattle.enip_c.proofs.kept_commander.KeptCommander.empty.Statement.{statement}
use Rattle.enip_c.proofs.kept_commander.KeptCommander.empty.Code as code

pub empty_spec : {M : Type 1} → statement M
empty_spec 𝓤 𝓛 𝓜 𝓡 wired = empty_meets commander_place 𝓤 𝓛 𝓜 𝓡 #self (code.unfolded 𝓤 𝓛.H 𝓜 𝓡 wired)
