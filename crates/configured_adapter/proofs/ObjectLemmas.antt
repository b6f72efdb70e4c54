use Rattle.std.proofs.Common.{◌≡◌, List, ℕ, subst, Result, Ok, Err, IfErr, None}
use Rattle.std.specs.Result.{IsErr, IsErrAnd}
use Rattle.cip_objects.specs.Configuration.{fault_of}
use Rattle.enip_config.specs.declared.configuration.Configuration.{Configuration}
use Rattle.config_refusal.specs.declared.fault.LoadFault.{LoadFault}
use Rattle.config_refusal.specs.declared.fault.LoadFault.TheVariants.{Memory}
use Rattle.enip_config.specs.declared.key.NumberKey.TheVariants.{Peers, Connections, FirstHandle, FirstId}
use Rattle.enip_config.specs.Documents.{IsDescribed, IsFaultOf, IsInRange}
use Rattle.configured_adapter.specs.Configured.{AreLimits, limits_of}

-- The objects accept what was read: only memory can fail.
pub objects_fail : {T U : Type 0} (text : List ℕ) (described : Configuration) (r : Result T LoadFault) (fault : LoadFault) (returned : Result U LoadFault)
    → IsDescribed text described → (fault_of described.objects ≡ None → IfErr r (λ f. f ≡ Memory))
    → r ≡ Err fault → IsErr returned × IsErrAnd returned (λ f. f ≡ fault) → IfErr returned (IsFaultOf text)
objects_fail text described r fault (Ok x) read allowed is gives = tt
objects_fail text described r fault (Err f) read allowed is gives =
    let none : fault ≡ Memory = subst (λ s. IfErr s (λ e. e ≡ Memory)) is (allowed read.listed.taken) in
    rw (gives.1, none) tt

-- The limits of a configuration that was read.
pub limits_by : (c : Configuration) → IsInRange c → AreLimits (limits_of c)
limits_by c in_range = record {
  peers_from = (in_range Peers).0;
  peers_to = (in_range Peers).1;
  connections_from = (in_range Connections).0;
  connections_to = (in_range Connections).1;
  handle = (in_range FirstHandle).0;
  id = (in_range FirstId).0;
}
