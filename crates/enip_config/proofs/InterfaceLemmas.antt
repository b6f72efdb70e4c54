-- The interfaces that a configuration names.
use Rattle.std.proofs.Common.{◌≡◌, ◌⊎◌, inl, inr, Option, Some, None, refl}
use Rattle.toml.specs.Data.{Members}
use Rattle.config_refusal.specs.declared.fault.LoadFault.{LoadFault}
use Rattle.attribute_types.specs.Values.{IsBadOrMemory}
use Rattle.enip_config.specs.Documents.{IsUnread}
use Rattle.enip_config.specs.Interfaces.{interfaces_of}

-- Names that could not be read.
pub unread_interfaces : (described : Members) (fault : LoadFault) → IsBadOrMemory (interfaces_of described) fault → IsUnread described fault
unread_interfaces described fault (inl memory) = rw memory tt
unread_interfaces described fault (inr bad) = rw bad.0 (refl, inr (inr (inr (inr (inr (inr (inr (inr (inr (inr (inr (inl bad.1))))))))))))
