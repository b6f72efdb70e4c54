-- Which check of a configuration refuses a part that needs an owner.
use Rattle.config_refusal.specs.declared.fault.ConfigurationRefusal.{ConfigurationRefusal}
use Rattle.config_refusal.specs.declared.fault.ConfigurationRefusal.TheVariants as refusals
use Rattle.enip_common.specs.declared.owner_need.OwnerNeed.{OwnerNeed}
use Rattle.enip_common.specs.declared.owner_need.OwnerNeed.TheVariants.{Attribute, Service, Queued}

-- The check of a configuration that has the same number.
abbrev pub refusal_of_need : OwnerNeed → ConfigurationRefusal
refusal_of_need (Attribute class instance number) = refusals.Attribute
refusal_of_need (Service class instance number) = refusals.Service
refusal_of_need (Queued class instance number) = refusals.Service
