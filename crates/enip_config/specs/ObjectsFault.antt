-- The check of the objects that refuses a configuration.
use Rattle.cip_objects.specs.declared.config.ConfigFault.{ConfigFault}
use Rattle.cip_objects.specs.declared.config.ConfigFault.TheVariants.{Name, Size, Members, DoubleInstance, Limit}
use Rattle.cip_objects.specs.declared.config.ConfigFault.TheVariants.{Object, Attribute, Service}
use Rattle.cip_objects.specs.declared.config.ConfigFault.TheVariants.{Memory as NoMemory}
use Rattle.config_refusal.specs.declared.fault.LoadFault.{LoadFault}
use Rattle.config_refusal.specs.declared.fault.LoadFault.TheVariants.{Refused, Memory}
use Rattle.config_refusal.specs.declared.fault.ConfigurationRefusal.TheVariants as refused

-- the check of the objects that fails, or Memory
abbrev pub fault_of_objects : ConfigFault → LoadFault
fault_of_objects Name = Refused refused.Name
fault_of_objects Size = Refused refused.Size
fault_of_objects Members = Refused refused.Members
fault_of_objects DoubleInstance = Refused refused.DoubleInstance
fault_of_objects Limit = Refused refused.Limit
fault_of_objects Object = Refused refused.Object
fault_of_objects Attribute = Refused refused.Attribute
fault_of_objects Service = Refused refused.Service
fault_of_objects NoMemory = Memory
