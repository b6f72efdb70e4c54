-- The services and their codes (Volume 1, common services; 0x32 and 0x33 are the counter's own).
use Rattle.std.specs.Prelude.{ℕ, List, [], ◌∷◌, Option, Some, None, ◌==◌, if◌then◌else◌}
use Rattle.cip_objects.specs.declared.service.Service.{Service}
use Rattle.cip_objects.specs.declared.service.Service.TheVariants.{GetAttributesAll, GetAttributeList, SetAttributeList}
use Rattle.cip_objects.specs.declared.service.Service.TheVariants.{GetAttributeSingle, SetAttributeSingle, GetMember}
use Rattle.cip_objects.specs.declared.service.Service.TheVariants.{SetMember, Add, Clear}

abbrev pub service_code : Service → ℕ
service_code GetAttributesAll = 0x01
service_code GetAttributeList = 0x03
service_code SetAttributeList = 0x04
service_code GetAttributeSingle = 0x0e
service_code SetAttributeSingle = 0x10
service_code GetMember = 0x18
service_code SetMember = 0x19
service_code Add = 0x32
service_code Clear = 0x33

-- The service with this code, among those of an instance.
abbrev pub service_in : ℕ → List Service → Option Service
service_in code [] = None
service_in code (s ∷ services) = if service_code s == code then Some s else service_in code services
