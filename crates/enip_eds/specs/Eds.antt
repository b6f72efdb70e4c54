-- The text of an EDS (Volume 1, chapter 7; Volume 2, the additions for EtherNet/IP).
use Rattle.std.specs.Prelude.{◌≡◌, ◌+◌, ◌*◌, ℕ, sum, List, [], ◌∷◌, ◌++◌, codes, decimal, Option, Some, None}
use Rattle.std.specs.String.{string_bytes}
use Rattle.base64.specs.GeneralPurpose.{encode_of}
use Rattle.base64.specs.Engines.{standard}
use Rattle.cip_values.specs.declared.element.ElementaryType.{ElementaryType}
use Rattle.cip_objects.specs.declared.config.AssemblyConfig.{AssemblyConfig}
use Rattle.cip_objects.specs.declared.config.Config.{Config}
use Rattle.enip_eds.specs.declared.icon.Icon.{Icon}
use Rattle.enip_eds.specs.declared.eds.EdsSource.{EdsSource}
use Rattle.enip_eds.specs.Texts.{joined, date_text, path, quoted}
use Rattle.enip_eds.specs.Types.{bit_string}
use Rattle.enip_eds.specs.DeviceTypes.{device_type_field, type_name_of}
use Rattle.enip_eds.specs.Params.{assembly_params, object_params}
use Rattle.enip_eds.specs.Steps.{Written, written, Steps}

-- ---- the file and the device

-- The first lines and the section File.
abbrev pub file_section : EdsSource → List ℕ
file_section s =
    joined (codes "$ Electronic data sheet, written by enip eds\n\n[File]\n        DescText = " ∷ quoted (string_bytes s.configuration.now.objects.name)
    ∷ codes ";\n        CreateDate = " ∷ date_text s.date ∷ codes ";\n        CreateTime = 00:00:00;\n        ModDate = " ∷ date_text s.date
    ∷ codes ";\n        ModTime = 00:00:00;\n        Revision = 1.0;\n" ∷ [])

-- The beginning of the section Device: who made the device, and what it is.
abbrev pub kind_entries : Config → List ℕ
kind_entries c =
    joined (codes "\n[Device]\n        VendCode = " ∷ decimal c.vendor ∷ codes ";\n        VendName = \"Vendor " ∷ decimal c.vendor
    ∷ codes "\";\n        ProdType = " ∷ decimal c.device_type ∷ codes ";\n        ProdTypeStr = " ∷ device_type_field (type_name_of c.device_type) c.device_type ∷ codes ";\n" ∷ [])

-- The rest of it: which product it is.
abbrev pub product_entries : Config → List ℕ
product_entries c =
    joined (codes "        ProdCode = " ∷ decimal c.product_code ∷ codes ";\n        MajRev = " ∷ decimal c.major ∷ codes ";\n        MinRev = "
    ∷ decimal c.minor ∷ codes ";\n        ProdName = " ∷ quoted (string_bytes c.name) ∷ codes ";\n" ∷ [])

-- The icon, if there is one.
abbrev pub icon_entries : Option Icon → List ℕ
icon_entries None = []
icon_entries (Some icon) =
    joined (codes "        Icon = " ∷ quoted icon.name.now ∷ codes ";\n        IconContents = \"" ∷ encode_of standard icon.bytes.now
    ∷ codes "\";\n" ∷ [])

abbrev pub classification : List ℕ
classification = codes "\n[Device Classification]\n        Class1 = EtherNetIP;\n"

-- Everything before the Params.
abbrev pub head : EdsSource → List ℕ
head s =
    file_section s ++ kind_entries s.configuration.now.objects ++ product_entries s.configuration.now.objects ++ icon_entries s.icon
    ++ classification

-- ---- the section Assembly

abbrev pub assembly_heading : List ℕ
assembly_heading = codes "\n[Assembly]\n        Object_Name = \"Assembly Object\";\n        Object_Class_Code = 0x04;\n"

-- The fields of an assembly before its members: its name, its path, its bytes, no flags and two reserved fields.
abbrev pub assembly_fields : AssemblyConfig → List ℕ
assembly_fields a =
    joined (codes "        Assem" ∷ decimal a.instance ∷ codes " =\n                \"Assembly " ∷ decimal a.instance ∷ codes "\",\n                "
    ∷ path 4 a.instance 3 ∷ codes ",\n                " ∷ decimal (sum a.members.items) ∷ codes ",\n                0x0000,\n                ," ∷ [])

-- The number after that of a member: one more if the member has a Param.
abbrev pub number_after : Option ElementaryType → ℕ → ℕ
number_after None number = number
number_after (Some element) number = number + 1

-- The Param of a member, if it has one.
abbrev pub reference : Option ElementaryType → ℕ → List ℕ
reference None number = []
reference (Some element) number = codes "Param" ++ decimal number

-- The bits of a member, and its Param. What is before them ends here.
abbrev pub member_fields : ℕ → ℕ → List ℕ
member_fields size number =
    codes ",\n                " ++ (decimal (8 * size) ++ (codes "," ++ reference (bit_string size) number))

abbrev pub reference_step : ℕ → ℕ → Written → Written → Type 0
reference_step index size before after =
    after ≡ written (number_after (bit_string size) before.next) (before.text ++ member_fields size before.next)

-- An assembly was written after the old text. Its members refer to the Params from the next number on.
pub record IsAssemblyAdded (a : AssemblyConfig) (before after : Written) : Type 0 where
  pub last : Written
  pub members : Steps reference_step (written before.next (before.text ++ assembly_fields a)) a.members.items last
  pub ended : after ≡ written last.next (last.text ++ codes ";\n")

abbrev pub assembly_step : ℕ → AssemblyConfig → Written → Written → Type 0
assembly_step index a before after = IsAssemblyAdded a before after

-- ---- the end, and the whole

-- No connection of class 0 or 1, and as many of class 3 as the configuration says.
abbrev pub tail : ℕ → List ℕ
tail connections =
    joined (codes "\n[Connection Manager]\n        Object_Name = \"Connection Manager Object\";\n        Object_Class_Code = 0x06;\n\n[Capacity]\n        MaxIOConnections = 0;\n        MaxMsgConnections = "
    ∷ decimal connections ∷ codes ";\n" ∷ [])

-- The whole text: the file and the device, Params from 1 on for the members of the assemblies and the attributes of the
-- objects, the assemblies, and the end.
pub record IsEds (s : EdsSource) (text : List ℕ) : Type 0 where
  pub members_end : Written
  pub objects_end : Written
  pub assemblies_end : Written
  pub members : Steps assembly_params (written 1 (head s)) s.configuration.now.objects.assemblies.items members_end
  pub objects : Steps (object_params s.configuration.now.attribute_types.items) members_end s.configuration.now.objects.objects.items objects_end
  pub assemblies : Steps assembly_step (written 1 (objects_end.text ++ assembly_heading)) s.configuration.now.objects.assemblies.items assemblies_end
  pub whole : text ≡ assemblies_end.text ++ tail s.configuration.now.connections
