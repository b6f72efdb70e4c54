-- The device types that have a profile, and their names (Volume 1, device profiles).
use Rattle.std.specs.Prelude.{ℕ, ◌==◌, nat_lt, List, [], ◌∷◌, codes, decimal, Option, Some, None, if◌then◌else◌}
use Rattle.enip_eds.specs.Texts.{joined}

-- The name of a device type below 0x10.
abbrev pub name_below_10 : ℕ → Option (List ℕ)
name_below_10 n =
    if n == 0x00 then Some (codes "Generic Device")
    else (if n == 0x02 then Some (codes "AC Drive")
    else (if n == 0x03 then Some (codes "Motor Overload")
    else (if n == 0x04 then Some (codes "Limit Switch")
    else (if n == 0x05 then Some (codes "Inductive Proximity Switch")
    else (if n == 0x06 then Some (codes "Photoelectric Sensor")
    else (if n == 0x07 then Some (codes "General Purpose Discrete I/O")
    else (if n == 0x09 then Some (codes "Resolver")
    else (if n == 0x0c then Some (codes "Communications Adapter")
    else (if n == 0x0e then Some (codes "Programmable Logic Controller") else None)))))))))

-- The name of a device type from 0x10 to 0x1f.
abbrev pub name_below_20 : ℕ → Option (List ℕ)
name_below_20 n =
    if n == 0x10 then Some (codes "Position Controller")
    else (if n == 0x13 then Some (codes "DC Drive")
    else (if n == 0x15 then Some (codes "Contactor")
    else (if n == 0x16 then Some (codes "Motor Starter")
    else (if n == 0x17 then Some (codes "Softstart Starter")
    else (if n == 0x18 then Some (codes "Human-Machine Interface")
    else (if n == 0x1a then Some (codes "Mass Flow Controller")
    else (if n == 0x1b then Some (codes "Pneumatic Valve")
    else (if n == 0x1c then Some (codes "Vacuum Pressure Gauge")
    else (if n == 0x1d then Some (codes "Process Control Value")
    else (if n == 0x1e then Some (codes "Residual Gas Analyzer")
    else (if n == 0x1f then Some (codes "DC Power Generator") else None)))))))))))

-- The name of a device type from 0x20 to 0x29.
abbrev pub name_below_2a : ℕ → Option (List ℕ)
name_below_2a n =
    if n == 0x20 then Some (codes "RF Power Generator")
    else (if n == 0x21 then Some (codes "Turbomolecular Vacuum Pump")
    else (if n == 0x22 then Some (codes "Encoder")
    else (if n == 0x23 then Some (codes "Safety Discrete I/O Device")
    else (if n == 0x24 then Some (codes "Fluid Flow Controller")
    else (if n == 0x25 then Some (codes "CIP Motion Drive")
    else (if n == 0x26 then Some (codes "CompoNet Repeater")
    else (if n == 0x27 then Some (codes "Mass Flow Controller, Enhanced")
    else (if n == 0x28 then Some (codes "CIP Modbus Device")
    else (if n == 0x29 then Some (codes "CIP Modbus Translator") else None)))))))))

-- The name of a device type from 0x2a on.
abbrev pub name_from_2a : ℕ → Option (List ℕ)
name_from_2a n =
    if n == 0x2a then Some (codes "Safety Analog I/O Device")
    else (if n == 0x2b then Some (codes "Generic Device (keyable)")
    else (if n == 0x2c then Some (codes "Managed Ethernet Switch")
    else (if n == 0x2d then Some (codes "CIP Motion Safety Drive")
    else (if n == 0x2e then Some (codes "Safety Drive")
    else (if n == 0x2f then Some (codes "CIP Motion Encoder")
    else (if n == 0x30 then Some (codes "CIP Motion Converter")
    else (if n == 0x31 then Some (codes "CIP Motion I/O")
    else (if n == 0x32 then Some (codes "ControlNet Physical Layer Component")
    else (if n == 0x33 then Some (codes "Circuit Breaker")
    else (if n == 0x34 then Some (codes "HART Device")
    else (if n == 0x35 then Some (codes "CIP-HART Translator")
    else (if n == 0xc8 then Some (codes "Embedded Component") else None))))))))))))

-- The name of a device type.
abbrev pub type_name_of : ℕ → Option (List ℕ)
type_name_of n =
    if nat_lt n 0x10 then name_below_10 n else (if nat_lt n 0x20 then name_below_20 n
    else (if nat_lt n 0x2a then name_below_2a n else name_from_2a n))

-- The name of a device type in quotes, or its number if it has no name.
abbrev pub device_type_field : Option (List ℕ) → ℕ → List ℕ
device_type_field (Some name) n = joined (codes "\"" ∷ name ∷ codes "\"" ∷ [])
device_type_field None n = joined (codes "\"Device type " ∷ decimal n ∷ codes "\"" ∷ [])
