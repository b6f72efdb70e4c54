-- Worked examples of configurations.
use Rattle.std.proofs.Common.{◌≡◌, codes, [], ◌∷◌, true, false, Some, None, option_map, option_and_then, refl}
use Rattle.toml.specs.Parse.{parse_document}
use Rattle.toml.proofs.OnLiterals.{toml_on_literals}
use Rattle.enip_config.specs.declared.key.NumberKey.TheVariants.{Vendor, Peers, CounterValue, CounterLimit}
use Rattle.enip_config.specs.Known.{has_unknown_key}
use Rattle.enip_config.specs.Keys.{number_of, assemblies_of, address_of}

-- the limit of a counter, its default value, and a counter that is not a table
pub limit-described : option_and_then (number_of CounterLimit) (parse_document (codes "[counter]\nlimit = 100\n")) ≡ Some 100
unfolding toml_on_literals
limit-described = refl

pub value-missing : option_and_then (number_of CounterValue) (parse_document (codes "[counter]\nlimit = 100\n")) ≡ Some 0
unfolding toml_on_literals
value-missing = refl

pub limit-missing : option_and_then (number_of CounterLimit) (parse_document (codes "vendor = 1\n")) ≡ Some 0xffffffff
unfolding toml_on_literals
limit-missing = refl

pub counter-no-table : option_and_then (number_of CounterValue) (parse_document (codes "counter = 1\n")) ≡ None
unfolding toml_on_literals
counter-no-table = refl

-- a settable assembly of three members
pub assembly-described : option_and_then assemblies_of (parse_document (codes "[[assembly]]\ninstance = 100\nsettable = true\nmembers = [1, 2, 1]\n"))
    ≡ Some ((100, (true, (1 ∷ 2 ∷ 1 ∷ [], false))) ∷ [])
unfolding toml_on_literals
assembly-described = refl

-- one with the services for lists
pub assembly-with-lists : option_and_then assemblies_of (parse_document (codes "[[assembly]]\ninstance = 100\nmembers = [2]\nlists = true\n"))
    ≡ Some ((100, (false, (2 ∷ [], true))) ∷ [])
unfolding toml_on_literals
assembly-with-lists = refl

-- an address of three numbers, and one of four
pub address-short : option_and_then address_of (parse_document (codes "address = [127, 0, 0]\n")) ≡ None
unfolding toml_on_literals
address-short = refl

pub address-whole : option_and_then address_of (parse_document (codes "address = [127, 0, 0, 1]\n")) ≡ Some (127 ∷ 0 ∷ 0 ∷ 1 ∷ [])
unfolding toml_on_literals
address-whole = refl

-- a number that is out of range, and one that is missing
pub vendor-too-large : option_and_then (number_of Vendor) (parse_document (codes "vendor = 65536\n")) ≡ None
unfolding toml_on_literals
vendor-too-large = refl

pub peers-missing : option_and_then (number_of Peers) (parse_document (codes "vendor = 1\n")) ≡ Some 4
unfolding toml_on_literals
peers-missing = refl

-- unknown keys, at any depth
pub vendr-unknown : option_map has_unknown_key (parse_document (codes "vendr = 1\n")) ≡ Some true
unfolding toml_on_literals
vendr-unknown = refl

pub low-unknown : option_map has_unknown_key (parse_document (codes "status = [{ low = 1 }]\n")) ≡ Some true
unfolding toml_on_literals
low-unknown = refl

pub additions-unknown : option_map has_unknown_key (parse_document (codes "[counter]\nadditions = 0\n")) ≡ Some true
unfolding toml_on_literals
additions-unknown = refl

pub known : option_map has_unknown_key (parse_document (codes "vendor = 1\n[counter]\nvalue = 0\n")) ≡ Some false
unfolding toml_on_literals
known = refl
