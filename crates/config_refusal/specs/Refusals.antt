-- The checks that can refuse a configuration, and their numbers.
use Rattle.std.specs.Prelude.{ℕ}
use Rattle.config_refusal.specs.declared.fault.ConfigurationRefusal.{ConfigurationRefusal}
use Rattle.config_refusal.specs.declared.fault.ConfigurationRefusal.TheVariants as refused

-- the number that is printed
abbrev pub refusal_number : ConfigurationRefusal → ℕ
refusal_number refused.Name = 1
refusal_number refused.Size = 2
refusal_number refused.Members = 3
refusal_number refused.DoubleInstance = 4
refusal_number refused.Limit = 5
refusal_number refused.NotToml = 7
refusal_number refused.BadValue = 8
refusal_number refused.UnknownKey = 9
refusal_number refused.Object = 10
refusal_number refused.Attribute = 11
refusal_number refused.Service = 12
refusal_number refused.Access = 13
refusal_number refused.Commands = 14
