-- What C keeps of an adapter, a client, a commander and endings. Assumes `Logic`.
use Rattle.std.proofs.Common.{refl}
use Rattle.cip_commander.specs.contracts.commander.Commander as commander
use Rattle.enip_adapter.specs.contracts.adapter.Adapter as adapter
use Rattle.enip_adapter.specs.contracts.endings.Endings as endings
use Rattle.enip_client.specs.contracts.client.Client as client
use Rattle.enip_c.specs.contracts.adapter_pointer.KeptAdapter as kept_adapter
use Rattle.enip_c.specs.contracts.kept_client.KeptClient as kept_client
use Rattle.enip_c.specs.contracts.kept_commander.KeptCommander as kept_commander
use Rattle.enip_c.specs.contracts.kept_endings.KeptEndings as kept_endings
use Rattle.enip_c.proofs.KeptWalks.{Place}

abbrev pub adapter_place : Place
adapter_place = record {
  name = kept_adapter.the_type.name;
  object = adapter.the_row;
  row = kept_adapter.the_row;
  at = λ d. d.at;
  value = λ d. d.value;
  make = λ p x. record { at = p; value = x };
  value_made = λ p x. refl;
  owns_held = λ d vs. refl;
  owns_made = λ p x vs. refl;
  used_up = λ d f. tt;
}

abbrev pub client_place : Place
client_place = record {
  name = kept_client.the_type.name;
  object = client.the_row;
  row = kept_client.the_row;
  at = λ d. d.at;
  value = λ d. d.value;
  make = λ p x. record { at = p; value = x };
  value_made = λ p x. refl;
  owns_held = λ d vs. refl;
  owns_made = λ p x vs. refl;
  used_up = λ d f. tt;
}

abbrev pub commander_place : Place
commander_place = record {
  name = kept_commander.the_type.name;
  object = commander.the_row;
  row = kept_commander.the_row;
  at = λ d. d.at;
  value = λ d. d.value;
  make = λ p x. record { at = p; value = x };
  value_made = λ p x. refl;
  owns_held = λ d vs. refl;
  owns_made = λ p x vs. refl;
  used_up = λ d f. tt;
}

abbrev pub endings_place : Place
endings_place = record {
  name = kept_endings.the_type.name;
  object = endings.the_row;
  row = kept_endings.the_row;
  at = λ d. d.at;
  value = λ d. d.value;
  make = λ p x. record { at = p; value = x };
  value_made = λ p x. refl;
  owns_held = λ d vs. refl;
  owns_made = λ p x vs. refl;
  used_up = λ d f. tt;
}
