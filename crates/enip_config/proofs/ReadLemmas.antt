-- A configuration that was read, with its lists.
use Rattle.std.proofs.Common.{◌≡◌, ℕ, ◌≤◌, List, true, false, Option, Some, None, IfSome, Result, Ok, Err, IfErr, option_map, ap, ◌∙◌, subst, arith}
use Rattle.std.specs.Result.{IsErr, IsErrAnd}
use Rattle.std.specs.Prelude.{codes}
use Rattle.std.proofs.lemmas.Option.{none-some, same_Some}
use Rattle.std.proofs.NetLemmas.Options.{map_some}
use Rattle.toml.specs.Data.{Data, string, integer, float, boolean, datetime, array, table, Members, get_member}
use Rattle.cip_objects.specs.Configuration.{fault_of}
use Rattle.enip_config.specs.declared.configuration.Configuration.{Configuration}
use Rattle.config_refusal.specs.declared.fault.LoadFault.{LoadFault}
use Rattle.enip_config.specs.declared.ledger.LedgerConfig.{LedgerConfig}
use Rattle.config_refusal.specs.declared.fault.ConfigurationRefusal.TheVariants.{Commands}
use Rattle.config_refusal.specs.declared.fault.LoadFault.TheVariants.{Refused}
use Rattle.attribute_types.specs.Values.{read_or}
use Rattle.enip_config.specs.Keys.{originators_row, life_row, number_by, ledger_in, queue_in, ahead_in}
use Rattle.enip_config.specs.Access.{lists_of, lists_seen, IsBadList}
use Rattle.enip_config.specs.Documents.{HasValues, IsKnown, IsDescribed, IsFaultOf, IsInRange, IsLedgerInRange, IsQueueInRange, IsAheadInRange, AreSharesInRange, HasRanges}
use Rattle.enip_config.specs.Documents.{ledger_seen, has_unused_queue}
use Rattle.enip_config.proofs.Refused.{all_in_range, in_read}
use Rattle.enip_config.proofs.ShareLemmas.{both_some, shares_in_range}
use Rattle.enip_config.proofs.ListLemmas.{refused_by_lists}

in_ledger : (value : Data) (ledger : LedgerConfig) → ledger_in value ≡ Some (ledger_seen ledger) → HasRanges ledger
in_ledger (table described) ledger is =
    let parts = both_some (number_by originators_row described) (number_by life_row described) ledger.originators ledger.life is in
    let originators = in_read 1 64 None (get_member (codes "originators") described) ledger.originators tt parts.0 in
    let life = in_read 1 0x7fffffffffffffff (Some 1) (get_member (codes "life") described) ledger.life (omega arith, omega arith) parts.1 in
    record { originators_from = originators.0; originators_to = originators.1; life_from = life.0; life_to = life.1 }
in_ledger (string text) ledger is = absurd (none-some _ is)
in_ledger (integer n) ledger is = absurd (none-some _ is)
in_ledger (float x) ledger is = absurd (none-some _ is)
in_ledger (boolean b) ledger is = absurd (none-some _ is)
in_ledger (datetime moment) ledger is = absurd (none-some _ is)
in_ledger (array values) ledger is = absurd (none-some _ is)

ledger_read : (found : Option Data) (ledger : Option LedgerConfig)
    → read_or (Some None) (λ value. option_map (λ l. Some l) (ledger_in value)) found ≡ Some (option_map ledger_seen ledger) → IfSome ledger HasRanges
ledger_read found None is = tt
ledger_read None (Some ledger) is = absurd (none-some _ (same_Some None (Some (ledger_seen ledger)) is))
ledger_read (Some value) (Some ledger) is =
    map_some (λ l. Some l) (ledger_in value) (Some (ledger_seen ledger)) is λ l read same.
    in_ledger value ledger (read ∙ same)

-- the queue of the table `commands`
in_queue : (value : Data) (n : ℕ) → queue_in value ≡ Some n → (1 ≤ n) × (n ≤ 256)
in_queue (table described) n is = in_read 1 256 (Some 16) (get_member (codes "queue") described) n (omega arith, omega arith) is
in_queue (string text) n is = absurd (none-some _ is)
in_queue (integer m) n is = absurd (none-some _ is)
in_queue (float x) n is = absurd (none-some _ is)
in_queue (boolean b) n is = absurd (none-some _ is)
in_queue (datetime moment) n is = absurd (none-some _ is)
in_queue (array values) n is = absurd (none-some _ is)

queue_read : (found : Option Data) (queue : Option ℕ)
    → read_or (Some None) (λ value. option_map (λ limit. Some limit) (queue_in value)) found ≡ Some queue → IfSome queue (λ n. (1 ≤ n) × (n ≤ 256))
queue_read found None is = tt
queue_read None (Some n) is = absurd (none-some n (same_Some None (Some n) is))
queue_read (Some value) (Some n) is =
    map_some (λ limit. Some limit) (queue_in value) (Some n) is λ limit read same.
    in_queue value n (read ∙ same)

-- how many commands are handed over at once
in_ahead : (value : Data) (n : ℕ) → ahead_in value ≡ Some n → (1 ≤ n) × (n ≤ 256)
in_ahead (table described) n is = in_read 1 256 (Some 1) (get_member (codes "ahead") described) n (omega arith, omega arith) is
in_ahead (string text) n is = absurd (none-some _ is)
in_ahead (integer m) n is = absurd (none-some _ is)
in_ahead (float x) n is = absurd (none-some _ is)
in_ahead (boolean b) n is = absurd (none-some _ is)
in_ahead (datetime moment) n is = absurd (none-some _ is)
in_ahead (array values) n is = absurd (none-some _ is)

ahead_read : (found : Option Data) (n : ℕ) → read_or (Some 1) ahead_in found ≡ Some n → (1 ≤ n) × (n ≤ 256)
ahead_read None n is = let same : 1 ≡ n = same_Some 1 n is in (omega (arith, same), omega (arith, same))
ahead_read (Some value) n is = in_ahead value n is

-- what the lists refuse
pub refused_by : {T U : Type 0} (bytes : List ℕ) (described : Members) (c : Configuration) (r : Result T LoadFault) (fault : LoadFault)
    (returned : Result U LoadFault) → IsKnown bytes described → HasValues described c → fault_of c.objects ≡ None
    → IfErr r (IsBadList (lists_of described)) → r ≡ Err fault → IsErr returned × IsErrAnd returned (λ f. f ≡ fault)
    → IfErr returned (IsFaultOf bytes)
refused_by bytes described c r fault (Ok x) known values taken bad is gives = tt
refused_by bytes described c r fault (Err why) known values taken bad is gives =
    rw gives.1 (refused_by_lists bytes described c fault known values taken (subst (λ s. IfErr s (IsBadList (lists_of described))) is bad))

pub in_range_by : (described : Members) (x : Configuration) → HasValues described x → IsInRange x
in_range_by described x values = all_in_range described x values

pub ledger_by : (described : Members) (x : Configuration) → HasValues described x → IsLedgerInRange x
ledger_by described x values = ledger_read (get_member (codes "ledger") described) x.ledger values.ledger

pub queue_by : (described : Members) (x : Configuration) → HasValues described x → IsQueueInRange x
queue_by described x values = queue_read (get_member (codes "commands") described) x.queue values.queue

pub ahead_by : (described : Members) (x : Configuration) → HasValues described x → IsAheadInRange x
ahead_by described x values =
    let within = ahead_read (get_member (codes "commands") described) x.ahead values.ahead in
    record { from = within.0; to = within.1 }

pub shares_by : (described : Members) (x : Configuration) → HasValues described x → AreSharesInRange x
shares_by described x values = shares_in_range described x values

-- what is accepted
pub described_by : (bytes : List ℕ) (described : Members) (c x : Configuration)
    → IsKnown bytes described → fault_of c.objects ≡ None → HasValues described x → x.objects ≡ c.objects
    → lists_of described ≡ Some (option_map lists_seen x.access) → has_unused_queue x ≡ false → IsDescribed bytes x
described_by bytes described c x known taken values same lists used = record {
  described = described;
  listed = record { known = known; values = values; taken = ap fault_of same ∙ taken; lists = lists };
  used = used;
}

-- a queue that no service uses
pub refused_by_queue : (bytes : List ℕ) (described : Members) (c x : Configuration)
    → IsKnown bytes described → fault_of c.objects ≡ None → HasValues described x → x.objects ≡ c.objects
    → lists_of described ≡ Some (option_map lists_seen x.access) → has_unused_queue x ≡ true → IsFaultOf bytes (Refused Commands)
refused_by_queue bytes described c x known taken values same lists unused = (
  described,
  (x, (record { known = known; values = values; taken = ap fault_of same ∙ taken; lists = lists }, unused)),
)
