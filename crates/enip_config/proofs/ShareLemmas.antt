-- The shares of the table `access` are in range.
use Rattle.std.proofs.Common.{◌≡◌, ℕ, ◌≤◌, Option, Some, None, IfSome, option_map, refl, sym, ap, ◌∙◌, subst, rules}
use Rattle.std.proofs.lemmas.Option.{none-some, same_Some}
use Rattle.std.proofs.NetLemmas.Options.{map_some}
use Rattle.std.specs.Prelude.{codes}
use Rattle.toml.specs.Data.{Data, string, integer, float, boolean, datetime, array, table, Members, get_member}
use Rattle.enip_access.specs.declared.access.Access.{Access}
use Rattle.attribute_types.specs.Values.{both, number_in, read_or}
use Rattle.enip_config.specs.Access.{shares_in, shares_of, shares_seen, IsShare, HasShares}
use Rattle.enip_config.specs.declared.configuration.Configuration.{Configuration}
use Rattle.enip_config.specs.Documents.{HasValues, AreSharesInRange}
use Rattle.enip_config.proofs.Refused.{in_numbers}

share_read : (greatest : ℕ) (found : Option Data) (share : Option ℕ)
    → read_or (Some None) (λ value. option_map (λ n. Some n) (number_in 1 greatest value)) found ≡ Some share → IsShare greatest share
share_read greatest found None is = tt
share_read greatest None (Some n) is = absurd (none-some n (same_Some None (Some n) is))
share_read greatest (Some d) (Some n) is =
    map_some (λ m. Some m) (number_in 1 greatest d) (Some n) is λ m read same.
    in_numbers 1 greatest d n (read ∙ same)

pub both_some : {A B : Type 0} (a : Option A) (b : Option B) (x : A) (y : B) → both a b ≡ Some (x, y) → (a ≡ Some x) × (b ≡ Some y)
both_some None b x y is = absurd (none-some (x, y) is)
both_some (Some a) None x y is = absurd (none-some (x, y) is)
both_some (Some a) (Some b) x y is =
    let same = same_Some (a, b) (x, y) is in
    (ap (λ p. Some p.0) same, ap (λ p. Some p.1) same)

in_shares : (value : Data) (peers connections : Option ℕ) → shares_in value ≡ Some (peers, connections) → IsShare 16 peers × IsShare 64 connections
in_shares (table described) peers connections is =
    let parts = both_some _ _ peers connections is in
    (share_read 16 (get_member (codes "per_address") described) peers parts.0, share_read 64 (get_member (codes "connections_per_address") described) connections parts.1)
in_shares (string text) peers connections is = absurd (none-some _ is)
in_shares (integer n) peers connections is = absurd (none-some _ is)
in_shares (float x) peers connections is = absurd (none-some _ is)
in_shares (boolean b) peers connections is = absurd (none-some _ is)
in_shares (datetime moment) peers connections is = absurd (none-some _ is)
in_shares (array values) peers connections is = absurd (none-some _ is)

shares_read : (found : Option Data) (access : Option Access)
    → read_or (Some None) (λ value. option_map (λ shares. Some shares) (shares_in value)) found ≡ Some (option_map shares_seen access) → IfSome access HasShares
shares_read found None is = tt
shares_read None (Some access) is = absurd (none-some _ (same_Some None (Some (shares_seen access)) is))
shares_read (Some value) (Some access) is =
    map_some (λ shares. Some shares) (shares_in value) (Some (shares_seen access)) is λ shares read same.
    in_shares value access.per_address access.connections_per_address (read ∙ same)

pub shares_in_range : (described : Members) (c : Configuration) → HasValues described c → AreSharesInRange c
shares_in_range described c values = shares_read (get_member (codes "access") described) c.access values.shares
