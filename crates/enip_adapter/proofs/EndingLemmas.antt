-- Which connections ended, one after the other.
use Rattle.std.proofs.Common.{◌≡◌, ℕ, zero, suc, ◌+◌, ◌<◌, true, false, not, cond, List, [], ◌∷◌, ◌++◌, length, get_or, map, filter, take, refl, sym, ap, ◌∙◌, arith}
use Rattle.std.proofs.lemmas.List.{take_more}
use Rattle.cip_manager.specs.declared.connection.Connection.{Connection}
use Rattle.cip_manager.specs.declared.connection.ConnectionInfo.{ConnectionInfo}
use Rattle.cip_manager.specs.ConnectionInfo.{connection_info}
use Rattle.enip_adapter.specs.declared.endings.EndedConnection.{EndedConnection}
use Rattle.enip_adapter.specs.Calls.{AdapterState}
use Rattle.enip_adapter.specs.Endings.{is_open_in, ending, endings_of}

pub endings-append : (a : AdapterState) (xs ys : List ConnectionInfo) → endings_of a (xs ++ ys) ≡ endings_of a xs ++ endings_of a ys
endings-append a [] ys = refl
endings-append a (x ∷ xs) ys =
    elim (not (is_open_in a x)) as (λ t. map (ending a) (cond t (x ∷ filter (λ w. not (is_open_in a w)) (xs ++ ys)) (filter (λ w. not (is_open_in a w)) (xs ++ ys)))
    ≡ map (ending a) (cond t (x ∷ filter (λ w. not (is_open_in a w)) xs) (filter (λ w. not (is_open_in a w)) xs)) ++ endings_of a ys) [
      | true ↦ ap (λ l. ending a x ∷ l) (endings-append a xs ys)
      | false ↦ endings-append a xs ys
    ]

-- one more connection
pub ended_more : (a : AdapterState) (remembered : List ConnectionInfo) (i : ℕ) (d : ConnectionInfo) (old new : List EndedConnection) → i < length remembered
    → new ≡ old ++ endings_of a (get_or remembered i d ∷ []) → old ≡ endings_of a (take i remembered) → new ≡ endings_of a (take (i + 1) remembered)
ended_more a remembered i d old new inside is before =
    is
    ∙ ap (λ l. l ++ endings_of a (get_or remembered i d ∷ [])) before
    ∙ sym (ap (endings_of a) (take_more remembered i d inside) ∙ endings-append a (take i remembered) (get_or remembered i d ∷ []))

-- one more index
listed_more : (connections : List Connection) (i : ℕ) (w : ConnectionInfo) → i < length connections → ((d : Connection) → w ≡ connection_info (get_or connections i d))
    → map connection_info (take (suc i) connections) ≡ map connection_info (take i connections) ++ w ∷ []
listed_more [] i w inside is = absurd (omega arith)
listed_more (c ∷ cs) zero w inside is = ap (λ x. x ∷ []) (sym (is c))
listed_more (c ∷ cs) (suc i) w inside is = ap (λ l. connection_info c ∷ l) (listed_more cs i w (omega arith) is)

pub seen_more : (connections : List Connection) (i : ℕ) (w : ConnectionInfo) (old new : List ConnectionInfo) → i < length connections
    → ((d : Connection) → w ≡ connection_info (get_or connections i d)) → new ≡ old ++ w ∷ [] → old ≡ map connection_info (take i connections)
    → new ≡ map connection_info (take (i + 1) connections)
seen_more connections i w old new inside is appended before =
    let next : i + 1 ≡ suc i = omega arith in
    appended
    ∙ ap (λ l. l ++ w ∷ []) before
    ∙ sym (ap (λ n. map connection_info (take n connections)) next ∙ listed_more connections i w inside is)
