-- Get_Result after the services of an object, and how many queued commands can wait.
use Rattle.std.proofs.Common.{◌≡◌, ◌≤◌, ℕ, List, [], ◌∷◌, ◌++◌, ◌||◌, Bool, true, false, Option, Some, None, IfSome, map, option_map, inl, inr, refl, sym, ap, ◌∙◌, arith}
use Rattle.std.specs.Prelude.{unwrap_or, if◌then◌else◌}
use Rattle.std.specs.List.{list_any}
use Rattle.cip_application.specs.declared.config.ServiceConfig.{ServiceConfig}
use Rattle.config_refusal.specs.declared.fault.LoadFault.{LoadFault}
use Rattle.enip_config.specs.Commands.{is_queued, is_queued_kind}
use Rattle.attribute_types.specs.Values.{IsBadOrMemory}
use Rattle.enip_config.specs.Objects.{ServiceSeen, service_seen, get_result, with_result}

-- a service is seen as queued if it is
seen_queued : (services : List ServiceConfig)
    → list_any (λ service. is_queued_kind service.1.1.1) (map service_seen services) ≡ list_any is_queued services
seen_queued [] = refl
seen_queued (s ∷ services) = ap (λ rest. is_queued s || rest) (seen_queued services)

map_last : (services : List ServiceConfig) (s : ServiceConfig)
    → map service_seen (services ++ (s ∷ [])) ≡ map service_seen services ++ (service_seen s ∷ [])
map_last [] s = refl
map_last (t ∷ services) s = ap (λ rest. service_seen t ∷ rest) (map_last services s)

result_by : (seen : List ServiceSeen) (some : Bool) → list_any (λ service. is_queued_kind service.1.1.1) seen ≡ some
    → with_result seen ≡ (if some then seen ++ (get_result ∷ []) else seen)
result_by seen some is = ap (λ queued. if queued then seen ++ (get_result ∷ []) else seen) is

-- without a queued service, the services are those that are described
pub without_queued : (described : Option (List ServiceSeen)) (services : List ServiceConfig)
    → described ≡ Some (map service_seen services) → list_any is_queued services ≡ false
    → option_map with_result described ≡ Some (map service_seen services)
without_queued described services is none =
    ap (option_map with_result) is ∙ ap Some (result_by (map service_seen services) false (seen_queued services ∙ none))

-- with one, Get_Result comes last
pub with_queued : (described : Option (List ServiceSeen)) (services : List ServiceConfig) (s : ServiceConfig)
    → described ≡ Some (map service_seen services) → list_any is_queued services ≡ true → service_seen s ≡ get_result
    → option_map with_result described ≡ Some (map service_seen (services ++ (s ∷ [])))
with_queued described services s is some result =
    ap (option_map with_result) is
    ∙ ap Some (result_by (map service_seen services) true (seen_queued services ∙ some)
    ∙ ap (λ last. map service_seen services ++ (last ∷ [])) (sym result) ∙ sym (map_last services s))

-- services that could not be read
pub bad_services : (described : Option (List ServiceSeen)) (fault : LoadFault) → IsBadOrMemory described fault
    → IsBadOrMemory (option_map with_result described) fault
bad_services described fault (inl memory) = inl memory
bad_services described fault (inr bad) = inr (bad.0, ap (option_map with_result) bad.1)

-- the limit of a queue is in range
chosen : (used : Bool) (queue : Option ℕ) → IfSome queue (λ n. (1 ≤ n) × (n ≤ 256))
    → IfSome (if used then Some (unwrap_or queue 16) else None) (λ n. (1 ≤ n) × (n ≤ 256))
chosen false queue within = tt
chosen true None within = (omega arith, omega arith)
chosen true (Some n) within = within

first_of : (limit : Option ℕ) → IfSome limit (λ n. (1 ≤ n) × (n ≤ 256)) → IfSome limit (λ n. 1 ≤ n)
first_of None within = tt
first_of (Some n) within = within.0

last_of : (limit : Option ℕ) → IfSome limit (λ n. (1 ≤ n) × (n ≤ 256)) → IfSome limit (λ n. n ≤ 256)
last_of None within = tt
last_of (Some n) within = within.1
