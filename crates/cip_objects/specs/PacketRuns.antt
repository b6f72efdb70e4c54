-- What the calls leave that execute a packet.
use Rattle.std.specs.Prelude.{◌≡◌, ℕ, Bool, true, false, List, [], ◌∷◌, Result, Ok, Err}
use Rattle.cip_bytes.specs.Reading.{◌>>=◌}
use Rattle.cip_objects.specs.declared.status.Refusal.{Refusal}
use Rattle.cip_objects.specs.Contents.{Contents}
use Rattle.cip_objects.specs.Execution.{Executed, exec}
use Rattle.cip_objects.specs.Packets.{requests_of, run_within, exec_routed}

-- The result of a call of the code, with the contents and the reply afterwards.
abbrev pub packet_result : Contents → Result (Unit {0}) Refusal → List ℕ → Result Executed Refusal
packet_result after (Ok done) answer = Ok (record { after = after; answer = answer })
packet_result after (Err refusal) answer = Err refusal

-- What becomes of a packet with this service and these data.
abbrev pub packet_outcome : Contents → ℕ → ℕ → List ℕ → Result Executed Refusal
packet_outcome m max_size service content = requests_of content >>= run_within m max_size (service ∷ [])

-- The request was executed as a packet, or it is none, and nothing was done.
abbrev pub IsPacketExecuted : Contents → ℕ → List ℕ → Bool → Contents → List ℕ → List ℕ → Type 0
IsPacketExecuted m max_size text true after old new =
    (after ≡ (exec_routed m max_size text).after) × (new ≡ (exec_routed m max_size text).answer)
IsPacketExecuted m max_size text false after old new =
    (after ≡ m) × (new ≡ old) × (exec_routed m max_size text ≡ exec m max_size text)
