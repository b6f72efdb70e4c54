-- Own writes of the device, one after the other: they are calls of the adapter, and change no slot.
use Rattle.std.proofs.Common.{◌≡◌, ℕ, List, [], ◌∷◌, ◌++◌, map, refl, sym, ap, ◌∙◌}
use Rattle.enip_adapter.specs.Calls.{AdapterState, Call}
use Rattle.enip_adapter.specs.Calls.Call.{Writes}
use Rattle.enip_adapter.specs.OwnWrites.{OwnWrite}
use Rattle.enip_adapter.specs.Runs.{after_calls}
use Rattle.enip_server.specs.Rounds.{ServerState, written_by, written_all, IsWritten}

module _ {W : Type 0} where
  -- what they make of the adapter
  pub written_calls : (writes : List OwnWrite) (p : ServerState W)
      → (written_all writes p).adapter ≡ after_calls p.adapter (map Writes writes)
  written_calls [] p = refl
  written_calls (write ∷ writes) p = written_calls writes (written_by write p)

  pub written_slots : (writes : List OwnWrite) (p : ServerState W) → (written_all writes p).slots ≡ p.slots
  written_slots [] p = refl
  written_slots (write ∷ writes) p = written_slots writes (written_by write p)

  written-append : (first last : List OwnWrite) (p : ServerState W)
      → written_all (first ++ last) p ≡ written_all last (written_all first p)
  written-append [] last p = refl
  written-append (write ∷ first) last p = written-append first last (written_by write p)

  -- ---- nothing else changed

  pub nothing_written : (p : ServerState W) → IsWritten p p
  nothing_written p = ([], refl)

  pub written_once : (write : OwnWrite) (old new : ServerState W) → new ≡ written_by write old → IsWritten old new
  written_once write old new is = (write ∷ [], is)

  pub written_then : (a b c : ServerState W) → IsWritten a b → IsWritten b c → IsWritten a c
  written_then a b c first last = (
    first.0 ++ last.0,
    last.1 ∙ ap (written_all last.0) first.1 ∙ sym (written-append first.0 last.0 a),
  )

  -- a state that is the same
  pub written_same : (old new : ServerState W) → new ≡ old → IsWritten old new
  written_same old new is = ([], is)
