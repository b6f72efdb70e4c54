-- What the calls for a state return, by what the calls below return.
use Rattle.std.proofs.Common.{◌≡◌, ℕ, ◌++◌, ◌^◌, List, length, Bool, true, false, not, nat_lt, if◌then◌else◌}
use Rattle.std.proofs.Common.{Option, Some, None, Result, Ok, Err, refl, ap, ◌∙◌}
use Rattle.saved_state.specs.declared.fault.StateFault.{StateFault}
use Rattle.saved_state.specs.declared.fault.WriteFault.{WriteFault}
use Rattle.saved_state.specs.declared.fault.WriteFault.TheVariants.{Order, TooLong, Full}
use Rattle.saved_state.specs.States.{Entry, State, size, rise_from}
use Rattle.saved_state.specs.Writing.{entries_refusal, write_refusal}
use Rattle.cip_ledger.specs.declared.doubt.DoubtfulCommand.{DoubtfulCommand}
use Rattle.enip_adapter.specs.Calls.{AdapterState}
use Rattle.enip_adapter.specs.Executing.{executing}
use Rattle.saved_adapter.specs.Entries.{entries_in_doubt, generation_of}
use Rattle.enip_c.specs.declared.status.Status.TheVariants as status
use Rattle.enip_c.specs.Buffer.{returned, status_number}
use Rattle.enip_c.specs.StateCalls.{entries_kept, generation_by, returned_state, state_by}

-- it does not fit
pub not_written : (entries : List Entry) (generation count : ℕ) (buffer : List ℕ) (fault : WriteFault)
    → entries_refusal entries ≡ None → write_refusal (length buffer) entries ≡ Some fault
    → returned status.Room (size entries) buffer ≡ returned_state entries generation count buffer
not_written entries generation count buffer fault can e =
    go (rise_from 0 entries) (nat_lt (size entries) (2 ^ 32)) (nat_lt (length buffer) (size entries)) can e
  where
    go : (rises few short : Bool)
        → (if not rises then Some Order else (if few then None else Some TooLong)) ≡ None
        → (if not rises then Some Order else (if not few then Some TooLong else (if short then Some Full else None)))
        ≡ Some fault
        → returned status.Room (size entries) buffer
        ≡ state_by
        (if not rises then Some Order else (if not few then Some TooLong else (if short then Some Full else None)))
        entries generation count buffer
    go false few short can e = absurd (cc)
    go true false short can e = absurd (cc)
    go true true true can e = refl
    go true true false can e = absurd (cc)

-- ---- the generation

pub is_generation : (last : Result State StateFault) (entries : List Entry) (old new : ℕ)
    → Ok new ≡ generation_of last entries → generation_by last entries old new (status_number status.Done)
is_generation (Ok s) entries old new e = (refl, same_ok new _ e)
  where
    same_ok : (a b : ℕ) → ◌≡◌ {A = Result ℕ StateFault} (Ok a) (Ok b) → a ≡ b
    same_ok a b e = cc
is_generation (Err fault) entries old new e = absurd (cc)

pub no_generation : (last : Result State StateFault) (entries : List Entry) (old : ℕ) (fault : StateFault)
    → Err fault ≡ generation_of last entries
    → generation_by last entries old old (status_number status.SavedState)
no_generation (Ok s) entries old fault e = absurd (cc)
no_generation (Err other) entries old fault e = (refl, refl)

-- ---- the entries of an adapter that C keeps

pub entries_of_kept : (kept : Option AdapterState) (taken after : AdapterState) (doubt : Option DoubtfulCommand)
    (peer : ℕ) (piece : List ℕ) → Some taken ≡ kept → after ≡ taken → doubt ≡ executing taken peer piece
    → entries_in_doubt doubt after ≡ entries_kept kept peer piece
entries_of_kept kept taken after doubt peer piece is same by =
    ap (λ d. entries_in_doubt d after) by
    ∙ (ap (entries_in_doubt (executing taken peer piece)) same ∙ ap (λ k. entries_kept k peer piece) is)
