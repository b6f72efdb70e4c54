-- A state that is read, and what starts from it.
use Rattle.std.proofs.Common.{◌≡◌, inr, ℕ, ◌==◌, List, [], ◌∷◌, length, true, false, Option, Some, Result, Ok, Err, IfOk, IfErr, refl, sym, ap, subst, ◌∙◌, arith}
use Rattle.std.specs.Prelude.{◌↔◌}
use Rattle.std.proofs.lemmas.Bool.{eqb-true, eqb-false}
use Rattle.cip_ledger.specs.declared.doubt.DoubtfulCommand.{DoubtfulCommand}
use Rattle.enip_adapter.specs.Calls.{AdapterState}
use Rattle.enip_keep.specs.Kept.{Kept}
use Rattle.kept_adapter.specs.declared.adapter_start.AdapterStart.{AdapterStart}
use Rattle.kept_adapter.specs.Started.{put_back_in}
use Rattle.saved_state.specs.declared.fault.StateFault.{StateFault}
use Rattle.saved_state.specs.Reading.{fault_of, state_in, state_of, unless}
use Rattle.saved_state.specs.States.{State, IsState, spelled}
use Rattle.saved_state.proofs.SpelledLemmas.{read_again_lem}
use Rattle.saved_adapter.specs.declared.starting.RestoreFault.{RestoreFault}
use Rattle.saved_adapter.specs.declared.starting.RestoreFault.TheVariants as fault
use Rattle.saved_adapter.specs.Entries.{entries_in_doubt, generation_of, kept_in, last_state, nothing_kept}
use Rattle.saved_adapter.specs.Starting.{IsFaultWith, IsRestoreFault, IsStartedFrom, IsStartedWith, IsStateFault}

-- ---- what is read

read_is : (bytes : List ℕ) (result : Result State StateFault)
    → ((s : State) → (result ≡ Ok s) ↔ (IsState s × (bytes ≡ spelled s)))
    → ((why : StateFault) → (result ≡ Err why) ↔ (fault_of bytes ≡ Some why)) → result ≡ state_of bytes
read_is bytes (Ok s) read refused =
    let is = (read s).0 refl in sym (ap state_of is.1 ∙ read_again_lem s is.0)
read_is bytes (Err why) read refused = sym (ap (λ o. unless o (state_in bytes)) ((refused why).0 refl))

last_none : (bytes : List ℕ) → (length bytes == 0) ≡ true → last_state bytes ≡ Ok nothing_kept
last_none [] e = refl
last_none (b ∷ bytes) e = absurd (omega (arith, eqb-true (length (b ∷ bytes)) 0 e))

last_some : (bytes : List ℕ) → (length bytes == 0) ≡ false → last_state bytes ≡ state_of bytes
last_some [] e = absurd (eqb-false 0 0 e refl)
last_some (b ∷ bytes) e = refl

pub last_is : (bytes : List ℕ) (result : Result State StateFault) → (length bytes == 0) ≡ false
    → ((s : State) → (result ≡ Ok s) ↔ (IsState s × (bytes ≡ spelled s)))
    → ((why : StateFault) → (result ≡ Err why) ↔ (fault_of bytes ≡ Some why)) → last_state bytes ≡ result
last_is bytes result e read refused = last_some bytes e ∙ sym (read_is bytes result read refused)

-- ---- the generation

pub first_generation : (bytes : List ℕ) (doubt : Option DoubtfulCommand) (a : AdapterState)
    → (length bytes == 0) ≡ true
    → ◌≡◌ {A = Result ℕ StateFault} (Ok 1) (generation_of (last_state bytes) (entries_in_doubt doubt a))
first_generation bytes doubt a e =
    sym (ap (λ l. generation_of l (entries_in_doubt doubt a)) (last_none bytes e))

-- ---- the start

pub if_ok : {A E : Type 0} (P Q : A → Type 0) → ((x : A) → P x → Q x) → (r : Result A E) → IfOk r P → IfOk r Q
if_ok P Q h (Ok x) p = h x p
if_ok P Q h (Err e) p = p

pub if_err : {A E : Type 0} (P Q : E → Type 0) → ((e : E) → P e → Q e) → (r : Result A E) → IfErr r P → IfErr r Q
if_err P Q h (Ok x) p = p
if_err P Q h (Err e) p = h e p

pub with_entries : (start : AdapterStart) (s : State) (kept : Kept) (why : RestoreFault) → kept ≡ kept_in s.entries
    → IsFaultWith start kept why → IsStateFault start s why
with_entries start s kept fault.Memory e h = tt
with_entries start s kept (fault.Malformed why) e h = h
with_entries start s kept fault.OtherDevice e h =
    inr (subst (λ k. (put_back_in start k).is_other_device ≡ true) e h)
with_entries start s kept fault.Order e h = subst (λ k. IsFaultWith start k fault.Order) e h

pub first_start : (start : AdapterStart) (bytes : List ℕ) (a : AdapterState) → (length bytes == 0) ≡ true
    → IsStartedWith start [] a → IsStartedFrom start bytes a
first_start start bytes a e h = record { state = nothing_kept; read = last_none bytes e; adapter = h }

pub first_fault : (start : AdapterStart) (bytes : List ℕ) (why : RestoreFault) → (length bytes == 0) ≡ true
    → IsFaultWith start [] why → IsRestoreFault start bytes why
first_fault start bytes fault.Memory e h = tt
first_fault start bytes (fault.Malformed why) e h = absurd h
first_fault start bytes fault.OtherDevice e h = (nothing_kept, (last_none bytes e, inr h))
first_fault start bytes fault.Order e h = (nothing_kept, (last_none bytes e, h))

pub state_start : (start : AdapterStart) (bytes : List ℕ) (s : State) (a : AdapterState) → last_state bytes ≡ Ok s
    → IsStartedWith start (kept_in s.entries) a → IsStartedFrom start bytes a
state_start start bytes s a e h = record { state = s; read = e; adapter = h }

pub state_fault : (start : AdapterStart) (bytes : List ℕ) (s : State) (why : RestoreFault)
    → last_state bytes ≡ Ok s → IsStateFault start s why → IsRestoreFault start bytes why
state_fault start bytes s fault.Memory e h = tt
state_fault start bytes s (fault.Malformed why) e h = absurd h
state_fault start bytes s fault.OtherDevice e h = (s, (e, h))
state_fault start bytes s fault.Order e h = (s, (e, h))
