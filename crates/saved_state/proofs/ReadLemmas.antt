-- What reading gives, from what its steps found.
use Rattle.std.proofs.Common.{◌≡◌, ℕ, ◌-◌, ◌==◌, not, if◌then◌else◌, List, length, take, drop, Option, Some, None, Ok, Err, sym, ap, ◌∙◌, arith}
use Rattle.std.proofs.lemmas.Bool.Decides.{nat_tests}
use Rattle.cip_bytes.proofs.Bytes.{rest_slice}
use Rattle.saved_state.specs.declared.fault.StateFault.{StateFault}
use Rattle.saved_state.specs.Checksum.{checksum}
use Rattle.saved_state.specs.States.{State}
use Rattle.saved_state.specs.Reading.{body_in, entries_in, checksum_in, count_in, generation_in, state_in, first_entries}
use Rattle.saved_state.specs.Reading.{head_fault, content_fault, entries_fault, fault_of, first_of, unless, state_of}

check_equal : {A : Type 0} (a b : ℕ) (x y : A) → a ≡ b → (if not (a == b) then x else y) ≡ y
check_equal a b x y e = grind (arith, nat_tests)

pub content_right : (text : List ℕ) → checksum (body_in text) ≡ checksum_in text
    → content_fault text ≡ entries_fault (count_in text) 0 (entries_in text)
content_right text e = check_equal (checksum (body_in text)) (checksum_in text) _ _ e

-- the entries of the code are those of the definition
entries_slice : (text : List ℕ)
    → take (length (take (length text - 8) text) - 28) (drop 28 (take (length text - 8) text)) ≡ entries_in text
entries_slice text = rest_slice 28 (take (length text - 8) text)

fault_found : (text : List ℕ) (count : ℕ) (found : Option StateFault) → None ≡ head_fault text
    → checksum (body_in text) ≡ checksum_in text → count ≡ count_in text
    → found ≡ entries_fault count 0 (take (length (take (length text - 8) text) - 28) (drop 28 (take (length text - 8) text)))
    → found ≡ fault_of text
fault_found text count found head sum n e =
    e ∙ ap (λ t. entries_fault count 0 t) (entries_slice text) ∙ ap (λ m. entries_fault m 0 (entries_in text)) n
    ∙ sym (content_right text sum) ∙ ap (λ h. first_of h (content_fault text)) head

pub refused : (text : List ℕ) (count : ℕ) (fault : StateFault) → None ≡ head_fault text
    → checksum (body_in text) ≡ checksum_in text → count ≡ count_in text
    → Some fault ≡ entries_fault count 0 (take (length (take (length text - 8) text) - 28) (drop 28 (take (length text - 8) text)))
    → Err fault ≡ state_of text
refused text count fault head sum n e =
    ap (λ f. unless f (state_in text)) (fault_found text count (Some fault) head sum n e)

same_state : (g h n m : ℕ) (t u : List ℕ) → g ≡ h → n ≡ m → t ≡ u
    → ◌≡◌ {A = State} (record { generation = g; entries = first_entries n t }) (record { generation = h; entries = first_entries m u })
same_state g h n m t u p q r = cc

pub accepted : (text : List ℕ) (generation count : ℕ) → None ≡ head_fault text
    → checksum (body_in text) ≡ checksum_in text → generation ≡ generation_in text → count ≡ count_in text
    → None ≡ entries_fault count 0 (take (length (take (length text - 8) text) - 28) (drop 28 (take (length text - 8) text)))
    → Ok (let s : State = record { generation = generation; entries = first_entries count (take (length (take (length text - 8) text) - 28) (drop 28 (take (length text - 8) text))) } in s)
    ≡ state_of text
accepted text generation count head sum g n e =
    ap Ok (same_state generation (generation_in text) count (count_in text) _ (entries_in text) g n (entries_slice text))
    ∙ ap (λ f. unless f (state_in text)) (fault_found text count None head sum n e)
