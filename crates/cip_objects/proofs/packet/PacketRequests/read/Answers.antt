use Rattle.std.specs.Prelude.{IsErrAnd}
use Rattle.std.proofs.Common.{◌≡◌, ◌≤◌, ◌+◌, ◌-◌, ◌*◌, ◌∙◌, ℕ, nat_le, true, List, take, drop, length, Result, Ok, Err, ap, sym, arith}
use Rattle.std.proofs.lemmas.Bool.Decides.{nat_tests}
use Rattle.std.proofs.lemmas.List.{length-take, length-drop}
use Rattle.byteorder.specs.Endian.{little_number}
use Rattle.cip_bytes.specs.Numbers.{words_of}
use Rattle.cip_bytes.specs.Reading.{◌>>◌}
use Rattle.cip_objects.specs.Check.{demand}
use Rattle.cip_objects.specs.declared.status.Refusal.{Refusal}
use Rattle.cip_objects.specs.declared.status.Refusal.TheVariants.{NotEnoughData}
use Rattle.cip_objects.specs.Packets.{requests_of, requests_at, check_requests, numbers_size, offsets_in}
use Rattle.cip_objects.proofs.Packets.{requests_long, requests_few, words_few}
use Rattle.cip_objects.proofs.packet.PacketRequests.read.Goals as goal

-- the requests at these offsets, if they are in order
abbrev checked : List ℕ → List ℕ → ℕ → Result (List (List ℕ)) Refusal
checked content offsets behind = check_requests content offsets behind >> Ok (requests_at content offsets)

-- data that have their offsets
whole : (content : List ℕ) → 2 ≤ length content → numbers_size (little_number 2 content) ≤ length content
    → requests_of content ≡ checked content (offsets_in content) (numbers_size (little_number 2 content))
unfolding requests_of
whole content h k =
    let behind = numbers_size (little_number 2 content) in
    let enough : nat_le 2 (length content) ≡ true = grind (arith, nat_tests) in
    let offsets : nat_le behind (length content) ≡ true = grind (arith, nat_tests) in
    ap (λ t. demand t NotEnoughData >> (demand (nat_le behind (length content)) NotEnoughData >> checked content (offsets_in content) behind)) enough
    ∙ ap (λ t. demand t NotEnoughData >> checked content (offsets_in content) behind) offsets

-- the same by the count
counted : (content : List ℕ) (n : ℕ) → n ≡ little_number 2 content → 2 ≤ length content → 2 + 2 * n ≤ length content
    → requests_of content ≡ checked content (words_of (take (2 + 2 * n - 2) (drop 2 content))) (2 + 2 * n)
counted content n e h k =
    let size : 2 + 2 * n - 2 ≡ 2 * little_number 2 content = omega (arith, e) in
    let behind : 2 + 2 * n ≡ numbers_size (little_number 2 content) = omega (arith, e) in
    whole content h (omega (arith, e, k))
    ∙ sym (ap (λ s. checked content (words_of (take s (drop 2 content))) (2 + 2 * n)) size
    ∙ ap (λ b. checked content (offsets_in content) b) behind)

refused : {A : Type 0} (r : Result A Refusal) (refusal : Refusal) → IsErrAnd r (λ e. e ≡ refusal) → r ≡ Err refusal
refused (Ok x) refusal p = absurd p
refused (Err e) refusal p = ap Err p

pub returns-in_err-check_requests-clause-read : goal.returns-in_err-check_requests-clause-read
returns-in_err-check_requests-clause-read c =
    let content = c.args.data.now in
    let n : c.from.result ≡ little_number 2 content = c.from.ensures ∙ c.read_u16.ensures in
    refused c.from_residual.result c.in_err-check_requests.field-0.0 c.from_residual.ensures.1
    ∙ ap (λ r. r >> Ok (requests_at content (words_of (take (2 + 2 * c.from.result - 2) (drop 2 content))))) (sym c.in_err-check_requests.was ∙ c.check_requests.ensures)
    ∙ sym (counted content c.from.result n (omega arith) (omega arith))

pub returns-clause-read : goal.returns-clause-read
returns-clause-read c =
    let content = c.args.data.now in
    let n : c.from.result ≡ little_number 2 content = c.from.ensures ∙ c.read_u16.ensures in
    ap (λ r. r >> Ok (requests_at content (words_of (take (2 + 2 * c.from.result - 2) (drop 2 content))))) (sym c.in_ok-check_requests.was ∙ c.check_requests.ensures)
    ∙ sym (counted content c.from.result n (omega arith) (omega arith))

pub returns-clause-long : goal.returns-clause-long
returns-clause-long c = requests_long c.args.data.now (words_of (take (2 + 2 * c.from.result - 2) (drop 2 c.args.data.now)))

pub returns-clause-few : goal.returns-clause-few
returns-clause-few c =
    let bytes = take (2 + 2 * c.from.result - 2) (drop 2 c.args.data.now) in
    let size : length bytes ≤ 2 * c.from.result = simp (length-take, length-drop) (omega arith) in
    omega (arith, size, requests_few c.args.data.now (words_of bytes), words_few bytes, c.from.ensures, c.read_u16.type_inv)
