use Rattle.std.proofs.Common.{◌≡◌, ℕ, ◌+◌, ◌*◌, ◌<◌, ◌≤◌, ◌∷◌, ◌&&◌, ◌∙◌, List, length, drop, nat_le, sym, ap, arith, true, false}
use Rattle.std.proofs.lemmas.Bool.Decides.{nat_tests}
use Rattle.std.proofs.lemmas.List.{take_rest, length-drop}
use Rattle.byteorder.specs.Endian.{little_number}
use Rattle.cip_bytes.specs.Numbers.{words_of}
use Rattle.cip_objects.specs.Packets.{are_in_order, end_at}
use Rattle.cip_objects.proofs.Words.{words_step, words_end}
use Rattle.cip_objects.proofs.packet.are_in_order.Goals as goal

at_least : (a b : ℕ) → a ≤ b → nat_le a b ≡ true
at_least a b h = grind (arith, nat_tests)

below : (a b : ℕ) → b < a → nat_le a b ≡ false
below a b h = grind (arith, nat_tests)

goes_on : (content words later : List ℕ) (from to : ℕ) → words ≡ from ∷ later → to ≡ end_at content later → from + 2 ≤ to
    → are_in_order content words ≡ are_in_order content later
goes_on content words later from to e f h =
    ap (are_in_order content) e ∙ ap (λ n. nat_le (from + 2) n && are_in_order content later) (sym f)
    ∙ ap (λ t. t && are_in_order content later) (at_least (from + 2) to h)

stops : (content words later : List ℕ) (from to : ℕ) → words ≡ from ∷ later → to ≡ end_at content later → to < from + 2
    → are_in_order content words ≡ false
stops content words later from to e f h =
    ap (are_in_order content) e ∙ ap (λ n. nat_le (from + 2) n && are_in_order content later) (sym f)
    ∙ ap (λ t. t && are_in_order content later) (below (from + 2) to h)

-- the offset at an index, and those behind it
first : (xs : List ℕ) (k from : ℕ) → 2 * k + 2 ≤ length xs → from ≡ little_number 2 (drop (2 * k) xs)
    → words_of (drop (2 * k) xs) ≡ from ∷ words_of (drop (2 * (k + 1)) xs)
first xs k from h e = words_step k xs h ∙ ap (λ n. n ∷ words_of (drop (2 * (k + 1)) xs)) (sym e)

pub returns-then-to-from : goal.returns-then-to-from
returns-then-to-from c =
    let xs = c.args.offsets.now in
    let k = c.loop-index.index in
    let read : c.read_u16.result ≡ little_number 2 (drop (2 * k) xs) = rw (take_rest xs (2 * k)) at c.read_u16.ensures in
    let to : c.end_of-to.result ≡ end_at c.args.data.now (words_of (drop (2 * (k + 1)) xs)) = rw (take_rest xs (2 * (k + 1))) at c.end_of-to.ensures in
    let front = first xs k c.from-from.result (omega arith) (c.from-from.ensures ∙ read) in
    sym (stops c.args.data.now _ _ c.from-from.result c.end_of-to.result front to c.if-to-from.true) ∙ c.loop-index.invariant.left

pub loop-index-preserved : goal.loop-index-preserved
loop-index-preserved c =
    let xs = c.args.offsets.now in
    let k = c.loop-index.index in
    let read : c.read_u16.result ≡ little_number 2 (drop (2 * k) xs) = rw (take_rest xs (2 * k)) at c.read_u16.ensures in
    let to : c.end_of-to.result ≡ end_at c.args.data.now (words_of (drop (2 * (k + 1)) xs)) = rw (take_rest xs (2 * (k + 1))) at c.end_of-to.ensures in
    let front = first xs k c.from-from.result (omega arith) (c.from-from.ensures ∙ read) in
    record {
      left = sym (goes_on c.args.data.now _ _ c.from-from.result c.end_of-to.result front to c.if-to-from.false) ∙ c.loop-index.invariant.left;
    }

pub returns : goal.returns
returns c =
    let xs = c.args.offsets.now in
    let e = words_end (drop (2 * c.loop-index.index) xs) (omega (arith, length-drop (2 * c.loop-index.index) xs)) in
    sym (ap (are_in_order c.args.data.now) e) ∙ c.loop-index.invariant.left
