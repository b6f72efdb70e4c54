-- Writing part after part.
use Rattle.std.proofs.Common.{◌≡◌, ℕ, ◌+◌, ◌-◌, ◌<◌, ◌≤◌, List, [], ◌∷◌, ◌++◌, length, take, drop, refl, sym, ap, ◌∙◌, arith, append_assoc, append-nil, length-append, length-take, length-drop}
use Rattle.std.proofs.lemmas.Grind.{flat_map-append}
use Rattle.std.proofs.lemmas.List.{take_at, take_all, take_more, take-append-drop, drop-drop, drop_all}
use Rattle.std.proofs.lemmas.Slice.{take-put_mid}
use borrow.Rule.Slice.PartMut.{put_mid, post_of}
use Rattle.cip_bytes.proofs.Bytes.{rest_slice}
use Rattle.saved_state.specs.Checksum.{checksum}
use Rattle.saved_state.specs.Numbers.{udint, ulint}
use Rattle.saved_state.specs.States.{Entry, State, entry, entries, size, body, spelled}
use Rattle.saved_state.specs.Reading.{MARK}
use Rattle.saved_state.specs.Writing.{entry_number}
use Rattle.saved_state.proofs.NumberLemmas.{length-udint, length-ulint, mark_spelled}
use Rattle.saved_state.proofs.EntryRows.{length-entry}

-- ---- a part at an offset

-- a number is written into `&mut into[offset..]`
pub put_number : (n offset : ℕ) (into buf part : List ℕ)
    → buf ≡ part ++ drop n (take (length into - offset) (drop offset into))
    → put_mid offset (length into - offset) into buf ≡ take offset into ++ (part ++ drop (offset + n) into)
put_number n offset into buf part e =
    let post : drop (length into - offset) (drop offset into) ≡ []
    = drop_all (length into - offset) (drop offset into) (omega (arith, length-drop offset into)) in
    ap (λ p. take offset into ++ (buf ++ p)) post
    ∙ ap (λ b. take offset into ++ b) (append-nil buf ∙ e ∙ ap (λ r. part ++ drop n r) (rest_slice offset into)
    ∙ ap (λ r. part ++ r) (drop-drop n offset into))

-- the front of the bytes is this text
pub record Begins (bytes text : List ℕ) : Type 0 where
  pub is : take (length text) bytes ≡ text

pub nothing : (bytes : List ℕ) → Begins bytes []
nothing bytes = record { is = refl }

pub begins_more : (k : ℕ) (old new text part rest : List ℕ) → Begins old text → length text ≡ k
    → new ≡ take k old ++ (part ++ rest) → Begins new (text ++ part)
begins_more k old new text part rest b long e =
    let front : new ≡ (text ++ part) ++ rest
    = e ∙ ap (λ n. take n old ++ (part ++ rest)) (sym long) ∙ ap (λ t. t ++ (part ++ rest)) b.is
    ∙ sym (append_assoc text part rest) in
    record { is = ap (take (length (text ++ part))) front ∙ take_at (text ++ part) rest (length (text ++ part)) refl }

-- the text is all of the bytes
pub whole : (bytes text : List ℕ) → Begins bytes text → length bytes ≡ length text → bytes ≡ text
whole bytes text b long = sym (take_all (length text) bytes (omega arith)) ∙ b.is

-- ---- an entry

pub entry_written : (e : Entry) (old n1 n2 bytes : List ℕ) (key len : ℕ)
    → n1 ≡ take 0 old ++ (ulint key ++ drop 8 old) → n2 ≡ take 8 n1 ++ (udint len ++ drop 12 n1)
    → key ≡ e.key → len ≡ length e.bytes → bytes ≡ e.bytes → length old ≡ 12 + length e.bytes
    → put_mid 12 (length n2 - 12) n2 bytes ≡ entry e
entry_written e old n1 n2 bytes key len p1 p2 k l b long =
    let first : Begins n1 (ulint key) = begins_more 0 old n1 [] (ulint key) (drop 8 old) (nothing old) refl p1 in
    let second : Begins n2 (ulint key ++ udint len)
    = begins_more 8 n1 n2 (ulint key) (udint len) (drop 12 n1) first (length-ulint key) p2 in
    let head : length (ulint key ++ udint len) ≡ 12
    = length-append (ulint key) (udint len) ∙ omega (arith, length-ulint key, length-udint len) in
    let size1 : length n1 ≡ 12 + length e.bytes
    = ap length p1 ∙ length-append (ulint key) (drop 8 old) ∙ omega (arith, length-ulint key, length-drop 8 old) in
    let size2 : length n2 ≡ 12 + length e.bytes
    = ap length p2 ∙ length-append (take 8 n1) (udint len ++ drop 12 n1)
    ∙ omega (arith, length-take 8 n1, length-append (udint len) (drop 12 n1), length-udint len, length-drop 12 n1) in
    let post : post_of 12 (length n2 - 12) n2 ≡ []
    = drop_all (length n2 - 12) (drop 12 n2) (omega (arith, length-drop 12 n2)) in
    ap (λ t. take 12 n2 ++ (bytes ++ t)) post ∙ ap (λ t. take 12 n2 ++ t) (append-nil bytes)
    ∙ ap (λ t. t ++ bytes) (ap (λ n. take n n2) (sym head) ∙ second.is)
    ∙ append_assoc (ulint key) (udint len) bytes ∙ rw (k, l, b) refl

-- ---- entry after entry

pub entries_more : (i : ℕ) (es : List Entry) → i < length es
    → entries (take (i + 1) es) ≡ entries (take i es) ++ entry (entry_number i es)
entries_more i es below =
    ap entries (take_more es i (record { key = 0; bytes = [] }) below)
    ∙ flat_map-append entry (take i es) (entry_number i es ∷ [])
    ∙ ap (λ t. entries (take i es) ++ t) (append-nil (entry (entry_number i es)))

pub entries_fit : (k : ℕ) (es : List Entry) → length (entries (take k es)) ≤ length (entries es)
entries_fit k es =
    let parts : entries es ≡ entries (take k es) ++ entries (drop k es)
    = ap entries (sym (take-append-drop k es)) ∙ flat_map-append entry (take k es) (drop k es) in
    omega (arith, ap length parts, length-append (entries (take k es)) (entries (drop k es)))

-- how many bytes come before the next entry
pub size_more : (i n len : ℕ) (es : List Entry) → i < length es → n ≡ length (entries (take i es))
    → len ≡ length (entry_number i es).bytes → n + 12 + len ≡ length (entries (take (i + 1) es))
size_more i n len es below e l =
    omega (
      arith,
      ap length (entries_more i es below),
      length-append (entries (take i es)) (entry (entry_number i es)),
      length-entry (entry_number i es),
    )

pub size_within : (i n len : ℕ) (es : List Entry) → i < length es → n ≡ length (entries (take i es))
    → len ≡ length (entry_number i es).bytes → n + 12 + len ≤ length (entries es)
size_within i n len es below e l = omega (arith, size_more i n len es below e l, entries_fit (i + 1) es)

pub entries_step : (i at len : ℕ) (es : List Entry) (into written : List ℕ) → i < length es
    → at ≡ length (entries (take i es)) → len ≡ length (entry_number i es).bytes → take at into ≡ entries (take i es)
    → written ≡ entry (entry_number i es) → at + 12 + len ≤ length into
    → take (at + 12 + len) (put_mid at (at + 12 + len - at) into written) ≡ entries (take (i + 1) es)
entries_step i at len es into written below e l front w within =
    let long : length written ≡ 12 + length (entry_number i es).bytes = ap length w ∙ length-entry (entry_number i es) in
    take-put_mid at (at + 12 + len - at) into written (at + 12 + len) (omega arith) (omega arith)
    ∙ ap (λ t. t ++ written) front ∙ ap (λ t. entries (take i es) ++ t) w ∙ sym (entries_more i es below)

-- ---- a state

left_parts : (a b c d e f : List ℕ) → ((((a ++ b) ++ c) ++ d) ++ e) ++ f ≡ (a ++ (b ++ (c ++ (d ++ e)))) ++ f
left_parts a b c d e f = simp append_assoc

left_body : (s : State)
    → ((((ulint MARK ++ udint 1) ++ udint (size s.entries)) ++ ulint s.generation) ++ udint (length s.entries)) ++ entries s.entries
    ≡ body s
left_body s =
    left_parts (ulint MARK) (udint 1) (udint (size s.entries)) (ulint s.generation) (udint (length s.entries)) (entries s.entries)
    ∙ ap (λ m. (m ++ (udint 1 ++ (udint (size s.entries) ++ (ulint s.generation ++ udint (length s.entries))))) ++ entries s.entries)
    mark_spelled

pub state_written : (s : State) (old n1 n2 n3 n4 n5 n6 n7 written : List ℕ) (end sum total count : ℕ)
    → n1 ≡ take 0 old ++ (ulint MARK ++ drop 8 old) → n2 ≡ take 8 n1 ++ (udint 1 ++ drop 12 n1)
    → n3 ≡ take 12 n2 ++ (udint total ++ drop 16 n2) → n4 ≡ take 16 n3 ++ (ulint s.generation ++ drop 24 n3)
    → n5 ≡ take 24 n4 ++ (udint count ++ drop 28 n4) → n6 ≡ put_mid 28 (end - 28) n5 written
    → n7 ≡ take end n6 ++ (ulint sum ++ drop (end + 8) n6) → total ≡ size s.entries → count ≡ length s.entries
    → written ≡ entries s.entries → end ≡ 28 + length (entries s.entries) → sum ≡ checksum (take end n6)
    → length n7 ≡ size s.entries → n7 ≡ spelled s
state_written s old n1 n2 n3 n4 n5 n6 n7 written end sum total count p1 p2 p3 p4 p5 p6 p7 t n w at c long =
    let b1 : Begins n1 (ulint MARK) = begins_more 0 old n1 [] (ulint MARK) (drop 8 old) (nothing old) refl p1 in
    let b2 : Begins n2 (ulint MARK ++ udint 1)
    = begins_more 8 n1 n2 (ulint MARK) (udint 1) (drop 12 n1) b1 (length-ulint MARK) p2 in
    let b3 : Begins n3 ((ulint MARK ++ udint 1) ++ udint total)
    = begins_more 12 n2 n3 (ulint MARK ++ udint 1) (udint total) (drop 16 n2) b2
    (simp (length-append, length-ulint, length-udint) refl) p3 in
    let b4 : Begins n4 (((ulint MARK ++ udint 1) ++ udint total) ++ ulint s.generation)
    = begins_more 16 n3 n4 ((ulint MARK ++ udint 1) ++ udint total) (ulint s.generation) (drop 24 n3) b3
    (simp (length-append, length-ulint, length-udint) refl) p4 in
    let b5 : Begins n5 ((((ulint MARK ++ udint 1) ++ udint total) ++ ulint s.generation) ++ udint count)
    = begins_more 24 n4 n5 (((ulint MARK ++ udint 1) ++ udint total) ++ ulint s.generation) (udint count) (drop 28 n4) b4
    (simp (length-append, length-ulint, length-udint) refl) p5 in
    let b6 : Begins n6 (((((ulint MARK ++ udint 1) ++ udint total) ++ ulint s.generation) ++ udint count) ++ written)
    = begins_more 28 n5 n6 ((((ulint MARK ++ udint 1) ++ udint total) ++ ulint s.generation) ++ udint count) written
    (post_of 28 (end - 28) n5) b5 (simp (length-append, length-ulint, length-udint) refl) p6 in
    let is_body : ((((ulint MARK ++ udint 1) ++ udint total) ++ ulint s.generation) ++ udint count) ++ written ≡ body s
    = rw (t, n, w) (left_body s) in
    let body_long : length (((((ulint MARK ++ udint 1) ++ udint total) ++ ulint s.generation) ++ udint count) ++ written) ≡ end
    = length-append ((((ulint MARK ++ udint 1) ++ udint total) ++ ulint s.generation) ++ udint count) written
    ∙ ap (λ k. k + length written) (simp (length-append, length-ulint, length-udint) refl)
    ∙ ap (λ l. 28 + length l) w ∙ sym at in
    let b7 : Begins n7 ((((((ulint MARK ++ udint 1) ++ udint total) ++ ulint s.generation) ++ udint count) ++ written) ++ ulint sum)
    = begins_more end n6 n7 (((((ulint MARK ++ udint 1) ++ udint total) ++ ulint s.generation) ++ udint count) ++ written)
    (ulint sum) (drop (end + 8) n6) b6 body_long p7 in
    let sums : sum ≡ checksum (body s)
    = c ∙ ap (λ k. checksum (take k n6)) (sym body_long) ∙ ap checksum (b6.is ∙ is_body) in
    whole n7 _ b7 (long ∙ omega (
      arith,
      body_long,
      length-append (((((ulint MARK ++ udint 1) ++ udint total) ++ ulint s.generation) ++ udint count) ++ written) (ulint sum),
      length-ulint sum,
    ))
    ∙ ap (λ b. b ++ ulint sum) is_body ∙ ap (λ k. body s ++ ulint k) sums
