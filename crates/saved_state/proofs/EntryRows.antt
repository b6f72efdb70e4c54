-- Bytes that are entries, and entries that are read as they were written.
use Rattle.std.proofs.Common.{◌≡◌, inl, inr, None, true, ℕ, zero, suc, ◌+◌, ◌^◌, ◌<◌, ◌≤◌, List, [], ◌∷◌, ◌++◌, length, take, drop, refl, sym, ap, ◌∙◌, arith, append_assoc, length-append, length-take, length-drop}
use Rattle.std.proofs.lemmas.List.{take-append-drop, take_at, drop_at, drop-drop}
use Rattle.std.proofs.lemmas.Bool.{cases_lt}
use Rattle.std.proofs.lemmas.Bool.Decides.{nat_tests}
use Rattle.cip_bytes.specs.Numbers.{AreBytes}
use Rattle.cip_bytes.proofs.Bytes.{AreBytes-drop}
use Rattle.saved_state.specs.Numbers.{udint, ulint, udint_at, ulint_at}
use Rattle.saved_state.specs.States.{Entry, entry, entries, rise_from}
use Rattle.saved_state.specs.Reading.{entry_at, size_at, first_entries, entries_fault}
use Rattle.saved_state.proofs.NumberLemmas.{length-udint, length-ulint, udint_field, ulint_field, udint_part, ulint_part}
use Rattle.saved_state.proofs.EntryLemmas.{same_entry, entries_fault-short, entries_fault-order, entries_fault-long, first_entries-long}

three_parts : (a b c r : List ℕ) → (a ++ (b ++ c)) ++ r ≡ a ++ (b ++ (c ++ r))
three_parts a b c r = simp append_assoc

entry_parts : (e : Entry) (r : List ℕ) → entry e ++ r ≡ ulint e.key ++ (udint (length e.bytes) ++ (e.bytes ++ r))
entry_parts e r = three_parts (ulint e.key) (udint (length e.bytes)) e.bytes r

-- ---- bytes that are entries

-- a whole entry
pub entry-entry_at : (text : List ℕ) → AreBytes text → size_at text ≤ length text
    → entry (entry_at text) ++ drop (size_at text) text ≡ text
entry-entry_at text fits long =
    let size : length (take (udint_at 8 text) (drop 12 text)) ≡ udint_at 8 text
    = simp (length-take, length-drop) (omega arith) in
    let rest : take (udint_at 8 text) (drop 12 text) ++ drop (size_at text) text ≡ drop 12 text
    = ap (λ r. take (udint_at 8 text) (drop 12 text) ++ r) (sym (drop-drop (udint_at 8 text) 12 text))
    ∙ take-append-drop (udint_at 8 text) (drop 12 text) in
    entry_parts (entry_at text) (drop (size_at text) text)
    ∙ ap (λ n. ulint (ulint_at 0 text) ++ (udint n ++ (take (udint_at 8 text) (drop 12 text) ++ drop (size_at text) text))) size
    ∙ ap (λ r. ulint (ulint_at 0 text) ++ (udint (udint_at 8 text) ++ r)) rest
    ∙ ap (λ r. ulint (ulint_at 0 text) ++ r) (sym (udint_part 8 text fits (omega arith)))
    ∙ sym (ulint_part 0 text fits (omega arith))

rise_more : (least : ℕ) (e : Entry) (es : List Entry) → least ≤ e.key → e.key < 2 ^ 63 → rise_from (e.key + 1) es ≡ true
    → rise_from least (e ∷ es) ≡ true
rise_more least e es rises within rest = grind (arith, nat_tests)

-- the bytes are n entries whose keys rise
pub record AreEntries (n least : ℕ) (text : List ℕ) : Type 0 where
  pub count : length (first_entries n text) ≡ n
  pub rising : rise_from least (first_entries n text) ≡ true
  pub spelled : text ≡ entries (first_entries n text)

more_entries : (n least : ℕ) (text : List ℕ) → AreBytes text → size_at text ≤ length text → least ≤ ulint_at 0 text
    → ulint_at 0 text < 2 ^ 63 → AreEntries n (ulint_at 0 text + 1) (drop (size_at text) text) → AreEntries (suc n) least text
more_entries n least text fits long rises within rest =
    let e : first_entries (suc n) text ≡ entry_at text ∷ first_entries n (drop (size_at text) text)
    = first_entries-long n text long in
    record {
      count = ap length e ∙ ap suc rest.count;
      rising = ap (rise_from least) e
          ∙ rise_more least (entry_at text) (first_entries n (drop (size_at text) text)) rises within rest.rising;
      spelled = sym (entry-entry_at text fits long) ∙ ap (λ t. entry (entry_at text) ++ t) rest.spelled
          ∙ ap entries (sym e);
    }

pub are_entries : (n least : ℕ) (text : List ℕ) → AreBytes text → entries_fault n least text ≡ None → AreEntries n least text
are_entries zero least [] fits e = record { count = refl; rising = refl; spelled = refl }
are_entries zero least (b ∷ rest) fits e = absurd cc
are_entries (suc n) least text fits e =
    elim (cases_lt (length text) (size_at text)) [
      | inl short ↦ let found = entries_fault-short n least text short in absurd cc
      | inr long ↦ elim (cases_lt (ulint_at 0 text) least) [
        | inl below ↦ let found = entries_fault-order n least text long (inl below) in absurd cc
        | inr rises ↦ elim (cases_lt (ulint_at 0 text) (2 ^ 63)) [
          | inl within ↦ more_entries n least text fits long rises within
              (are_entries n (ulint_at 0 text + 1) (drop (size_at text) text) (AreBytes-drop (size_at text) text fits)
              (sym (entries_fault-long n least text long rises within) ∙ e))
          | inr above ↦ let found = entries_fault-order n least text long (inr above) in absurd cc
        ]
      ]
    ]

-- ---- entries that are read as they were written

rise_least : (least : ℕ) (e : Entry) (es : List Entry) → rise_from least (e ∷ es) ≡ true → least ≤ e.key
rise_least least e es h = grind (arith, nat_tests)

rise_within : (least : ℕ) (e : Entry) (es : List Entry) → rise_from least (e ∷ es) ≡ true → e.key < 2 ^ 63
rise_within least e es h = grind (arith, nat_tests)

rise_rest : (least : ℕ) (e : Entry) (es : List Entry) → rise_from least (e ∷ es) ≡ true → rise_from (e.key + 1) es ≡ true
rise_rest least e es h = grind (arith, nat_tests)

pub length-entry : (e : Entry) → length (entry e) ≡ 12 + length e.bytes
length-entry e =
    length-append (ulint e.key) (udint (length e.bytes) ++ e.bytes)
    ∙ omega (arith, length-append (udint (length e.bytes)) e.bytes, length-ulint e.key, length-udint (length e.bytes))

-- an entry at the front
record Front (e : Entry) (rest : List ℕ) : Type 0 where
  key : ulint_at 0 (entry e ++ rest) ≡ e.key
  size : udint_at 8 (entry e ++ rest) ≡ length e.bytes
  behind : drop 12 (entry e ++ rest) ≡ e.bytes ++ rest

front : (e : Entry) (rest : List ℕ) → e.key < 2 ^ 64 → length e.bytes < 2 ^ 32 → Front e rest
front e rest small short =
    let head : length (ulint e.key ++ udint (length e.bytes)) ≡ 12
    = length-append (ulint e.key) (udint (length e.bytes)) ∙ omega (arith, length-ulint e.key, length-udint (length e.bytes)) in
    record {
      key = ulint_field 0 e.key (entry e ++ rest) [] (udint (length e.bytes) ++ (e.bytes ++ rest)) (entry_parts e rest) refl small;
      size = udint_field 8 (length e.bytes) (entry e ++ rest) (ulint e.key) (e.bytes ++ rest) (entry_parts e rest)
          (length-ulint e.key) short;
      behind = ap (drop 12) (entry_parts e rest ∙ sym (append_assoc (ulint e.key) (udint (length e.bytes)) (e.bytes ++ rest)))
          ∙ drop_at (ulint e.key ++ udint (length e.bytes)) (e.bytes ++ rest) 12 head;
    }

pub record Again (es : List Entry) (least : ℕ) : Type 0 where
  pub right : entries_fault (length es) least (entries es) ≡ None
  pub same : first_entries (length es) (entries es) ≡ es

again_more : (e : Entry) (es : List Entry) (least : ℕ) → Front e (entries es) → least ≤ e.key → e.key < 2 ^ 63
    → Again es (e.key + 1) → Again (e ∷ es) least
again_more e es least f rises within rest =
    let size : size_at (entry e ++ entries es) ≡ 12 + length e.bytes = ap (λ n. 12 + n) f.size in
    let long : size_at (entry e ++ entries es) ≤ length (entry e ++ entries es)
    = omega (arith, length-append (entry e) (entries es), length-entry e) in
    let behind : drop (size_at (entry e ++ entries es)) (entry e ++ entries es) ≡ entries es
    = ap (λ n. drop n (entry e ++ entries es)) size ∙ sym (drop-drop (length e.bytes) 12 (entry e ++ entries es))
    ∙ ap (drop (length e.bytes)) f.behind ∙ drop_at e.bytes (entries es) (length e.bytes) refl in
    let one : entry_at (entry e ++ entries es) ≡ e
    = same_entry f.key
    (ap (λ n. take n (drop 12 (entry e ++ entries es))) f.size ∙ ap (take (length e.bytes)) f.behind
    ∙ take_at e.bytes (entries es) (length e.bytes) refl) in
    record {
      right = entries_fault-long (length es) least (entry e ++ entries es) long (omega (arith, f.key)) (omega (arith, f.key))
          ∙ ap (λ k. entries_fault (length es) (k + 1) (drop (size_at (entry e ++ entries es)) (entry e ++ entries es))) f.key
          ∙ ap (entries_fault (length es) (e.key + 1)) behind ∙ rest.right;
      same = first_entries-long (length es) (entry e ++ entries es) long
          ∙ ap (λ t. entry_at (entry e ++ entries es) ∷ first_entries (length es) t) behind
          ∙ ap (λ l. entry_at (entry e ++ entries es) ∷ l) rest.same ∙ ap (λ x. x ∷ es) one;
    }

pub again : (es : List Entry) (least : ℕ) → rise_from least es ≡ true → length (entries es) < 2 ^ 32 → Again es least
again [] least h small = record { right = refl; same = refl }
again (e ∷ es) least h small =
    let whole : length (entry e ++ entries es) ≡ length (entry e) + length (entries es) = length-append (entry e) (entries es) in
    let one : length (entry e) ≡ 12 + length e.bytes = length-entry e in
    let within : e.key < 2 ^ 63 = rise_within least e es h in
    again_more e es least (front e (entries es) (omega arith) (omega arith)) (rise_least least e es h) within
    (again es (e.key + 1) (rise_rest least e es h) (omega arith))

-- each entry has at least twelve bytes
pub count_below : (es : List Entry) → length es ≤ length (entries es)
count_below [] = omega arith
count_below (e ∷ es) = omega (arith, length-append (entry e) (entries es), length-entry e, count_below es)
