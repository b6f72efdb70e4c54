-- Values written one after another.
use Rattle.std.proofs.Common.{◌≡◌, ℕ, ◌+◌, ◌<◌, List, [], ◌∷◌, ◌++◌, length, map, take, drop, get_or, Bor, inr, refl, sym, ap, subst, ◌∙◌, arith}
use Rattle.std.proofs.lemmas.Grind.{flat_map-append}
use Rattle.std.proofs.lemmas.List.{append-nil, take_more, drop_more, take-append-drop, map-append}
use Rattle.std.specs.List.{AllByRecursion}
use Rattle.cip_values.specs.Types.{form_of, size_of}
use Rattle.cip_values.specs.Values.{Value, IsOf, spelled, joined, counted, BeginsWithAll}
use Rattle.cip_values.specs.Parsing.{Appends, IsAppended, IsText, ParsesAsOf, ParsesAsText, ParsesAsCounted, ParsesAsNumber, AllParseAs}
use Rattle.cip_values.specs.Parsing.{IsRefusedWord, IsTextFault, IsOversized, oversized, IfText, IsFirstRefused, IsWriteFault}
use Rattle.cip_values.specs.declared.element.ElementaryType.TheVariants as types
use Rattle.cip_values.specs.declared.element.ValueType.{ValueType}
use Rattle.cip_values.specs.declared.fault.ValueFault.{ValueFault}
use Rattle.cip_values.specs.declared.fault.ValueFault.TheVariants as faults
use Rattle.cip_values.specs.declared.element.Form.{Form}
use Rattle.cip_values.specs.declared.element.Form.TheVariants as forms

-- the bytes of the values that these words parse as
pub record SoFar (value_type : ValueType) (words : List (List ℕ)) (bytes : List ℕ) : Type 0 where
  pub values : List Value
  pub parses : AllParseAs value_type words values
  pub begins : BeginsWithAll (form_of value_type.element) bytes values []

-- a fact about texts holds of a kind of texts
by_form : (form : Form) → IsText form → (P Q : Type 0) → P → IfText form P Q
by_form (forms.Text n) is P Q h = h
by_form forms.Wide is P Q h = h
by_form forms.Path is P Q h = h
by_form forms.Bool is P Q h = absurd is
by_form (forms.Signed n) is P Q h = absurd is
by_form (forms.Unsigned n) is P Q h = absurd is
by_form (forms.Bits n) is P Q h = absurd is
by_form forms.Real is P Q h = absurd is
by_form forms.Lreal is P Q h = absurd is
by_form forms.Date is P Q h = absurd is
by_form forms.TimeOfDay is P Q h = absurd is
by_form forms.DateAndTime is P Q h = absurd is

all-append : (P : Value → Type 0) (xs : List Value) (x : Value) → AllByRecursion P xs → P x → AllByRecursion P (xs ++ x ∷ [])
all-append P [] x h k = (k, tt)
all-append P (y ∷ xs) x h k = (h.0, all-append P xs x h.1 k)

parse-append : (value_type : ValueType) (words : List (List ℕ)) (values : List Value) (word : List ℕ) (value : Value)
    → AllParseAs value_type words values → ParsesAsOf value_type word value
    → AllParseAs value_type (words ++ word ∷ []) (values ++ value ∷ [])
parse-append value_type [] [] word value h k = (k, tt)
parse-append value_type [] (y ∷ values) word value h k = absurd h
parse-append value_type (x ∷ words) [] word value h k = absurd h
parse-append value_type (x ∷ words) (y ∷ values) word value h k = (h.0, parse-append value_type words values word value h.1 k)

pub so_far_more : (value_type : ValueType) (words : List (List ℕ)) (word old new : List ℕ) → SoFar value_type words old
    → Appends value_type word old new → SoFar value_type (words ++ word ∷ []) new
so_far_more value_type words word old new h more =
    let form : Form = form_of value_type.element in
    let before : old ≡ joined form h.values = h.begins.bytes_of ∙ append-nil (joined form h.values) in
    let one : joined form (more.value ∷ []) ≡ spelled (size_of form) more.value = append-nil (spelled (size_of form) more.value) in
    let after : joined form (h.values ++ more.value ∷ []) ≡ joined form h.values ++ spelled (size_of form) more.value =
    flat_map-append (spelled (size_of form)) h.values (more.value ∷ []) ∙ ap (λ (r : List ℕ). joined form h.values ++ r) one in
    record {
      values = h.values ++ more.value ∷ [];
      parses = parse-append value_type words h.values word more.value h.parses more.parses;
      begins = record {
        of_type = all-append (IsOf form) h.values more.value h.begins.of_type more.of_type;
        bytes_of = more.bytes_of ∙ ap (λ (r : List ℕ). r ++ spelled (size_of form) more.value) before ∙ sym after
            ∙ sym (append-nil (joined form (h.values ++ more.value ∷ [])));
      };
    }

-- a list type takes any number of words, and another type takes one
pub single : (value_type : ValueType) (words : List (List ℕ)) (values : List Value) → length words ≡ 1
    → AllParseAs value_type words values → length values ≡ 1
single value_type (w ∷ []) (v ∷ []) one h = refl
single value_type (w ∷ []) (v ∷ x ∷ values) one h = absurd h.1
single value_type [] values one h = absurd (omega (arith, one))
single value_type (w ∷ x ∷ words) values one h = absurd (omega (arith, one))
single value_type (w ∷ []) [] one h = absurd h

-- a text that is not too long is a value of a text type
pub counted_appends : (value_type : ValueType) (word bytes old new : List ℕ) → IsText (form_of value_type.element)
    → ParsesAsText (form_of value_type.element) value_type.is_list word bytes
    → IsAppended (form_of value_type.element) bytes old new → Appends value_type word old new
counted_appends value_type word bytes old new is parses h = record {
  value = counted (form_of value_type.element) bytes;
  parses = by_form (form_of value_type.element) is (ParsesAsCounted value_type word (counted (form_of value_type.element) bytes))
      (ParsesAsNumber value_type.element word (counted (form_of value_type.element) bytes)) (bytes, (parses, refl));
  of_type = h.of_type;
  bytes_of = h.bytes_of;
}

-- a text that is too long is refused with the fault of its type
pub refused_oversized : (value_type : ValueType) (word : List ℕ) (count : ℕ) → IsOversized value_type word count
    → IsTextFault value_type word (oversized value_type.element count)
refused_oversized value_type word count h =
    elim value_type.element as (λ e. value_type.element ≡ e → IsTextFault value_type word (oversized e count)) [
      | types.ShortString ↦ λ e. (e, h)
      | other ↦ λ e. (sym e, (λ f. absurd (cc)), h)
    ] refl

-- one more word of a list
pub so_far_word : (value_type : ValueType) (words : List (Bor (List ℕ))) (place : ℕ) (d : Bor (List ℕ)) (old new : List ℕ)
    → place < length words → SoFar value_type (map (λ word. word.now) (take place words)) old
    → Appends value_type (get_or words place d).now old new
    → SoFar value_type (map (λ word. word.now) (take (place + 1) words)) new
so_far_word value_type words place d old new inside h more =
    let texts : map (λ (w : Bor (List ℕ)). w.now) (take (place + 1) words)
    ≡ map (λ (w : Bor (List ℕ)). w.now) (take place words) ++ (get_or words place d).now ∷ [] =
    ap (map (λ (w : Bor (List ℕ)). w.now)) (take_more words place d inside)
    ∙ map-append (λ (w : Bor (List ℕ)). w.now) (take place words) (get_or words place d ∷ []) in
    subst (λ (parses : List (List ℕ)). SoFar value_type parses new) (sym texts)
    (so_far_more value_type (map (λ (w : Bor (List ℕ)). w.now) (take place words)) (get_or words place d).now old new h more)

-- a word that is refused, behind words that parse
first_refused : (value_type : ValueType) (words : List (Bor (List ℕ))) (index : ℕ) (d : Bor (List ℕ)) (bytes : List ℕ)
    (fault : ValueFault) → index < length words → SoFar value_type (map (λ word. word.now) (take index words)) bytes
    → IsRefusedWord value_type (get_or words index d).now fault
    → IsFirstRefused value_type (map (λ word. word.now) words) fault
first_refused value_type words index d bytes fault inside h refused =
    let now : Bor (List ℕ) → List ℕ = λ word. word.now in
    let parts : words ≡ take index words ++ get_or words index d ∷ drop (index + 1) words =
    sym (take-append-drop index words) ∙ ap (λ (rest : List (Bor (List ℕ))). take index words ++ rest) (drop_more words index d inside) in
    record {
      before = map now (take index words);
      word = (get_or words index d).now;
      behind = map now (drop (index + 1) words);
      values = h.values;
      place = ap (map now) parts ∙ map-append now (take index words) (get_or words index d ∷ drop (index + 1) words);
      parses = h.parses;
      of_type = h.begins.of_type;
      refused = refused;
    }

-- so the words are refused
pub words_refused : (value_type : ValueType) (words : List (Bor (List ℕ))) (index : ℕ) (d : Bor (List ℕ)) (bytes : List ℕ)
    (fault : ValueFault) → index < length words → SoFar value_type (map (λ word. word.now) (take index words)) bytes
    → IsRefusedWord value_type (get_or words index d).now fault
    → IsWriteFault value_type (map (λ word. word.now) words) fault
words_refused value_type words index d bytes faults.Memory inside h refused = tt
words_refused value_type words index d bytes (faults.Form text element) inside h refused =
    inr (first_refused value_type words index d bytes (faults.Form text element) inside h refused)
words_refused value_type words index d bytes (faults.Range text element) inside h refused =
    inr (first_refused value_type words index d bytes (faults.Range text element) inside h refused)
words_refused value_type words index d bytes (faults.TooLong count) inside h refused =
    inr (first_refused value_type words index d bytes (faults.TooLong count) inside h refused)
words_refused value_type words index d bytes (faults.Oversized element count) inside h refused =
    inr (first_refused value_type words index d bytes (faults.Oversized element count) inside h refused)
words_refused value_type words index d bytes faults.Short inside h refused =
    inr (first_refused value_type words index d bytes faults.Short inside h refused)
words_refused value_type words index d bytes (faults.Trailing count) inside h refused =
    inr (first_refused value_type words index d bytes (faults.Trailing count) inside h refused)
words_refused value_type words index d bytes (faults.NotBool byte) inside h refused =
    inr (first_refused value_type words index d bytes (faults.NotBool byte) inside h refused)
words_refused value_type words index d bytes (faults.Count element count) inside h refused =
    inr (first_refused value_type words index d bytes (faults.Count element count) inside h refused)
