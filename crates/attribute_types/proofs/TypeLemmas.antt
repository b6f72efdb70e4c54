-- The types of attributes, and the bytes of their values.
use Rattle.std.proofs.Common.{◌≡◌, ℕ, Bool, true, false, ◌<◌, ◌+◌, List, [], ◌∷◌, ◌++◌, length, drop, get_or, append_assoc, Option, Some, None, IfSome, option_map, option_and_then, refl, sym, ap, ◌∙◌, arith}
use Rattle.std.specs.Str.{bytes_eq}
use Rattle.std.proofs.lemmas.Slice.Eq.{bytes_eq-Decides}
use Rattle.toml.specs.View.{view, items_view}
use Rattle.toml.specs.declared.value.Value.{Value}
use Rattle.toml.proofs.Views.{items_view-drop}
use Rattle.cip_bytes.specs.Numbers.{le}
use Rattle.cip_values.specs.Types.{name_of}
use Rattle.cip_values.specs.declared.element.ElementaryType.{ElementaryType}
use Rattle.cip_values.specs.declared.element.ElementaryType.TheVariants as elements
use Rattle.attribute_types.specs.Types.{every_element, element_among, known_element, element_bits, width_of, all_bytes}

-- Each elementary type is the one with its name, and no other name is one's.
pub element_with_name : (e : ElementaryType) → known_element (name_of e) ≡ Some e
unfolding known_element
element_with_name elements.Bool = refl
element_with_name elements.Sint = refl
element_with_name elements.Int = refl
element_with_name elements.Dint = refl
element_with_name elements.Lint = refl
element_with_name elements.Usint = refl
element_with_name elements.Uint = refl
element_with_name elements.Udint = refl
element_with_name elements.Ulint = refl
element_with_name elements.Byte = refl
element_with_name elements.Word = refl
element_with_name elements.Dword = refl
element_with_name elements.Lword = refl
element_with_name elements.Real = refl
element_with_name elements.ShortString = refl
element_with_name elements.Lreal = refl
element_with_name elements.String = refl
element_with_name elements.String2 = refl
element_with_name elements.Epath = refl
element_with_name elements.Date = refl
element_with_name elements.TimeOfDay = refl
element_with_name elements.DateAndTime = refl
element_with_name elements.Time = refl
element_with_name elements.Ltime = refl

not_true : (b : Bool) → (b ≡ true → ⊥) → b ≡ false
not_true true never = absurd (never refl)
not_true false never = refl

-- Different texts compare as different.
not_same : (k l : List ℕ) → (k ≡ l → ⊥) → bytes_eq k l ≡ false
not_same k l differ = not_true (bytes_eq k l) (λ same. differ ((bytes_eq-Decides k l).0 same))

none_among : (es : List ElementaryType) (name : List ℕ) → ((e : ElementaryType) → name_of e ≡ name → ⊥) → element_among es name ≡ None
none_among [] name never = refl
none_among (e ∷ es) name never = rw (not_same name (name_of e) (λ same. never e (sym same))) (none_among es name never)

pub element_found : (name : List ℕ) (found : Option ElementaryType) → IfSome found (λ e. name_of e ≡ name)
    → (found ≡ None → (e : ElementaryType) → name_of e ≡ name → ⊥) → found ≡ known_element name
unfolding known_element
element_found name (Some e) named other = sym (ap known_element (sym named) ∙ element_with_name e)
element_found name None named other = sym (none_among every_element name (other refl))

-- One more value is read.
joined : (done bytes : List ℕ) (rest : Option (List ℕ))
    → option_map (λ xs. (done ++ bytes) ++ xs) rest ≡ option_map (λ xs. done ++ xs) (option_map (λ xs. bytes ++ xs) rest)
joined done bytes None = refl
joined done bytes (Some xs) = ap Some (append_assoc done bytes xs)

bytes_from : (e : ElementaryType) (vs : List Value) (i : ℕ) (v : Value) → i < length vs → get_or vs i v ≡ v
    → all_bytes e (items_view (drop i vs))
    ≡ option_and_then (λ bytes. option_map (λ rest. bytes ++ rest) (all_bytes e (items_view (drop (i + 1) vs))))
    (option_map (λ bits. le (width_of e) bits) (element_bits e (view v)))
bytes_from e vs i v inside at = rw (items_view-drop vs i v inside, at) refl
