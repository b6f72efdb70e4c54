-- The state of a device, and the bytes that spell it.
use Rattle.std.specs.Prelude.{◌≡◌, ◌<◌, ◌^◌, ◌+◌, ◌==◌, ◌&&◌, nat_le, nat_lt, ℕ, Bool, true, find, refl}
use Rattle.std.specs.Prelude.{List, [], ◌∷◌, ◌++◌, codes, length, Option}
use Rattle.std.specs.List.{flat_map}
use Rattle.std.specs.Option.{option_map}
use Rattle.std.specs.Coded.{Coded, code_by, coded×, coded_ℕ, coded_list}
use Rattle.saved_state.specs.Numbers.{udint, ulint}
use Rattle.saved_state.specs.Checksum.{checksum}
use Rattle.saved_state.specs.declared.entry.EntryView.{EntryView}

-- What is kept under a key.
pub record Entry : Type 0 where
  pub key : ℕ
  pub bytes : List ℕ

-- A state: how many changes came before it, and what is kept.
pub record State : Type 0 where
  pub generation : ℕ
  pub entries : List Entry

-- ---- the bytes

-- An entry: its key, how many bytes it has, and these bytes.
abbrev pub entry : Entry → List ℕ
entry e = ulint e.key ++ (udint (length e.bytes) ++ e.bytes)

abbrev pub entries : List Entry → List ℕ
entries es = flat_map entry es

-- How many bytes spell a state with these entries: the head, the entries, and the checksum.
abbrev pub size : List Entry → ℕ
size es = 28 + length (entries es) + 8

-- The head: the mark, the version of the format, the size, the generation, and how many entries follow.
abbrev pub head : State → List ℕ
head s = codes "SOMBIKPT" ++ (udint 1 ++ (udint (size s.entries) ++ (ulint s.generation ++ udint (length s.entries))))

-- All but the checksum.
abbrev pub body : State → List ℕ
body s = head s ++ entries s.entries

-- The bytes of a state.
abbrev pub spelled : State → List ℕ
spelled s = body s ++ ulint (checksum (body s))

-- ---- which states can be spelled

-- The keys rise, from `least` on, and are below 2^63.
abbrev pub rise_from : ℕ → List Entry → Bool
rise_from least [] = true
rise_from least (e ∷ rest) = nat_le least e.key && (nat_lt e.key (2 ^ 63) && rise_from (e.key + 1) rest)

-- The keys rise, and the generation and the size have their numbers of bytes.
pub record IsState (s : State) : Type 0 where
  pub rising : rise_from 0 s.entries ≡ true
  pub generation : s.generation < 2 ^ 64
  pub size : size s.entries < 2 ^ 32

-- ---- what is kept

-- The bytes that are kept under a key, if there are any.
abbrev pub kept_under : ℕ → List Entry → Option (List ℕ)
kept_under key es = option_map (λ e. e.bytes) (find (λ e. e.key == key) es)

-- An entry of the code, as one of the specification.
abbrev pub entry_of : EntryView → Entry
entry_of view = record { key = view.key; bytes = view.bytes.now }

-- An entry is stored as the pair of its fields, and a state as the pair of its own.
abbrev pub entry_code : Coded Entry
entry_code =
    code_by (ℕ × List ℕ) (coded× coded_ℕ (coded_list coded_ℕ)) (λ e. (e.key, e.bytes))
    (λ p. record { key = p.0; bytes = p.1 }) (λ _. refl)

abbrev pub state_code : Coded State
state_code =
    code_by (ℕ × List Entry) (coded× coded_ℕ (coded_list entry_code)) (λ s. (s.generation, s.entries))
    (λ p. record { generation = p.0; entries = p.1 }) (λ _. refl)
