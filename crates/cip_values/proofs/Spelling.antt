-- Numbers of any size and their bytes, including two's complement.
use Rattle.std.proofs.Common.{◌≡◌, ℕ, zero, suc, ◌+◌, ◌-◌, ◌*◌, ◌/◌, ◌%◌, ◌^◌, ◌<◌, ◌≤◌, true, false, List, [], ◌∷◌, ◌++◌, length, get_or, take, drop, refl, sym, ap, subst, ◌∙◌, arith, append_assoc, inl, inr, ℤ, pos, negsuc, ◌-ℤ◌, nat_lt, w64, of_z}
use Rattle.std.proofs.Math.Nat.{div-div-eq-div-mul, div-one, pow-succ', mod-lt, mod-eq_of_lt, mul-add-mod_self_right, one-le-pow}
use Rattle.std.proofs.lemmas.Nat.{pow-add}
use Rattle.std.proofs.lemmas.Int.{ints}
use Rattle.std.proofs.lemmas.Bool.{cases_lt}
use Rattle.std.proofs.lemmas.List.{drop_all, append-nil, length-take-le, take-append-drop}
use Rattle.std.specs.Int.{byte_at, bytes_low_first}
use Rattle.byteorder.proofs.Bytes.{pow256, sign_bit}
use Rattle.byteorder.specs.Endian.{little_from, twos_complement}
use Rattle.byteorder.specs.Numbers.{little_from-lt, little_from-bytes, length-bytes_low_first}
use Rattle.cip_bytes.specs.Numbers.{le, AreBytes}
use Rattle.cip_bytes.proofs.Bytes.{cells, drop-cells, AreBytes-take}
use Rattle.cip_values.specs.Types.{IsSized, size_of, unit_size}
use Rattle.cip_values.specs.Values.{Signed, Unsigned, Bits, IsOf, spelled, BeginsWith, complement, IsSignedOf, IsCounted, counted}
use Rattle.cip_values.specs.declared.element.Form.{Form}
use Rattle.cip_values.specs.declared.element.Form.TheVariants as forms

-- a higher byte of a number is a byte of the number without its lowest byte
byte_at_above : (j x : ℕ) → byte_at (suc j) x ≡ byte_at j (x / 256)
byte_at_above zero x = refl
byte_at_above (suc j) x =
    ap (λ (p : ℕ). x / p % 256) (pow-succ' 256 (suc j)) ∙ ap (λ (y : ℕ). y % 256) (sym (div-div-eq-div-mul x 256 (256 ^ suc j)))

bytes_above : (k j x : ℕ) → bytes_low_first (suc j) k x ≡ bytes_low_first j k (x / 256)
bytes_above zero j x = refl
bytes_above (suc k) j x = rw (byte_at_above j x, bytes_above k (suc j) x) refl

-- the bytes of a number are its lowest byte and the bytes of the rest
pub le-suc : (n a m : ℕ) → a < 256 → le (suc n) (a + 256 * m) ≡ a ∷ le n m
le-suc n a m h =
    let low : (a + 256 * m) % 256 ≡ a = omega arith in
    let high : (a + 256 * m) / 256 ≡ m = omega arith in
    rw (low, bytes_above n 0 (a + 256 * m), high) refl

-- the bytes of the number that bytes spell are those bytes
pub le-little_from : (n i : ℕ) (xs : List ℕ) → AreBytes xs → le n (little_from i n xs) ≡ cells n i xs
le-little_from zero i xs fits = refl
le-little_from (suc n) i xs fits =
    le-suc n (get_or xs i 0) (little_from (suc i) n xs) (fits i) ∙ ap (λ r. get_or xs i 0 ∷ r) (le-little_from n (suc i) xs fits)

pub le-front : (n : ℕ) (front : List ℕ) → AreBytes front → length front ≡ n → le n (little_from 0 n front) ≡ front
le-front n front fits e =
    let parts = drop-cells n 0 front (omega arith) in
    let none : drop (0 + n) front ≡ [] = drop_all (0 + n) front (omega arith) in
    le-little_from n 0 front fits ∙ sym (parts ∙ ap (λ r. cells n 0 front ++ r) none ∙ append-nil (cells n 0 front))

-- each byte of a number is a byte, and there are n of them
byte_at-lt : (j x : ℕ) → byte_at j x < 256
byte_at-lt zero x = mod-lt x (omega arith)
byte_at-lt (suc j) x = mod-lt (x / 256 ^ suc j) (omega arith)

AreBytes-bytes : (k j x : ℕ) → AreBytes (bytes_low_first j k x)
AreBytes-bytes zero j x i = omega arith
AreBytes-bytes (suc k) j x zero = byte_at-lt j x
AreBytes-bytes (suc k) j x (suc i) = AreBytes-bytes k (suc j) x i

pub AreBytes-le : (n x : ℕ) → AreBytes (le n x)
AreBytes-le n x = AreBytes-bytes n 0 x

-- n bytes distinguish numbers below 256 ^ n only
pub le-mod : (n x : ℕ) → le n (x % 256 ^ n) ≡ le n x
le-mod n x =
    let back = little_from-bytes n 0 x [] in
    let same : little_from 0 n (le n x) ≡ x % 256 ^ n =
    ap (little_from 0 n) (sym (append-nil (le n x))) ∙ back ∙ ap (λ (y : ℕ). y % 256 ^ n) (div-one x) in
    ap (le n) (sym same) ∙ le-front n (le n x) (AreBytes-le n x) (length-bytes_low_first 0 n x)

-- ---- two's complement

-- the remainder of a multiple of m, less k + 1, does not depend on the multiple
mod_below : (q m k : ℕ) → 0 < q → k < m → (q * m - suc k) % m ≡ m - suc k
mod_below zero m k h lt = absurd (omega arith)
mod_below (suc q) m k h lt =
    let step : suc q * m - suc k ≡ q * m + (m - suc k) = let e : suc q * m ≡ q * m + m = omega arith in omega arith in
    ap (λ (y : ℕ). y % m) step ∙ mul-add-mod_self_right q m (m - suc k) ∙ mod-eq_of_lt (omega arith)

-- the low bytes of the two's complement of 64 bits are those of n bytes
pub le-complement : (n : ℕ) (z : ℤ) → 1 ≤ n → n ≤ 8 → IsSignedOf n z → le n (of_z w64 z) ≡ le n (complement n z)
le-complement n (pos k) low high h = refl
le-complement n (negsuc k) low high h =
    let half : k < 2 ^ (8 * n - 1) = h in
    let twice = (sign_bit n low high).2 in
    let whole = pow256 n in
    let exponent : 64 - 8 * n + 8 * n ≡ 64 = omega arith in
    let times : 2 ^ (64 - 8 * n) * 2 ^ (8 * n) ≡ 2 ^ 64 = sym (pow-add 2 (64 - 8 * n) (8 * n)) ∙ ap (λ (e : ℕ). 2 ^ e) exponent in
    let some : 1 ≤ 2 ^ (64 - 8 * n) = one-le-pow (64 - 8 * n) 2 (omega arith) in
    let below : k < 2 ^ (8 * n) = omega arith in
    let rest : (2 ^ 64 - suc k) % 2 ^ (8 * n) ≡ 2 ^ (8 * n) - suc k =
    ap (λ (y : ℕ). (y - suc k) % 2 ^ (8 * n)) (sym times) ∙ mod_below (2 ^ (64 - 8 * n)) (2 ^ (8 * n)) k some below in
    sym (le-mod n (2 ^ 64 - suc k)) ∙ ap (λ (m : ℕ). le n ((2 ^ 64 - suc k) % m)) whole ∙ ap (le n) rest

-- the two's complement reading of n bytes is in range, and its complement is their number
pub complement-twos_complement : (n x : ℕ) → 1 ≤ n → n ≤ 8 → x < 256 ^ n
    → IsSignedOf n (twos_complement n x) × (complement n (twos_complement n x) ≡ x)
complement-twos_complement n x low high h =
    let twice = (sign_bit n low high).2 in
    let whole = pow256 n in
    elim (cases_lt x (2 ^ (8 * n - 1))) [
      | inl lt ↦
          let yes_ : nat_lt x (2 ^ (8 * n - 1)) ≡ true = grind arith in
          rw yes_ (lt, refl)
      | inr le ↦
          let no_ : nat_lt x (2 ^ (8 * n - 1)) ≡ false = grind arith in
          let below : x < 2 ^ (8 * n) = omega arith in
          let e : pos x -ℤ pos (2 ^ (8 * n)) ≡ negsuc (2 ^ (8 * n) - suc x) = omega (arith, ints) in
          rw (no_, e) (omega arith, omega arith)
    ]

-- ---- values

pub spelled-signed : (form : Form) (z : ℤ) → IsSized form → IsOf form (Signed z) → le (size_of form) (of_z w64 z) ≡ spelled (size_of form) (Signed z)
spelled-signed forms.Bool z sized h = absurd h
spelled-signed (forms.Signed n) z sized h = le-complement n z sized.0 sized.1 h
spelled-signed (forms.Unsigned n) z sized h = absurd h
spelled-signed (forms.Bits n) z sized h = absurd h
spelled-signed forms.Real z sized h = absurd h
spelled-signed (forms.Text n) z sized h = absurd h
spelled-signed forms.Lreal z sized h = absurd h
spelled-signed forms.Wide z sized h = absurd h
spelled-signed forms.Path z sized h = absurd h
spelled-signed forms.Date z sized h = absurd h
spelled-signed forms.TimeOfDay z sized h = absurd h
spelled-signed forms.DateAndTime z sized h = absurd h

-- the value that the first bytes spell
at_front : (n : ℕ) (bytes : List ℕ) → AreBytes bytes → n ≤ length bytes
    → bytes ≡ le n (little_from 0 n (take n bytes)) ++ drop n bytes
at_front n bytes fits room =
    let front = le-front n (take n bytes) (AreBytes-take n bytes fits) (length-take-le n bytes room) in
    sym (ap (λ (r : List ℕ). r ++ drop n bytes) front ∙ take-append-drop n bytes)

number-lt : (n : ℕ) (bytes : List ℕ) → AreBytes bytes → little_from 0 n (take n bytes) < 256 ^ n
number-lt n bytes fits = little_from-lt 0 n (take n bytes) (AreBytes-take n bytes fits)

-- What the code reads from the bytes that it splits off is the value at the front.
pub record Splits (form : Form) (bytes front rest : List ℕ) : Type 0 where
  pub fits : AreBytes bytes
  pub room : size_of form ≤ length bytes
  pub front_is : front ≡ take (size_of form) bytes
  pub rest_is : rest ≡ drop (size_of form) bytes

pub signed_front : (n : ℕ) (bytes front rest : List ℕ) (z : ℤ) → Splits (forms.Signed n) bytes front rest → 1 ≤ n → n ≤ 8
    → z ≡ twos_complement n (little_from 0 n front) → BeginsWith (forms.Signed n) bytes (Signed z) rest
signed_front n bytes front rest z h low high e =
    let read = complement-twos_complement n (little_from 0 n (take n bytes)) low high (number-lt n bytes h.fits) in
    rw (e, h.front_is, h.rest_is) (record {
      of_type = read.0;
      bytes_of = at_front n bytes h.fits h.room ∙ ap (λ (x : ℕ). le n x ++ drop n bytes) (sym read.1);
    })

pub unsigned_front : (n : ℕ) (bytes front rest : List ℕ) (x : ℕ) → Splits (forms.Unsigned n) bytes front rest
    → x ≡ little_from 0 n front → BeginsWith (forms.Unsigned n) bytes (Unsigned x) rest
unsigned_front n bytes front rest x h e = rw (e, h.front_is, h.rest_is) (record {
  of_type = rw (sym (pow256 n)) (number-lt n bytes h.fits);
  bytes_of = at_front n bytes h.fits h.room;
})

pub bits_front : (n : ℕ) (bytes front rest : List ℕ) (x : ℕ) → Splits (forms.Bits n) bytes front rest
    → x ≡ little_from 0 n front → BeginsWith (forms.Bits n) bytes (Bits x) rest
bits_front n bytes front rest x h e = rw (e, h.front_is, h.rest_is) (record {
  of_type = rw (sym (pow256 n)) (number-lt n bytes h.fits);
  bytes_of = at_front n bytes h.fits h.room;
})

-- a count, and what it counts
counted_bytes : (n units size : ℕ) (front rest text behind : List ℕ) → AreBytes front → length front ≡ n
    → units ≡ little_from 0 n front → text ≡ take size rest → behind ≡ drop size rest
    → front ++ rest ≡ (le n units ++ text) ++ behind
counted_bytes n units size front rest text behind fits count is e f =
    let number : le n units ≡ front = ap (le n) is ∙ le-front n front fits count in
    let parts : text ++ behind ≡ rest = rw (e, f) (take-append-drop size rest) in
    sym (append_assoc (le n units) text behind ∙ ap (λ (r : List ℕ). le n units ++ r) parts ∙ ap (λ (r : List ℕ). r ++ rest) number)

-- What is read after a count.
pub record ReadCounted (form : Form) (units : ℕ) (front rest text behind : List ℕ) : Type 0 where
  pub front_fits : AreBytes front
  pub rest_fits : AreBytes rest
  pub units_is : units ≡ little_from 0 (length front) front
  pub room : units * unit_size form ≤ length rest
  pub text_is : text ≡ take (units * unit_size form) rest
  pub behind_is : behind ≡ drop (units * unit_size form) rest

text_length : (form : Form) (units : ℕ) (front rest text behind : List ℕ) → ReadCounted form units front rest text behind
    → length text ≡ units * unit_size form
text_length form units front rest text behind h =
    ap length h.text_is ∙ length-take-le (units * unit_size form) rest h.room

text_fits : (form : Form) (units : ℕ) (front rest text behind : List ℕ) → ReadCounted form units front rest text behind → AreBytes text
text_fits form units front rest text behind h =
    subst AreBytes (sym h.text_is) (AreBytes-take (units * unit_size form) rest h.rest_fits)

units_below : (form : Form) (n units : ℕ) (front rest text behind : List ℕ) → ReadCounted form units front rest text behind
    → length front ≡ n → (units ≡ little_from 0 n front) × (units < 256 ^ n)
units_below form n units front rest text behind h count =
    let is : units ≡ little_from 0 n front = h.units_is ∙ ap (λ (k : ℕ). little_from 0 k front) count in
    (is, subst (λ (u : ℕ). u < 256 ^ n) (sym is) (little_from-lt 0 n front h.front_fits))

pub counted_front : (form : Form) (units : ℕ) (front rest text behind : List ℕ) → IsCounted form front
    → ReadCounted form units front rest text behind → BeginsWith form (front ++ rest) (counted form text) behind
counted_front (forms.Text n) units front rest text behind counts h =
    let below = units_below (forms.Text n) n units front rest text behind h counts.2 in
    let long : length text ≡ units = text_length (forms.Text n) units front rest text behind h ∙ omega arith in
    record {
      of_type = (rw (long, sym (pow256 n)) below.1, text_fits (forms.Text n) units front rest text behind h);
      bytes_of = rw long (counted_bytes n units (units * 1) front rest text behind h.front_fits counts.2 below.0 h.text_is h.behind_is);
    }
counted_front forms.Wide units front rest text behind counts h =
    let below = units_below forms.Wide 2 units front rest text behind h counts in
    let long : length text ≡ units * 2 = text_length forms.Wide units front rest text behind h in
    let half : length text / 2 ≡ units = omega (arith, long) in
    record {
      of_type = (omega (arith, long), rw half below.1, text_fits forms.Wide units front rest text behind h);
      bytes_of = rw half (counted_bytes 2 units (units * 2) front rest text behind h.front_fits counts below.0 h.text_is h.behind_is);
    }
counted_front forms.Path units front rest text behind counts h =
    let below = units_below forms.Path 1 units front rest text behind h counts in
    let long : length text ≡ units * 2 = text_length forms.Path units front rest text behind h in
    let half : length text / 2 ≡ units = omega (arith, long) in
    record {
      of_type = (omega (arith, long), rw half below.1, text_fits forms.Path units front rest text behind h);
      bytes_of = rw half (counted_bytes 1 units (units * 2) front rest text behind h.front_fits counts below.0 h.text_is h.behind_is);
    }
counted_front forms.Bool units front rest text behind counts h = absurd counts
counted_front (forms.Signed n) units front rest text behind counts h = absurd counts
counted_front (forms.Unsigned n) units front rest text behind counts h = absurd counts
counted_front (forms.Bits n) units front rest text behind counts h = absurd counts
counted_front forms.Real units front rest text behind counts h = absurd counts
counted_front forms.Lreal units front rest text behind counts h = absurd counts
counted_front forms.Date units front rest text behind counts h = absurd counts
counted_front forms.TimeOfDay units front rest text behind counts h = absurd counts
counted_front forms.DateAndTime units front rest text behind counts h = absurd counts
