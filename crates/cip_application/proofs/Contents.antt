-- The value at the front of its space, after bytes were written.
use Rattle.std.proofs.Common.{◌≡◌, ℕ, zero, suc, ◌+◌, ◌≤◌, List, [], ◌∷◌, ◌++◌, length, take, drop, refl, sym, ap, ◌∙◌, arith}
use Rattle.cip_application.specs.Attributes.{AttributeValues}
use Rattle.cip_application.specs.Values.{with_bytes_at}

pub take_front : (v r : List ℕ) → take (length v) (v ++ r) ≡ v
take_front [] r = refl
take_front (x ∷ v) r = ap (λ l. x ∷ l) (take_front v r)

tail_part : (s n : ℕ) (c b : List ℕ) → n ≡ length b → n ≤ s → s ≤ length c → take s (b ++ drop n c) ≡ b ++ drop n (take s c)
tail_part s zero c [] e le within = refl
tail_part s (suc n) c [] e le within = absurd (omega arith)
tail_part s zero c (x ∷ b) e le within = absurd (omega arith)
tail_part zero (suc n) c (x ∷ b) e le within = absurd (omega arith)
tail_part (suc s) (suc n) [] (x ∷ b) e le within = absurd (omega arith)
tail_part (suc s) (suc n) (y ∷ c) (x ∷ b) e le within =
    ap (λ l. x ∷ l) (tail_part s n c b (omega arith) (omega arith) (omega arith))

part : (s o n : ℕ) (c b : List ℕ) → n ≡ o + length b → n ≤ s → s ≤ length c → take s (take o c ++ (b ++ drop n c)) ≡ take o (take s c) ++ (b ++ drop n (take s c))
part s zero n c b e le within = tail_part s n c b (omega arith) le within
part s (suc o) zero c b e le within = absurd (omega arith)
part zero (suc o) (suc n) c b e le within = absurd (omega arith)
part (suc s) (suc o) (suc n) [] b e le within = absurd (omega arith)
part (suc s) (suc o) (suc n) (y ∷ c) b e le within =
    ap (λ l. y ∷ l) (part s o n c b (omega arith) (omega arith) (omega arith))

-- the value is at the front of its space
pub take_part : (s o : ℕ) (c b : List ℕ) → o + length b ≤ s → s ≤ length c → take s (with_bytes_at c o b) ≡ with_bytes_at (take s c) o b
take_part s o c b le within = part s o (o + length b) c b refl le within

-- a boxed slice with other elements, as many as it had
pub refill : (n : ℕ) (x r : List ℕ) → n ≡ length x → take n (x ++ r) ≡ x
refill n x r e = ap (λ k. take k (x ++ r)) e ∙ take_front x r

-- an attribute with another value, where `y` is its space after the write
pub new_value : (a : AttributeValues) (y x v r : List ℕ) → y ≡ x → x ≡ v ++ r → record a { value = take (length v) y } ≡ record a { value = v }
new_value a y x v r f e =
    ap {A = List ℕ} (λ l. record a { value = l }) (ap (take (length v)) (f ∙ e) ∙ take_front v r)

pub replaced : (o m : AttributeValues) (y x v r : List ℕ) → o ≡ m → y ≡ x → x ≡ v ++ r → record o { value = take (length v) y } ≡ record m { value = v }
replaced o m y x v r view f e =
    new_value o y x v r f e ∙ ap {A = AttributeValues} (λ a. record a { value = v }) view

pub overwritten : (o m : AttributeValues) (s offset : ℕ) (c d y x bytes : List ℕ) → o ≡ m → o.value ≡ take s c → d ≡ c → y ≡ x → x ≡ with_bytes_at d offset bytes → offset + length bytes ≤ s → s ≤ length c → record o { value = take s y } ≡ record m { value = with_bytes_at m.value offset bytes }
overwritten o m s offset c d y x bytes view v e g f le within =
    ap {A = List ℕ} (λ l. record o { value = l }) (ap (take s) (g ∙ f ∙ ap (λ l. with_bytes_at l offset bytes) e) ∙ take_part s offset c bytes le within ∙ ap (λ l. with_bytes_at l offset bytes) (sym v))
    ∙ ap {A = AttributeValues} (λ a. record a { value = with_bytes_at a.value offset bytes }) view
