-- Appending one piece after another to a list.
use Rattle.std.proofs.Common.{◌≡◌, List, ℕ, ◌++◌, length, take, drop, refl, sym, ap, ◌∙◌, append_assoc}
use Rattle.std.proofs.lemmas.List.{take_at, drop_at}

-- new is old with these bytes appended
pub record Grows (old text new : List ℕ) : Type 0 where
  pub is : new ≡ old ++ text

pub grows_then : (old a mid b new : List ℕ) → Grows old a mid → new ≡ mid ++ b → Grows old (a ++ b) new
grows_then old a mid b new p q = record { is = q ∙ ap (λ (t : List ℕ). t ++ b) p.is ∙ append_assoc old a b }

pub six_grow : (old a b c d e f n1 n2 n3 n4 n5 n6 : List ℕ) → n1 ≡ old ++ a → n2 ≡ n1 ++ b → n3 ≡ n2 ++ c → n4 ≡ n3 ++ d → n5 ≡ n4 ++ e → n6 ≡ n5 ++ f
    → n6 ≡ old ++ (a ++ b ++ c ++ d ++ e ++ f)
six_grow old a b c d e f n1 n2 n3 n4 n5 n6 p1 p2 p3 p4 p5 p6 =
    let g1 : Grows old a n1 = record { is = p1 } in
    let g2 = grows_then old a n1 b n2 g1 p2 in
    let g3 = grows_then old (a ++ b) n2 c n3 g2 p3 in
    let g4 = grows_then old (a ++ b ++ c) n3 d n4 g3 p4 in
    let g5 = grows_then old (a ++ b ++ c ++ d) n4 e n5 g4 p5 in
    (grows_then old (a ++ b ++ c ++ d ++ e) n5 f n6 g5 p6).is

-- two prefixes of the same length of one list are the same
pub same_front : (a c x y : List ℕ) → length c ≡ length a → a ++ x ≡ c ++ y → (a ≡ c) × (x ≡ y)
same_front a c x y len e = (
  sym (take_at a x (length a) refl) ∙ ap (take (length a)) e ∙ take_at c y (length a) len,
  sym (drop_at a x (length a) refl) ∙ ap (drop (length a)) e ∙ drop_at c y (length a) len,
)

pub seven_grow : (old a b c d e f g n1 n2 n3 n4 n5 n6 n7 : List ℕ) → n1 ≡ old ++ a → n2 ≡ n1 ++ b → n3 ≡ n2 ++ c → n4 ≡ n3 ++ d → n5 ≡ n4 ++ e → n6 ≡ n5 ++ f → n7 ≡ n6 ++ g
    → n7 ≡ old ++ (a ++ b ++ c ++ d ++ e ++ f ++ g)
seven_grow old a b c d e f g n1 n2 n3 n4 n5 n6 n7 p1 p2 p3 p4 p5 p6 p7 =
    let g6 : Grows old (a ++ b ++ c ++ d ++ e ++ f) n6 = record { is = six_grow old a b c d e f n1 n2 n3 n4 n5 n6 p1 p2 p3 p4 p5 p6 } in
    (grows_then old (a ++ b ++ c ++ d ++ e ++ f) n6 g n7 g6 p7).is
