-- Paths whose segments are all in 8-bit format: a class and an instance, or an attribute too.
use Rattle.std.proofs.Common.{◌≡◌, ℕ, ◌<◌, ◌≤◌, List, [], ◌∷◌, length, slice_index, Some, None, Ok, refl, ap, ◌∙◌, arith}
use Rattle.cip_message.specs.PathReading.{segment_of, class_of, instance_of, attribute_of, member_of, whole_of, path_of}

instance_read : (class instance : ℕ) → path_of (0x20 ∷ class ∷ 0x24 ∷ instance ∷ []) ≡ Ok (record { class = class; instance = instance; attribute = None; member = None })
unfolding path_of class_of instance_of attribute_of member_of whole_of segment_of
instance_read class instance = refl

attribute_read : (class instance attribute : ℕ) → path_of (0x20 ∷ class ∷ 0x24 ∷ instance ∷ 0x30 ∷ attribute ∷ []) ≡ Ok (record { class = class; instance = instance; attribute = Some attribute; member = None })
unfolding path_of class_of instance_of attribute_of member_of whole_of segment_of
attribute_read class instance attribute = refl

pub instance_path : (b : List ℕ) → 4 ≤ length b → length b < 5 → slice_index b 0 ≡ 0x20 → slice_index b 2 ≡ 0x24 → path_of b ≡ Ok (record { class = slice_index b 1; instance = slice_index b 3; attribute = None; member = None })
instance_path [] from to p q = absurd (omega (arith, from))
instance_path (x ∷ []) from to p q = absurd (omega (arith, from))
instance_path (x ∷ c ∷ []) from to p q = absurd (omega (arith, from))
instance_path (x ∷ c ∷ y ∷ []) from to p q = absurd (omega (arith, from))
instance_path (x ∷ c ∷ y ∷ i ∷ []) from to p q = ap (λ (t : ℕ). path_of (t ∷ c ∷ y ∷ i ∷ [])) p ∙ ap (λ (t : ℕ). path_of (0x20 ∷ c ∷ t ∷ i ∷ [])) q ∙ instance_read c i
instance_path (x ∷ c ∷ y ∷ i ∷ z ∷ rest) from to p q = absurd (omega (arith, to))

pub attribute_path : (b : List ℕ) → 6 ≤ length b → length b < 7 → slice_index b 0 ≡ 0x20 → slice_index b 2 ≡ 0x24 → slice_index b 4 ≡ 0x30 → path_of b ≡ Ok (record { class = slice_index b 1; instance = slice_index b 3; attribute = Some (slice_index b 5); member = None })
attribute_path [] from to p q r = absurd (omega (arith, from))
attribute_path (x ∷ []) from to p q r = absurd (omega (arith, from))
attribute_path (x ∷ c ∷ []) from to p q r = absurd (omega (arith, from))
attribute_path (x ∷ c ∷ y ∷ []) from to p q r = absurd (omega (arith, from))
attribute_path (x ∷ c ∷ y ∷ i ∷ []) from to p q r = absurd (omega (arith, from))
attribute_path (x ∷ c ∷ y ∷ i ∷ z ∷ []) from to p q r = absurd (omega (arith, from))
attribute_path (x ∷ c ∷ y ∷ i ∷ z ∷ a ∷ []) from to p q r = ap (λ (t : ℕ). path_of (t ∷ c ∷ y ∷ i ∷ z ∷ a ∷ [])) p ∙ ap (λ (t : ℕ). path_of (0x20 ∷ c ∷ t ∷ i ∷ z ∷ a ∷ [])) q ∙ ap (λ (t : ℕ). path_of (0x20 ∷ c ∷ 0x24 ∷ i ∷ t ∷ a ∷ [])) r ∙ attribute_read c i a
attribute_path (x ∷ c ∷ y ∷ i ∷ z ∷ a ∷ w ∷ rest) from to p q r = absurd (omega (arith, to))
