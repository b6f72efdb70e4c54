-- The text of an address has no slash.
use Rattle.std.proofs.Common.{◌≡◌, ℕ, ◌+◌, ◌<◌, ◌≤◌, ◌^◌, Bool, true, false, List, [], ◌∷◌, ◌++◌, length, take, drop, decimal, refl, sym, ap, ◌∙◌, subst, arith, lit≤, inl, inr, eq-eqb, ne_eqb, append_assoc, one-add, add-one, suc}
use Rattle.std.proofs.lemmas.Bool.{cases_eq}
use Rattle.std.proofs.lemmas.List.{length-append}
use Rattle.std.proofs.lemmas.List.Folds.{prefix_len-append}
use Rattle.std.proofs.lemmas.Fmt.{decimal_is_IsNumeral}
use Rattle.std.specs.Prelude.{not, ◌==◌}
use Rattle.std.specs.Char.{digit_value}
use Rattle.std.specs.Str.Parse.{AllDigits}
use Rattle.std.specs.Net.Grammar.{IsIpText, IsDotted, IsColonHex, IsGroupsAfter, IsElided}
use Rattle.std.specs.declared.net.ip_addr.IpAddr.{IpAddr}
use Rattle.std.specs.declared.net.ip_addr.IpAddr.TheVariants.{V4, V6}
use Rattle.enip_access.specs.Prefix.{slash_in}

abbrev pub HasNoSlash : List ℕ → Type 0
HasNoSlash text = slash_in text ≡ length text

pub joined : (xs ys : List ℕ) → HasNoSlash xs → slash_in (xs ++ ys) ≡ length xs + slash_in ys
joined xs ys none = prefix_len-append (λ x. not (x == 47)) xs ys ∙ rw (eq-eqb (slash_in xs) (length xs) none) refl

both : (xs ys : List ℕ) → HasNoSlash xs → HasNoSlash ys → HasNoSlash (xs ++ ys)
both xs ys h k = joined xs ys h ∙ ap (λ n. length xs + n) k ∙ sym (length-append xs ys)

digits : (radix : ℕ) (ds : List ℕ) → radix ≤ 16 → AllDigits radix ds → HasNoSlash ds
digits radix [] small all = refl
digits radix (d ∷ ds) small all =
    let none : 16 ≤ digit_value 47 = lit≤ tt in
    let below : digit_value d < radix = all.0 in
    let other : d ≡ 47 → ⊥ = λ same. let is : digit_value d ≡ digit_value 47 = ap digit_value same in omega (arith, is, none, below, small) in
    let later = digits radix ds small all.1 in
    rw (ne_eqb d 47 other) (omega (arith, later))

octet : (n : ℕ) → n < 256 → HasNoSlash (decimal n)
octet n small = digits 10 (decimal n) (lit≤ tt) (decimal_is_IsNumeral n (omega arith)).0.1

dotted : (text octets : List ℕ) → IsDotted text octets → HasNoSlash text
dotted text octets h =
    let first = both _ _ (both _ (46 ∷ []) (octet h.a h.fit.0) refl) (octet h.b h.fit.1) in
    let second = both _ _ (both _ (46 ∷ []) first refl) (octet h.c h.fit.2) in
    subst HasNoSlash (sym h.spelled) (both _ _ (both _ (46 ∷ []) second refl) (octet h.d h.fit.3))

groups : (ipv4 : Bool) (lead text segments : List ℕ) → HasNoSlash lead → IsGroupsAfter ipv4 lead text segments → HasNoSlash text
groups ipv4 lead text [] none h = subst HasNoSlash (sym h) refl
groups ipv4 lead text (s ∷ segments) none (inl (group, rest, e, is, more)) =
    subst HasNoSlash (sym e) (both _ _ (both _ _ none (digits 16 group (lit≤ tt) is.0.0.1)) (groups ipv4 (58 ∷ []) rest segments refl more))
groups ipv4 lead text (s ∷ segments) none (inr (last, octets, may, e, is, same)) =
    subst HasNoSlash (sym e) (both _ _ none (dotted last octets is))

elided : (text segments : List ℕ) → IsElided text segments → HasNoSlash text
elided text segments h =
    let front = both _ (58 ∷ 58 ∷ []) (groups false [] h.head_text h.head refl h.head_groups) refl in
    subst HasNoSlash (sym h.spelled) (both _ _ front (groups true [] h.tail_text h.tail refl h.tail_groups))

pub no_slash : (text : List ℕ) (a : IpAddr) → IsIpText text a → HasNoSlash text
no_slash text (V4 a) h = dotted text a.octets h
no_slash text (V6 a) (inl h) = groups true [] text a.segments refl h.0
no_slash text (V6 a) (inr h) = elided text a.segments h

pub below : (text : List ℕ) → slash_in text ≤ length text
below [] = omega arith
below (x ∷ xs) =
    elim (cases_eq x 47) [
      | inl same ↦ rw (eq-eqb x 47 same) (omega arith)
      | inr other ↦ rw (ne_eqb x 47 other) (omega (arith, below xs))
    ]

drop_next : (n x : ℕ) (xs : List ℕ) → drop (suc n + 1) (x ∷ xs) ≡ drop (n + 1) xs
drop_next n x xs = rw (add-one (suc n), add-one n) refl

-- a text with a slash, before it and after it
pub at_slash : (text : List ℕ) → slash_in text < length text → text ≡ take (slash_in text) text ++ 47 ∷ drop (slash_in text + 1) text
at_slash [] h = absurd (omega arith)
at_slash (x ∷ xs) h =
    elim (cases_eq x 47) [
      | inl same ↦ rw (eq-eqb x 47 same) (ap (λ y. y ∷ xs) same)
      | inr other ↦
          let shorter : slash_in xs < length xs = omega (arith, rw (ne_eqb x 47 other) at h) in
          rw (ne_eqb x 47 other, one-add) (
          ap (λ ys. x ∷ ys) (at_slash xs shorter)
          ∙ ap (λ ys. x ∷ (take (slash_in xs) xs ++ 47 ∷ ys)) (sym (drop_next (slash_in xs) x xs))
          )
    ]
