-- A text is read as a prefix exactly if the grammar of rules has it as one.
use Rattle.std.proofs.Common.{◌≡◌, ℕ, ◌+◌, ◌<◌, ◌≤◌, Bool, true, false, cond, List, [], ◌∷◌, ◌++◌, length, take, drop, Option, Some, None, Result, Ok, Err, decimal, refl, sym, ap, ◌∙◌, subst, arith, inl, inr, eq-eqb, ne_eqb, le-leb, append_assoc, add-zero}
use Rattle.std.proofs.lemmas.Bool.{cases_eq, cases_lt, lt-leb}
use Rattle.std.proofs.lemmas.List.{length-append, take_all, take_at, drop_at}
use Rattle.std.proofs.lemmas.Option.{none-some, same_Some}
use Rattle.std.specs.Prelude.{nat_le, ◌==◌}
use Rattle.std.specs.Result.{result_ok}
use Rattle.std.specs.Net.Grammar.{IsIpText}
use Rattle.std.specs.declared.net.ip_addr.IpAddr.{IpAddr}
use Rattle.std.specs.declared.net.ip_addr.IpAddr.TheVariants.{V4, V6}
use Rattle.enip_access.specs.Address.{address_in}
use Rattle.enip_access.specs.declared.prefix.Prefix.{Prefix}
use Rattle.enip_access.specs.declared.prefix.PrefixFault.{PrefixFault}
use Rattle.enip_access.specs.declared.prefix.PrefixFault.TheVariants as fault
use Rattle.enip_access.specs.Prefix.{cut, prefix_in, prefix_by, prefix_at, family_bits, counted, checked, bits_after, number_in, slash_in, IsAlone, IsCounted, IsRuleText, RulesAreTexts}
use Rattle.enip_access.proofs.Texts.{sound as read_address, complete as address_read}
use Rattle.enip_access.proofs.Numbers.{sound as read_number, complete as number_read}
use Rattle.enip_access.proofs.NoSlash.{no_slash, joined, at_slash, below}

refused : {P : Type 0} (why : PrefixFault) (p : Prefix) → ◌≡◌ {A = Result Prefix PrefixFault} (Err why) (Ok p) → P
refused why p is = absurd (none-some p (ap result_ok is))

same_Ok : (p q : Prefix) → ◌≡◌ {A = Result Prefix PrefixFault} (Ok p) (Ok q) → p ≡ q
same_Ok p q is = same_Some p q (ap result_ok is)

record IsChecked (p q : Prefix) : Type 0 where
  same : q ≡ p
  zeros : bits_after p ≡ 0

checked_sound : (p q : Prefix) → checked p ≡ Ok q → IsChecked p q
checked_sound p q h =
    elim (cases_eq (bits_after p) 0) [
      | inl zero ↦ record { same = sym (same_Ok p q (rw (eq-eqb (bits_after p) 0 zero) at h)); zeros = zero }
      | inr other ↦ refused _ q (rw (ne_eqb (bits_after p) 0 other) at h)
    ]

record IsNumber (a : IpAddr) (rest : List ℕ) (p : Prefix) : Type 0 where
  n : ℕ
  text : rest ≡ decimal n
  within : n ≤ family_bits a
  is : IsChecked (prefix_at a n) p

counted_sound : (a : IpAddr) (rest : List ℕ) (p : Prefix) (o : Option ℕ) → number_in rest ≡ o → counted a o ≡ Ok p → IsNumber a rest p
counted_sound a rest p None e h = refused _ p h
counted_sound a rest p (Some n) e h =
    elim (cases_lt (family_bits a) n) [
      | inl over ↦ refused _ p (rw (lt-leb n (family_bits a) over) at h)
      | inr within ↦ record {
        n = n;
        text = (read_number rest n e).1;
        within = within;
        is = checked_sound (prefix_at a n) p (rw (le-leb n (family_bits a) within) at h);
      }
    ]

sound_at : (text : List ℕ) (p : Prefix) (a : IpAddr) → IsIpText (take (slash_in text) text) a → prefix_by (Some a) text ≡ Ok p → IsRuleText text p
sound_at text p a is h =
    elim (cases_eq (slash_in text) (length text)) [
      | inl same ↦
          let whole : take (slash_in text) text ≡ text = take_all (slash_in text) text (omega arith) in
          (a, inl (subst (λ t. IsIpText t a) whole is, sym (same_Ok _ p (rw (eq-eqb (slash_in text) (length text) same) at h))))
      | inr other ↦
          let number = counted_sound a (drop (slash_in text + 1) text) p (number_in (drop (slash_in text + 1) text)) refl (rw (ne_eqb (slash_in text) (length text) other) at h) in
          let shorter : slash_in text < length text = omega (arith, below text) in (
            a,
            inr (record {
              before = take (slash_in text) text;
              n = number.n;
              spelled = at_slash text shorter ∙ ap (λ rest. take (slash_in text) text ++ 47 ∷ rest) number.text ∙ sym (append_assoc _ (47 ∷ []) _);
              address = is;
              within = number.within;
              value = number.is.same;
              zeros = rw number.is.same number.is.zeros;
            }),
          )
    ]

sound_by : (text : List ℕ) (p : Prefix) (o : Option IpAddr) → address_in (take (slash_in text) text) ≡ o → prefix_by o text ≡ Ok p → IsRuleText text p
sound_by text p None e h = refused _ p h
sound_by text p (Some a) e h = sound_at text p a (read_address (take (slash_in text) text) a e) h

sound : (text : List ℕ) (p : Prefix) → prefix_in text ≡ Ok p → IsRuleText text p
unfolding prefix_in
sound text p h = sound_by text p (address_in (take (slash_in text) text)) refl h

alone : (text : List ℕ) (p : Prefix) (a : IpAddr) → IsAlone text a p → prefix_in text ≡ Ok p
unfolding prefix_in
alone text p a (is, value) =
    let none = no_slash text a is in
    let whole : take (slash_in text) text ≡ text = take_all (slash_in text) text (omega arith) in
    rw (whole, address_read text a is, eq-eqb (slash_in text) (length text) none) (ap Ok (sym value))

small : (a : IpAddr) (n : ℕ) → n ≤ family_bits a → n < 1000
small (V4 a) n h = omega arith
small (V6 a) n h = omega arith

counted_read : (a : IpAddr) (n : ℕ) → n ≤ family_bits a → bits_after (prefix_at a n) ≡ 0 → counted a (Some n) ≡ Ok (prefix_at a n)
counted_read a n within zeros =
    ap (λ b. cond b (checked (prefix_at a n)) (Err fault.Length)) (le-leb n (family_bits a) within)
    ∙ ap (λ b. cond b (Ok (prefix_at a n)) (Err (fault.HostBits (cut (prefix_at a n))))) (eq-eqb (bits_after (prefix_at a n)) 0 zeros)

with_number : (before : List ℕ) (n : ℕ) (p : Prefix) (a : IpAddr) → IsIpText before a → n ≤ family_bits a → p ≡ prefix_at a n → bits_after p ≡ 0
    → prefix_in (before ++ 47 ∷ decimal n) ≡ Ok p
unfolding prefix_in
with_number before n p a is within value zeros =
    let text = before ++ 47 ∷ decimal n in
    let at : slash_in text ≡ length before = joined before (47 ∷ decimal n) (no_slash before a is) ∙ add-zero (length before) in
    let found : (slash_in text == length text) ≡ false = ne_eqb (slash_in text) (length text) (λ same. omega (arith, at, length-append before (47 ∷ decimal n))) in
    let front : take (length before) text ≡ before = take_at before (47 ∷ decimal n) (length before) refl in
    let back : drop (length before + 1) text ≡ decimal n =
    ap (drop (length before + 1)) (sym (append_assoc before (47 ∷ []) (decimal n)))
    ∙ drop_at (before ++ 47 ∷ []) (decimal n) (length before + 1) (length-append before (47 ∷ [])) in
    let address : address_in (take (slash_in text) text) ≡ Some a = ap (λ s. address_in (take s text)) at ∙ ap address_in front ∙ address_read before a is in
    let number : number_in (drop (slash_in text + 1) text) ≡ Some n = ap (λ s. number_in (drop (s + 1) text)) at ∙ ap number_in back ∙ number_read n (small a n within) in
    let after : bits_after (prefix_at a n) ≡ 0 = subst (λ q. bits_after q ≡ 0) value zeros in
    ap (λ o. prefix_by o text) address
    ∙ ap (λ b. cond b (Ok (prefix_at a (family_bits a))) (counted a (number_in (drop (slash_in text + 1) text)))) found
    ∙ ap (counted a) number
    ∙ counted_read a n within after
    ∙ ap Ok (sym value)

complete : (text : List ℕ) (p : Prefix) → IsRuleText text p → prefix_in text ≡ Ok p
complete text p (a, inl h) = alone text p a h
complete text p (a, inr h) =
    ap prefix_in (h.spelled ∙ append_assoc h.before (47 ∷ []) (decimal h.n)) ∙ with_number h.before h.n p a h.address h.within h.value h.zeros

pub rules_are_texts : RulesAreTexts
rules_are_texts text p = (sound text p, complete text p)
