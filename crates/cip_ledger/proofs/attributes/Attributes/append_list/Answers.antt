use Rattle.std.proofs.Common.{◌≡◌, ◌+◌, ◌*◌, ◌++◌, ◌∷◌, ◌&&◌, ◌∙◌, Bool, drop, sym, ap, arith, append_assoc, true, false, refl}
use Rattle.byteorder.specs.Endian.{little_number}
use Rattle.std.specs.Prelude.{is_some}
use Rattle.std.proofs.lemmas.List.{take_rest, length-drop, append-nil}
use Rattle.std.specs.List.{flat_map}
use Rattle.cip_bytes.specs.Numbers.{words_of}
use Rattle.cip_ledger.specs.AttributeValue.{values_in, listed}
use Rattle.cip_ledger.specs.Services.{list_entry, has_all}
use Rattle.cip_ledger.proofs.Words.{words_step, words_end}
use Rattle.cip_ledger.proofs.attributes.Attributes.append_list.Goals as goal
use Rattle.cip_ledger.proofs.attributes.Attributes.append_list.Goals.{then-all, else-all}

kept : (a t n r x w : Bool) → x ≡ t && r → a ≡ true → n ≡ t → a && x ≡ w → n && r ≡ w
kept a t n r x w e f g h = ap (λ b. b && r) g ∙ sym e ∙ sym (ap (λ b. b && x) f) ∙ h

lost : (a n r x w : Bool) → a ≡ false → n ≡ a → a && x ≡ w → n && r ≡ w
lost a n r x w f g h = ap (λ b. b && r) (g ∙ f) ∙ sym (ap (λ b. b && x) f) ∙ h

both : (a x : Bool) → x ≡ true → a ≡ a && x
both true x e = sym e
both false x e = refl

pub loop-i-preserved : goal.loop-i-preserved
loop-i-preserved c =
    let xs = c.args.list.now in
    let entry = list_entry (values_in c.args.self) in
    let later = words_of (drop (2 * (c.loop-i.i + 1)) xs) in
    let attribute = c.read_u16-attribute.result in
    let read : c.read_u16-attribute.result ≡ little_number 2 (drop (2 * c.loop-i.i) xs) = rw (take_rest xs (2 * c.loop-i.i)) at c.read_u16-attribute.ensures in
    let e : words_of (drop (2 * c.loop-i.i) xs) ≡ c.read_u16-attribute.result ∷ later = words_step c.loop-i.i xs (omega arith) ∙ ap (λ n. n ∷ later) (sym read) in
    let old = c.loop-i.reply.items in
    let text : c.append_listed.new.reply.items ≡ old ++ entry attribute
    = c.in_ok-there.ensures.1 ∙ ap (λ v. old ++ listed attribute v) c.value.ensures in
    let there = c.in_ok-there.ensures.2 ∙ ap is_some c.value.ensures in
    record {
      text = ap (λ t. t ++ flat_map entry later) text
          ∙ append_assoc old (entry attribute) (flat_map entry later)
          ∙ ap (λ w. old ++ flat_map entry w) (sym e)
          ∙ c.loop-i.invariant.text;
      there = elim c.if-all.branch [
        | then-all w ↦ kept _ _ _ _ _ _ (ap (has_all (values_in c.args.self)) e) w.if-all.true (w.all-is ∙ there) c.loop-i.invariant.there
        | else-all w ↦ lost _ _ _ _ _ w.if-all.false w.all-is c.loop-i.invariant.there
      ];
      fits = rw c.in_ok-there.ensures.1 c.in_ok-there.ensures.0;
    }

pub returns : goal.returns
returns c =
    let xs = c.args.list.now in
    let e = words_end (drop (2 * c.loop-i.i) xs) (omega (arith, length-drop (2 * c.loop-i.i) xs)) in
    let whole = sym (append-nil c.loop-i.reply.items) ∙ ap (λ w. c.loop-i.reply.items ++ flat_map (list_entry (values_in c.args.self)) w) (sym e) ∙ c.loop-i.invariant.text in
    let there = both c.loop-i.all _ (ap (has_all (values_in c.args.self)) e) ∙ c.loop-i.invariant.there in
    (rw (← whole) c.loop-i.invariant.fits, whole, there)
