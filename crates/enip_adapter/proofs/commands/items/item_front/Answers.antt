use Rattle.std.proofs.Common.{◌≡◌, ℕ, ◌+◌, List, [], ◌∷◌, ◌++◌, length, ap, sym, ◌∙◌, append_assoc, length-append, arith}
use Rattle.std.proofs.lemmas.List.{take_all, take_at}
use Rattle.std.proofs.lemmas.Slice.{take-put_mid}
use borrow.Rule.Slice.PartMut.{put_mid, mid_of, same_len_mid}
use Rattle.cip_class3.specs.Item.{item}
use Rattle.enip_adapter.proofs.commands.items.item_front.Goals as goal

-- what is written after a front, to the end of its block
joined : (f b : List ℕ) → length f ≡ 20 → length b ≡ length (mid_of 20 2 (f ++ 0 ∷ 0 ∷ [])) → length b ≡ 2 →
    put_mid 20 2 (f ++ 0 ∷ 0 ∷ []) b ≡ f ++ b
joined f b p same q =
    let long : length (f ++ 0 ∷ 0 ∷ []) ≡ length f + 2 = length-append f (0 ∷ 0 ∷ []) in
    let whole : length (put_mid 20 2 (f ++ 0 ∷ 0 ∷ []) b) ≡ length (f ++ 0 ∷ 0 ∷ []) = same_len_mid 20 2 (f ++ 0 ∷ 0 ∷ []) b same in
    sym (take_all 22 (put_mid 20 2 (f ++ 0 ∷ 0 ∷ []) b) (omega (arith, whole, long, p)))
    ∙ take-put_mid 20 2 (f ++ 0 ∷ 0 ∷ []) b 22 (omega (arith, q)) (omega (arith, long, p))
    ∙ ap (λ l. l ++ b) (take_at f (0 ∷ 0 ∷ []) 20 (omega (arith, p)))

pub returns : goal.returns
returns c reply fits =
    let count = c.copy_from_slice-2.ensures.after ∙ c.to_le_bytes.ensures in
    c.unit_body_head.ensures (item c.args.sequence_count reply) (omega (arith, fits))
    ∙ ap (λ l. l ++ item c.args.sequence_count reply) (sym c.copy_from_slice.ensures.after)
    ∙ sym (append_assoc c.copy_from_slice.new.self (item c.args.sequence_count []) reply)
    ∙ ap (λ l. (c.copy_from_slice.new.self ++ l) ++ reply) (sym count)
    ∙ ap (λ l. l ++ reply) (sym (joined c.copy_from_slice.new.self c.copy_from_slice-2.new.self c.copy_from_slice.ensures.len
    c.copy_from_slice-2.ensures.len (ap length count)))
