use Rattle.std.proofs.Common.{ℕ, ◌≡◌, ◌≢◌, List, [], ◌++◌, ap, sym, ◌∙◌, length, append_assoc, vec_len, if◌then◌else◌}
use Rattle.std.proofs.lemmas.Bool.{ne_eqb}
use Rattle.byteorder.specs.Endian.{little_bytes}
use Rattle.saved_state.specs.Checksum.{checksum}
use Rattle.enip_keep.specs.Kept.{pair_of}
use Rattle.enip_keep.specs.Rounds.{entry_bytes}
use Rattle.enip_keep.proofs.rounds.checksum_with.Goals as goal

-- three pieces behind others
three : (others a b c x y z : List ℕ) → a ≡ x → b ≡ y → c ≡ z → others ++ a ++ b ++ c ≡ others ++ (x ++ (y ++ z))
three others a b c x y z p q r =
    append_assoc (others ++ a) b c ∙ append_assoc others a (b ++ c)
    ∙ ap (λ k. others ++ (k ++ (b ++ c))) p ∙ ap (λ k. others ++ (x ++ (k ++ c))) q ∙ ap (λ k. others ++ (x ++ (y ++ k))) r

-- an entry of the device has all three
own_bytes : (entry : ℕ × List ℕ) → entry.0 ≢ 0
    → entry_bytes entry ≡ little_bytes 8 entry.0 ++ (little_bytes 8 (length entry.1) ++ entry.1)
own_bytes entry own =
    ap (λ b. if b then [] else little_bytes 8 entry.0 ++ (little_bytes 8 (length entry.1) ++ entry.1))
    (ne_eqb entry.0 0 own)

pub returns : goal.returns
returns c others is =
    let entry = pair_of c.args.entry.now in
    let key = c.to_le_bytes.result in
    let size = c.to_le_bytes-2.result in
    let count : vec_len c.args.entry.now.bytes ≡ length entry.1
    = sym c.deref.ensures.len ∙ ap length c.deref.ensures.value in
    c.checksum_more.ensures (others ++ key ++ size)
    (c.checksum_more-with_length.ensures (others ++ key) (c.checksum_more-with_key.ensures others is))
    ∙ ap checksum
    (three others key size c.deref.result.now (little_bytes 8 entry.0) (little_bytes 8 (length entry.1)) entry.1
    c.to_le_bytes.ensures (c.to_le_bytes-2.ensures ∙ ap (little_bytes 8) (c.len.ensures ∙ count)) c.deref.ensures.value
    ∙ ap (λ xs. others ++ xs) (sym (own_bytes entry c.if-entry-eq-ROUND_KEY.false)))
