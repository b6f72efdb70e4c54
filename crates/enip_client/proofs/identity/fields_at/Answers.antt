use Rattle.std.proofs.Common.{ℕ, List, take, slice_index, ap, ◌∙◌, refl}
use Rattle.cip_bytes.proofs.Bytes.{number_behind, rest_slice}
use Rattle.enip_client.specs.Identity.{identity_fields}
use Rattle.enip_client.proofs.IdentityLemmas.{same_identity, big_behind}
use Rattle.enip_client.proofs.identity.fields_at.Goals as goal

pub returns : goal.returns
unfolding identity_fields
returns c =
    let b = c.args.bytes.now in
    let size = slice_index b 32 in
    same_identity (identity_fields b) _ _ _ _ _ _ _ _ _ _ _ _ _ (c.read_u16.ensures ∙ number_behind 2 0 b) (c.read_u16-2.ensures ∙ big_behind 2 2 b) (c.read_u16-3.ensures ∙ big_behind 2 4 b)
    c.copy_from_slice.ensures.after
    (c.read_u16-4.ensures ∙ number_behind 2 18 b) (c.read_u16-5.ensures ∙ number_behind 2 20 b) (c.read_u16-6.ensures ∙ number_behind 2 22 b) refl refl
    (c.read_u16-7.ensures ∙ number_behind 2 26 b) (c.read_u32.ensures ∙ number_behind 4 28 b)
    (ap (λ (r : List ℕ). take size r) (rest_slice 33 b)) (ap (λ (r : List ℕ). slice_index r size) (rest_slice 33 b))
