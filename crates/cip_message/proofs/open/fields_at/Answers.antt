use Rattle.std.proofs.Common.{◌≡◌, ℕ, ◌+◌, ◌*◌, drop, slice_index, refl, ap, ◌∙◌}
use Rattle.cip_bytes.proofs.Bytes.{number_behind, rest_slice}
use Rattle.cip_bytes.specs.Numbers.{number_at}
use Rattle.cip_message.specs.Open.{width, open_fields_in}
use Rattle.cip_message.proofs.Opens.{same_open}
use Rattle.cip_message.proofs.open.fields_at.Goals as goal

pub returns : goal.returns
returns g c =
    let b = c.args.bytes.now in
    let layout = g.P.DirectionParameters.layout in
    let wide : c.width-width.result ≡ width layout = c.width-width.ensures.exact in
    same_open (open_fields_in layout b) _ _ _ _ _ _ _ _ _ _ _ _ _ _ refl refl
    (c.read_u32.ensures ∙ number_behind 4 2 b) (c.read_u32-2.ensures ∙ number_behind 4 6 b)
    (c.read_u16.ensures ∙ number_behind 2 10 b) (c.read_u16-2.ensures ∙ number_behind 2 12 b)
    (c.read_u32-3.ensures ∙ number_behind 4 14 b) refl (c.read_u32-4.ensures ∙ number_behind 4 22 b)
    (c.read_front.ensures ∙ number_behind (width layout) 26 b)
    (c.read_u32-5.ensures ∙ (number_behind 4 (26 + c.width-width.result) b ∙ ap (λ (w : ℕ). number_at (26 + w) 4 b) wide))
    (c.read_front-2.ensures ∙ (number_behind (width layout) (30 + c.width-width.result) b ∙ ap (λ (w : ℕ). number_at (30 + w) (width layout) b) wide))
    (ap (λ (w : ℕ). slice_index b (30 + 2 * w)) wide)
    (rest_slice c.size_before_path.result b ∙ ap (λ (n : ℕ). drop n b) c.size_before_path.ensures.exact)
