use Rattle.std.proofs.Common.{ℕ, ◌/◌, List, [], ◌∷◌, ◌++◌, length, ap, ◌∙◌, append_assoc}
use Rattle.cip_bytes.specs.Numbers.{le}
use Rattle.cip_bytes.proofs.Joined.{seven_grow}
use Rattle.cip_message.specs.Open.{width}
use Rattle.cip_message.proofs.open.OpenRequest.append_back.Goals as goal

pub returns-clause-text : goal.returns-clause-text
returns-clause-text g c =
    let s = c.args.self.now in
    let bits = g.P.DirectionParameters.bits in
    let w = width g.P.DirectionParameters.layout in
    let words : List ℕ = (length s.path.now / 2) ∷ [] in
    let last = c.append_u8-3.ensures.text
    ∙ (ap (λ (l : List ℕ). l ++ words) c.append_u8-2.ensures.text
    ∙ append_assoc c.append_parameters-2.new.out.items (s.transport.bits ∷ []) words) in
    seven_grow c.args.out.now.items (s.timeout_multiplier ∷ []) (0 ∷ 0 ∷ 0 ∷ []) (le 4 s.o_to_t_rpi) (le w (bits s.o_to_t_parameters)) (le 4 s.t_to_o_rpi) (le w (bits s.t_to_o_parameters)) (s.transport.bits ∷ words) _ _ _ _ _ _ _
    c.append_u8.ensures.text c.append.ensures.text c.append_u32.ensures.text c.append_parameters.ensures.text c.append_u32-2.ensures.text c.append_parameters-2.ensures.text last
