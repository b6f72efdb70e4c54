use Rattle.std.proofs.Common.{[], ◌∷◌, ◌++◌, length, Err, ap, sym, ◌∙◌}
use Rattle.enip_client.specs.Calls.{bytes_in}
use Rattle.enip_bench.specs.Stored.{world_in}
use Rattle.enip_bench.proofs.BenchLemmas.{refused_told, sent_told}
use Rattle.enip_bench.proofs.ReachedLemmas.{no_client_fault}
use Rattle.enip_bench.proofs.world.World.submit.Goals as goal

-- a client whose connection is open has no fault
pub unreachable-requires : goal.unreachable-requires
unreachable-requires c =
    no_client_fault (world_in c.args.self.now) c.args.request.now c.in-Err-Client.field-0-0 c.requires.reached
    (sym c.submit.ensures.lent ∙ (ap bytes_in c.in-Err-Client.is ∙ ap (λ fault. bytes_in (Err fault)) c.in-Err-Client.field-0-is))

pub returns-in-Err-Refused-clause-stepped : goal.returns-in-Err-Refused-clause-stepped
returns-in-Err-Refused-clause-stepped c =
    refused_told (world_in c.args.self.now) c.args.request.now c.in-Err-Refused.why c.submit.follows.lender-at-none
    c.reserve_frame.new.self.frames c.requires.reached
    (sym c.submit.ensures.lent ∙ (ap bytes_in c.in-Err-Refused.is ∙ ap (λ fault. bytes_in (Err fault)) c.in-Err-Refused.field-0-is))
    c.submit.follows.holds-at-none c.reserve_frame.ensures.kept

pub returns-clause-stepped : goal.returns-clause-stepped
returns-clause-stepped c =
    sent_told (world_in c.args.self.now) c.args.request.now c.in-Ok.frame.now c.submit.follows.lender-at-none
    c.push.new.self.frames c.len.result c.requires.reached
    (sym c.submit.ensures.lent ∙ ap bytes_in c.in-Ok.is) c.submit.follows.holds-at-none
    (c.push.ensures ∙ ap (λ xs. xs ++ c.in-Ok.frame.now ∷ []) c.reserve_frame.ensures.kept)
    (c.len.ensures.count ∙ ap length c.reserve_frame.ensures.kept)
