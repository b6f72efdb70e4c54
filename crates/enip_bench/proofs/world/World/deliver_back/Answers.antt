use Rattle.std.proofs.Common.{◌≡◌, [], ◌∷◌, ◌++◌, ap₂, ◌≤◌, length, Some, ap, sym, ◌∙◌, arith, option_map}
use Rattle.enip_bench.specs.Events.{delivery}
use Rattle.enip_bench.specs.Stored.{world_in, acceptance_in, acceptances_in, reply_put}
use Rattle.enip_bench.proofs.BenchLemmas.{accepted_told}
use Rattle.enip_bench.proofs.PositionLemmas.{map-push}
use Rattle.enip_bench.proofs.ReachedLemmas.{accepted_fits}
use Rattle.enip_bench.proofs.world.World.deliver_back.Goals as goal

pub feed_client-requires-clause-room : goal.feed_client-requires-clause-room
feed_client-requires-clause-room c = λ bytes e.
    let found : delivery c.args.self.now.last_back c.args.self.now.back.frames c.args.position
    ≡ Some c.in-Some.frame.now
    = sym c.delivered.ensures ∙ ap (option_map (λ f. f.now)) c.in-Some.is in
    let within : length bytes ≤ length c.in-Some.frame.now
    = accepted_fits (world_in c.args.self.now) c.args.position c.in-Some.frame.now c.requires found bytes e in
    omega (arith, within, c.in_ok-reply.ensures.spare)

pub returns-clause-stepped : goal.returns-clause-stepped
returns-clause-stepped c =
    let found : delivery c.args.self.now.last_back c.args.self.now.back.frames c.args.position
    ≡ Some c.in-Some.frame.now
    = sym c.delivered.ensures ∙ ap (option_map (λ f. f.now)) c.in-Some.is in
    accepted_told (world_in c.args.self.now) c.args.position c.in-Some.frame.now c.feed_client.new.reply.items
    c.feed_client.new.client (acceptances_in c.push_reserved.new.self.items) found c.feed_client.ensures.client
    (c.feed_client.ensures.reply ∙ ap (λ b. reply_put b c.feed_client.new.reply.items) c.if-not-feed_client.false)
    (ap acceptances_in c.push_reserved.ensures.items
    ∙ (map-push acceptance_in c.reserve.new.self.items
    (record { number = c.saturating_sub-number.result; reply = c.feed_client.new.reply })
    ∙ ap₂ (λ xs n. acceptances_in xs ++ (n, c.feed_client.new.reply.items) ∷ []) c.reserve.ensures.items
    c.saturating_sub-number.ensures))
