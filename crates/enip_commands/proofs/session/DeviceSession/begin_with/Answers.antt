use Rattle.std.proofs.Common.{◌≡◌, refl, subst, List, ℕ, [], Ok}
use Rattle.enip_client.specs.Client.{ClientState, new_client}
use Rattle.enip_commands.specs.Sessions.{SessionEnds, session_ends, IsBegun}
use Rattle.enip_commands.proofs.session.DeviceSession.begin_with.Goals as goal

pub returns-in-Ok-begin_client-clause-begun : goal.returns-in-Ok-begin_client-clause-begun
returns-in-Ok-begin_client-clause-begun g c =
    let made : c.in-Ok.client ≡ new_client c.args.wants.now = c.in-Ok.ensures.made in
    let none : c.new-reply.result.items ≡ [] = c.new-reply.ensures in
    let old : ClientState → List ℕ → SessionEnds = λ client reply. session_ends client (g.R.Source.left c.args.reader.now) (g.R.Source.reads c.args.reader.now)
    (g.R.Source.failures c.args.reader.now) (g.W.Sink.written c.args.writer.now) (g.W.Sink.failures c.args.writer.now) reply in
    let new : SessionEnds = session_ends c.begin_client.new.client (g.R.Source.left c.begin_client.new.reader) (g.R.Source.reads c.begin_client.new.reader)
    (g.R.Source.failures c.begin_client.new.reader) (g.W.Sink.written c.begin_client.new.writer) (g.W.Sink.failures c.begin_client.new.writer) c.begin_client.new.reply.items in (
      refl,
      refl,
      subst (λ (client : ClientState). IsBegun c.args.route c.args.connected (old client []) new (Ok tt)) made
          (subst (λ (reply : List ℕ). IsBegun c.args.route c.args.connected (old c.in-Ok.client reply) new (Ok tt)) none c.in-Ok-begin_client.ensures.begun),
    )
