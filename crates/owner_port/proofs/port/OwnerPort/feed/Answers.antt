use Rattle.std.proofs.Common.{◌≡◌, true, false, rules}
use Rattle.enip_server.specs.Rounds.{state_of}
use Rattle.owner_port.specs.Sessions.{can_feed}
use Rattle.owner_port.proofs.PortLemmas.{line_fed, nothing_fed, fed-seen}
use Rattle.enip_server.proofs.OwnWriteLemmas.{nothing_written}
use Rattle.owner_port.proofs.WriteLemmas.{fed-writes}
use Rattle.owner_port.proofs.port.OwnerPort.feed.Goals as goal

pub returns-then-not-can_feed-clause-fed : goal.returns-then-not-can_feed-clause-fed
returns-then-not-can_feed-clause-fed g c =
    let cannot : can_feed c.args.self.now.session ≡ false = search rules in
    nothing_fed c.args.self.now c.args.bytes.now (state_of c.args.peers.now) cannot

pub returns-clause-fed : goal.returns-clause-fed
returns-clause-fed g c =
    let can : can_feed c.args.self.now.session ≡ true = search rules in
    line_fed c.args.self.now c.args.bytes.now (state_of c.args.peers.now) c.feed-fed.result.1.now c.take_end.new.self
    (state_of c.take_end.new.peers) c.feed-fed.result.0 c.feed-fed.new.self can c.feed-fed.ensures c.take_end.ensures.taken
    c.take_end.ensures.rest c.take_end.ensures.lines

pub returns-clause-seen : goal.returns-clause-seen
returns-clause-seen g c =
    let can : can_feed c.args.self.now.session ≡ true = search rules in
    fed-seen (can_feed c.args.self.now.session) c.args.self.now c.args.bytes.now (state_of c.args.peers.now)
    c.feed-fed.result.1.now c.take_end.new.self (state_of c.take_end.new.peers)
    (line_fed c.args.self.now c.args.bytes.now (state_of c.args.peers.now) c.feed-fed.result.1.now c.take_end.new.self
    (state_of c.take_end.new.peers) c.feed-fed.result.0 c.feed-fed.new.self can c.feed-fed.ensures c.take_end.ensures.taken
    c.take_end.ensures.rest c.take_end.ensures.lines)

pub returns-then-not-can_feed-clause-writes : goal.returns-then-not-can_feed-clause-writes
returns-then-not-can_feed-clause-writes g c = nothing_written (state_of c.args.peers.now)

pub returns-clause-writes : goal.returns-clause-writes
returns-clause-writes g c =
    let can : can_feed c.args.self.now.session ≡ true = search rules in
    fed-writes (can_feed c.args.self.now.session) c.args.self.now c.args.bytes.now (state_of c.args.peers.now)
    c.feed-fed.result.1.now c.take_end.new.self (state_of c.take_end.new.peers)
    (line_fed c.args.self.now c.args.bytes.now (state_of c.args.peers.now) c.feed-fed.result.1.now c.take_end.new.self
    (state_of c.take_end.new.peers) c.feed-fed.result.0 c.feed-fed.new.self can c.feed-fed.ensures c.take_end.ensures.taken
    c.take_end.ensures.rest c.take_end.ensures.lines)
