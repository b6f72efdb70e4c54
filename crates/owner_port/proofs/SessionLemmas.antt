-- Lines that are queued.
use Rattle.std.proofs.Common.{◌≡◌, ℕ, suc, ◌+◌, ◌-◌, ◌≤◌, nat_le, Bool, true, false, if◌then◌else◌, List, [], ◌∷◌, ◌++◌, length, Result, Ok, Err, Option, Some, None, Vec, refl, sym, ap, subst, ◌∙◌, add-one, arith}
use Rattle.std.specs.declared.alloc.Global.{Global}
use Rattle.std.specs.declared.net.ip_addr.IpAddr.{IpAddr}
use Rattle.enip_adapter.specs.Calls.{AdapterState}
use Rattle.enip_adapter.specs.declared.endings.EndedConnection.{EndedConnection}
use Rattle.enip_owner.specs.declared.event_fault.EventFault.{EventFault}
use Rattle.enip_owner.specs.declared.hello.HelloEvent.{HelloEvent}
use Rattle.enip_owner.specs.Events.{IsWritten}
use Rattle.enip_owner.specs.Hello.{hello_json, hello_detail}
use Rattle.owner_port.specs.declared.attribute_table.TypedAttribute.{TypedAttribute}
use Rattle.owner_port.specs.declared.device_table.DeviceTable.{DeviceTable}
use Rattle.owner_port.specs.declared.output.TheConstants.{OUTPUT_LIMIT}
use Rattle.owner_port.specs.declared.senders.Sender.{Sender}
use Rattle.owner_port.specs.declared.session.Session.{Session}
use Rattle.owner_port.specs.declared.set_count.SetCount.{SetCount}
use Rattle.owner_port.specs.Ports.{AreReported, contents_in}
use Rattle.owner_port.specs.Senders.{AreNoted, IsNoted}
use Rattle.owner_port.specs.Sessions.{is_open, with_line, sent, IsSent, AreSent, IsSetReported, IsEndReported, AreEndsReported, IsDescribed, IsHelloLine}
use Rattle.owner_port.specs.Sets.{sets_since, with_reported, count_of, tallies_in, AreCounted}

-- A line that is queued does not change the number of the owner's last line.
with_line-number : (s : Session) (line : Result (Vec ℕ Global) EventFault) → (with_line s line).line ≡ s.line
with_line-number s (Ok line) = go (nat_le (length s.output + length line.items) OUTPUT_LIMIT) refl
  where
    go : (fits : Bool) → nat_le (length s.output + length line.items) OUTPUT_LIMIT ≡ fits → (with_line s (Ok line)).line ≡ s.line
    go true is = rw is refl
    go false is = rw is refl
with_line-number s (Err fault) = refl

pub sent-number : (s : Session) (line : Result (Vec ℕ Global) EventFault) → (sent s line).line ≡ s.line
sent-number s line = go (is_open s.phase)
  where
    go : (listens : Bool) → (if listens then with_line s line else s).line ≡ s.line
    go true = with_line-number s line
    go false = refl

-- One more line of a kind.
pub sent_more : (n : ℕ) (Is : Session → Session → Type 0) (old between new : Session) → AreSent n Is old between → Is between new
    → AreSent (n + 1) Is old new
sent_more n Is old between new so_far more = rw add-one (between, so_far, more)

-- The sets of the first attribute, and then those of the others.
pub reported_more : (types : List TypedAttribute) (a : AdapterState) (by : IpAddr) (before : List SetCount) (count after : SetCount)
    (counts afters : List SetCount) (sets : ℕ) (old between new : Session) → before ≡ count ∷ counts
    → sets ≡ sets_since (tallies_in a) count → after ≡ with_reported (tallies_in a) count
    → AreSent sets (IsSetReported types (contents_in a) by after.attribute) old between
    → AreReported types a by counts between afters new
    → AreReported types a by before old (after ∷ afters) new
reported_more types a by before count after counts afters sets old between new is sets_are counted reports more =
    let own : AreSent sets (IsSetReported types (contents_in a) by count.attribute) old between =
    subst (λ (c : SetCount). AreSent sets (IsSetReported types (contents_in a) by c.attribute) old between) counted reports in
    let all : AreSent (sets_since (tallies_in a) count) (IsSetReported types (contents_in a) by count.attribute) old between =
    subst (λ n. AreSent n (IsSetReported types (contents_in a) by count.attribute) old between) sets_are own in
    subst (λ l. AreReported types a by l old (after ∷ afters) new) (sym is) (between, counted, all, more)

pub counted_more : (a : AdapterState) (count after : SetCount) (afters : List SetCount) → after ≡ with_reported (tallies_in a) count
    → AreCounted (tallies_in a) afters → AreCounted (tallies_in a) (after ∷ afters)
counted_more a count after afters is more =
    (subst (λ (c : SetCount). c.reported ≡ count_of (tallies_in a) c.attribute) (sym is) refl, more)

-- The first connection, and then the others.
pub ended_more : (connections : List EndedConnection) (connection : EndedConnection) (others : List EndedConnection)
    (old between new : Session) → connections ≡ connection ∷ others → IsEndReported connection old between
    → AreEndsReported others between new → AreEndsReported connections old new
ended_more connections connection others old between new is first more =
    subst (λ l. AreEndsReported l old new) (sym is) (between, first, more)

-- One more sender.
pub noted_more : (first ticket : ℕ) (by : IpAddr) (old between new : List Sender) → first ≤ ticket
    → AreNoted (ticket - first) first by old between → IsNoted ticket by between new
    → AreNoted (ticket + 1 - first) first by old new
noted_more first ticket by old between new past so_far more =
    let count : ticket + 1 - first ≡ suc (ticket - first) = omega arith in
    let same : first + (ticket - first) ≡ ticket = omega arith in
    rw count (between, so_far, subst (λ t. IsNoted t by between new) (sym same) more)

-- The first line of the device.
pub written_hello : (table : DeviceTable) (life : Option ℕ) (e : HelloEvent) (r : Result (Vec ℕ Global) EventFault)
    → IsDescribed table life e → IsWritten (hello_json (hello_detail e) e) r → IsHelloLine table life r
written_hello table life e (Ok line) described written = (e, described, written)
written_hello table life e (Err fault) described written = tt
