-- Transfers of a peer, one after the other.
use Rattle.std.proofs.Common.{◌≡◌, ◌≢◌, ℕ, List, [], ◌∷◌, ◌++◌, Option, Some, None, cond, eqb, refl, sym, ap, ◌∙◌}
use Rattle.std.proofs.Common.{append_assoc, append-nil, take, drop, take-append-drop}
use Rattle.std.proofs.lemmas.Bool.{eq-eqb, ne_eqb}
use Rattle.std.proofs.KnownBytes.{Appends-nil, Appends-trans, Consumes-nil, Consumes-trans}
use Rattle.std.specs.List.{AllByRecursion}
use Rattle.cip_ledger.specs.Runs.{Request}
use Rattle.cip_objects.specs.OwnRequests.{Asked}
use Rattle.cip_owner.specs.Replies.{Reply}
use Rattle.enip_adapter.specs.Asks.{asks_of_call, asked_adapter, calls_asking, prepared_feed, with_reply}
use Rattle.enip_adapter.specs.Calls.{AdapterState, Call, after_call, call_meaning, call_answer}
use Rattle.enip_adapter.specs.Calls.Call.{Begins_peer, Feeds, Ends_peer, Ticks, Writes}
use Rattle.enip_adapter.specs.OwnWrites.{Withdraws}
use Rattle.enip_adapter.specs.Runs.{after_calls, taken_by_call, taken_by_calls, IsForOther}
use Rattle.enip_adapter.specs.Serving.{output_bytes}
use Rattle.enip_adapter.specs.Withdrawing.{requests_of_piece, writes_of}
use Rattle.enip_server.specs.PeerStates.{PeerState, closed_at, found_with, fed_asking}
use Rattle.enip_server.specs.Transfers.{Transfers, IsTurnCall, sent_by_call, sent_by_calls}

-- what holds of each of these and of each of those
pub all_join : {X : Type 0} → (P : X → Type 0) (xs ys : List X) → AllByRecursion P xs → AllByRecursion P ys
    → AllByRecursion P (xs ++ ys)
all_join P [] ys p q = q
all_join P (x ∷ xs) ys p q = (p.0, all_join P xs ys p.1 q)

-- a property of each item of a list that follows from another one
pub all_weaker : {X : Type 0} → (P Q : X → Type 0) → ((x : X) → P x → Q x) → (xs : List X) → AllByRecursion P xs
    → AllByRecursion Q xs
all_weaker P Q weaker [] each = tt
all_weaker P Q weaker (x ∷ xs) each = (weaker x each.0, all_weaker P Q weaker xs each.1)

pub after_calls-append : (a : AdapterState) (calls more : List Call)
    → after_calls a (calls ++ more) ≡ after_calls (after_calls a calls) more
after_calls-append a [] more = refl
after_calls-append a (call ∷ calls) more = after_calls-append (after_call a call) calls more

taken_by_calls-append : (peer : ℕ) (a : AdapterState) (calls more : List Call)
    → taken_by_calls peer a (calls ++ more) ≡ taken_by_calls peer a calls ++ taken_by_calls peer (after_calls a calls) more
taken_by_calls-append peer a [] more = refl
taken_by_calls-append peer a (call ∷ calls) more =
    ap (λ xs. taken_by_call peer a call ++ xs) (taken_by_calls-append peer (after_call a call) calls more)
    ∙ sym (append_assoc (taken_by_call peer a call) (taken_by_calls peer (after_call a call) calls)
    (taken_by_calls peer (after_calls (after_call a call) calls) more))

sent_by_calls-append : (peer : ℕ) (a : AdapterState) (calls more : List Call)
    → sent_by_calls peer a (calls ++ more) ≡ sent_by_calls peer a calls ++ sent_by_calls peer (after_calls a calls) more
sent_by_calls-append peer a [] more = refl
sent_by_calls-append peer a (call ∷ calls) more =
    ap (λ xs. sent_by_call peer a call ++ xs) (sent_by_calls-append peer (after_call a call) calls more)
    ∙ sym (append_assoc (sent_by_call peer a call) (sent_by_calls peer (after_call a call) calls)
    (sent_by_calls peer (after_calls (after_call a call) calls) more))

-- what was there and what was read is written in two parts
pass_on : (before first second gone later between after : List ℕ) → before ++ first ≡ gone ++ between
    → between ++ second ≡ later ++ after → before ++ (first ++ second) ≡ (gone ++ later) ++ after
pass_on before first second gone later between after p q =
    sym (append_assoc before first second) ∙ ap (λ xs. xs ++ second) p ∙ append_assoc gone between second
    ∙ ap (λ xs. gone ++ xs) q ∙ sym (append_assoc gone later after)

-- What is left of a peer's inbox and of what was read, by whether the adapter closed the peer.
record IsRest (peer : ℕ) (calls : List Call) (received : List ℕ) (old new : PeerState) : Type 0 where
  rest : List ℕ
  taken : old.inbox ++ received ≡ taken_by_calls peer old.adapter calls ++ rest
  waits : new.closed ≡ None → rest ≡ new.inbox

not_none : {X : Type 0} → (o : Option X) (x : X) → o ≡ Some x → o ≢ None
not_none o x is none = cc

rest_then : (peer : ℕ) (calls more : List Call) (received gone coming going : List ℕ) (a b c : PeerState)
    → Transfers peer calls received gone a b → Transfers peer more coming going b c → (closed : Option ℕ)
    → b.closed ≡ closed
    → IsRest peer (calls ++ more) (received ++ coming) a c
rest_then peer calls more received gone coming going a b c m n None served = record {
  rest = n.rest;
  taken = pass_on a.inbox received coming (taken_by_calls peer a.adapter calls) (taken_by_calls peer b.adapter more) b.inbox n.rest
      (m.taken ∙ ap (λ xs. taken_by_calls peer a.adapter calls ++ xs) (m.waits served)) n.taken
      ∙ ap (λ x. (taken_by_calls peer a.adapter calls ++ taken_by_calls peer x more) ++ n.rest) m.adapter
      ∙ ap (λ xs. xs ++ n.rest) (sym (taken_by_calls-append peer a.adapter calls more));
  waits = n.waits;
}
rest_then peer calls more received gone coming going a b c m n (Some last) shut = record {
  rest = m.rest ++ coming;
  taken = sym (append_assoc a.inbox received coming) ∙ ap (λ xs. xs ++ coming) m.taken
      ∙ append_assoc (taken_by_calls peer a.adapter calls) m.rest coming
      ∙ ap (λ xs. xs ++ (m.rest ++ coming)) (sym (append-nil (taken_by_calls peer a.adapter calls)))
      ∙ ap (λ xs. (taken_by_calls peer a.adapter calls ++ xs) ++ (m.rest ++ coming)) (sym (n.closed (not_none b.closed last shut)).1)
      ∙ ap (λ x. (taken_by_calls peer a.adapter calls ++ taken_by_calls peer x more) ++ (m.rest ++ coming)) m.adapter
      ∙ ap (λ xs. xs ++ (m.rest ++ coming)) (sym (taken_by_calls-append peer a.adapter calls more));
  waits = λ served. absurd ((n.closed (not_none b.closed last shut)).0 served);
}

-- one after the other
pub moves_then : (peer : ℕ) (calls more : List Call) (received gone coming going : List ℕ) (a b c : PeerState)
    → Transfers peer calls received gone a b → Transfers peer more coming going b c
    → Transfers peer (calls ++ more) (received ++ coming) (gone ++ going) a c
moves_then peer calls more received gone coming going a b c m n =
    let r : IsRest peer (calls ++ more) (received ++ coming) a c
    = rest_then peer calls more received gone coming going a b c m n b.closed refl in
    record {
      adapter = n.adapter ∙ ap (λ x. after_calls x more) m.adapter ∙ sym (after_calls-append a.adapter calls more);
      read = Consumes-trans a.left b.left c.left received coming m.read n.read;
      written = Appends-trans a.written b.written c.written gone going m.written n.written;
      sent = ap (λ xs. a.outbox ++ xs) (sent_by_calls-append peer a.adapter calls more)
          ∙ ap (λ x. a.outbox ++ (sent_by_calls peer a.adapter calls ++ sent_by_calls peer x more)) (sym m.adapter)
          ∙ pass_on a.outbox (sent_by_calls peer a.adapter calls) (sent_by_calls peer b.adapter more) gone going b.outbox
          c.outbox m.sent n.sent;
      rest = r.rest;
      taken = r.taken;
      waits = r.waits;
      closed = λ shut. (
        (n.closed (m.closed shut).0).0,
        taken_by_calls-append peer a.adapter calls more
            ∙ ap (λ x. taken_by_calls peer a.adapter calls ++ taken_by_calls peer x more) (sym m.adapter)
            ∙ ap (λ xs. xs ++ taken_by_calls peer b.adapter more) (m.closed shut).1
            ∙ (n.closed (m.closed shut).0).1,
      );
    }

-- Calls that lead from one state of a peer to another, each with a property, and their transfers.
pub record MovesBy (peer : ℕ) (P : Call → Type 0) (old new : PeerState) : Type 0 where
  pub calls : List Call
  pub received : List ℕ
  pub gone : List ℕ
  pub each : AllByRecursion P calls
  pub moves : Transfers peer calls received gone old new

unfoldable pub moves_by_then : (peer : ℕ) (P : Call → Type 0) (a b c : PeerState) → MovesBy peer P a b → MovesBy peer P b c → MovesBy peer P a c
moves_by_then peer P a b c m n = record {
  calls = m.calls ++ n.calls;
  received = m.received ++ n.received;
  gone = m.gone ++ n.gone;
  each = all_join P m.calls n.calls m.each n.each;
  moves = moves_then peer m.calls n.calls m.received m.gone n.received n.gone a b c m.moves n.moves;
}

pub moves_by_weaker : (peer : ℕ) (P Q : Call → Type 0) (a b : PeerState) → ((call : Call) → P call → Q call)
    → MovesBy peer P a b → MovesBy peer Q a b
moves_by_weaker peer P Q a b weaker m = record {
  calls = m.calls;
  received = m.received;
  gone = m.gone;
  each = all_weaker P Q weaker m.calls m.each;
  moves = m.moves;
}

-- no call, and nothing is done
unfoldable pub moves_not : (peer : ℕ) (P : Call → Type 0) (d : PeerState) → MovesBy peer P d d
moves_not peer P d = record {
  calls = [];
  received = [];
  gone = [];
  each = tt;
  moves = record {
    adapter = refl;
    read = Consumes-nil d.left;
    written = Appends-nil d.written;
    sent = append-nil d.outbox;
    rest = d.inbox;
    taken = append-nil d.inbox;
    waits = λ _. refl;
    closed = λ shut. (shut, refl);
  };
}

own_call : {X : Type 0} → (peer : ℕ) (x y : X) → cond (eqb peer peer) x y ≡ x
own_call peer x y = ap (λ b. cond b x y) (eq-eqb peer peer refl)

-- The state of a peer after calls that do for it what a feed at this adapter does.
abbrev fed_at : ℕ → ℕ → PeerState → AdapterState → List Call → PeerState
fed_at now peer d at calls = record d {
  adapter = after_calls d.adapter calls;
  inbox = drop (call_meaning at (Feeds now peer d.inbox)).taken d.inbox;
  outbox = output_bytes (call_answer at (Feeds now peer d.inbox)).output;
  closed = closed_at now (call_answer at (Feeds now peer d.inbox)).close;
}

moves_at : (now peer : ℕ) (d : PeerState) (at : AdapterState) (calls : List Call) → d.outbox ≡ [] → d.closed ≡ None
    → sent_by_calls peer d.adapter calls ≡ sent_by_call peer at (Feeds now peer d.inbox) ++ []
    → taken_by_calls peer d.adapter calls ≡ taken_by_call peer at (Feeds now peer d.inbox) ++ []
    → Transfers peer calls [] [] d (fed_at now peer d at calls)
moves_at now peer d at calls out served sends takes = record {
  adapter = refl;
  read = Consumes-nil d.left;
  written = Appends-nil d.written;
  sent = ap (λ xs. xs ++ sent_by_calls peer d.adapter calls) out
      ∙ sends ∙ append-nil (sent_by_call peer at (Feeds now peer d.inbox))
      ∙ own_call peer (output_bytes (call_answer at (Feeds now peer d.inbox)).output) [];
  rest = drop (call_meaning at (Feeds now peer d.inbox)).taken d.inbox;
  taken = append-nil d.inbox
      ∙ sym (take-append-drop (call_meaning at (Feeds now peer d.inbox)).taken d.inbox)
      ∙ ap (λ xs. xs ++ drop (call_meaning at (Feeds now peer d.inbox)).taken d.inbox)
      (sym (own_call peer (take (call_meaning at (Feeds now peer d.inbox)).taken d.inbox) [])
      ∙ sym (append-nil (taken_by_call peer at (Feeds now peer d.inbox))) ∙ sym takes);
  waits = λ _. refl;
  closed = λ shut. absurd (shut served);
}

module _ {O : Type 0} (answer : O → Asked → Option Reply) (after : O → Asked → O) (now peer : ℕ) (owner : O)
    (d : PeerState) where
  -- The calls of one feed that asks this of the owner.
  abbrev calls_by : List Asked → List Call
  calls_by asked = calls_asking answer after owner now peer d.inbox asked

  pub moves_asking : (asked : List Asked) → d.outbox ≡ [] → d.closed ≡ None
      → Transfers peer (calls_by asked) [] []
      d (fed_at now peer d (asked_adapter answer after d.adapter owner asked) (calls_by asked))
  moves_asking [] out served = moves_at now peer d d.adapter (Feeds now peer d.inbox ∷ []) out served refl refl
  moves_asking (asked ∷ more) out served =
      moves_at now peer d (with_reply d.adapter (answer owner asked))
      (prepared_feed now peer d.inbox (answer owner asked)) out served refl refl

  pub turn_calls : (asked : List Asked) → AllByRecursion (IsTurnCall now peer) (calls_by asked)
  turn_calls [] = ((refl, refl), tt)
  turn_calls (asked ∷ more) = (tt, ((refl, refl), (tt, tt)))

  -- one feed
  unfoldable pub moves_fed : d.outbox ≡ [] → d.closed ≡ None
      → MovesBy peer (IsTurnCall now peer) d (fed_asking answer after now peer owner d)
  moves_fed out served = record {
    calls = calls_by (asks_of_call d.adapter (Feeds now peer d.inbox));
    received = [];
    gone = [];
    each = turn_calls (asks_of_call d.adapter (Feeds now peer d.inbox));
    moves = moves_asking (asks_of_call d.adapter (Feeds now peer d.inbox)) out served;
  }

other_call : {X : Type 0} → (other peer : ℕ) (x y : X) → other ≢ peer → cond (eqb other peer) x y ≡ y
other_call other peer x y differs = ap (λ b. cond b x y) (ne_eqb other peer differs)

-- a call for another peer sends this one nothing and takes nothing of it
sent_other : (peer : ℕ) (a : AdapterState) (call : Call) → IsForOther peer call → sent_by_call peer a call ≡ []
sent_other peer a (Begins_peer rights group) is = refl
sent_other peer a (Feeds now other piece) is = other_call other peer _ [] is
sent_other peer a (Ends_peer other) is = refl
sent_other peer a (Ticks now) is = refl
sent_other peer a (Writes write) is = refl

taken_other : (peer : ℕ) (a : AdapterState) (call : Call) → IsForOther peer call → taken_by_call peer a call ≡ []
taken_other peer a (Begins_peer rights group) is = refl
taken_other peer a (Feeds now other piece) is = other_call other peer _ [] is
taken_other peer a (Ends_peer other) is = refl
taken_other peer a (Ticks now) is = refl
taken_other peer a (Writes write) is = refl

pub sent_others : (peer : ℕ) (a : AdapterState) (calls : List Call) → AllByRecursion (IsForOther peer) calls
    → sent_by_calls peer a calls ≡ []
sent_others peer a [] each = refl
sent_others peer a (call ∷ calls) each =
    ap (λ xs. xs ++ sent_by_calls peer (after_call a call) calls) (sent_other peer a call each.0)
    ∙ sent_others peer (after_call a call) calls each.1

pub taken_others : (peer : ℕ) (a : AdapterState) (calls : List Call) → AllByRecursion (IsForOther peer) calls
    → taken_by_calls peer a calls ≡ []
taken_others peer a [] each = refl
taken_others peer a (call ∷ calls) each =
    ap (λ xs. xs ++ taken_by_calls peer (after_call a call) calls) (taken_other peer a call each.0)
    ∙ taken_others peer (after_call a call) calls each.1

-- The same state with another adapter.
abbrev pub with_adapter : PeerState → AdapterState → PeerState
with_adapter d adapter = record d { adapter = adapter }

-- calls for other peers change nothing but the adapter
pub moves_other : (peer : ℕ) (d : PeerState) (adapter : AdapterState) (calls : List Call)
    → AllByRecursion (IsForOther peer) calls → adapter ≡ after_calls d.adapter calls
    → MovesBy peer (IsForOther peer) d (with_adapter d adapter)
moves_other peer d adapter calls each after = record {
  calls = calls;
  received = [];
  gone = [];
  each = each;
  moves = record {
    adapter = after;
    read = Consumes-nil d.left;
    written = Appends-nil d.written;
    sent = ap (λ xs. d.outbox ++ xs) (sent_others peer d.adapter calls each) ∙ append-nil d.outbox;
    rest = d.inbox;
    taken = append-nil d.inbox ∙ ap (λ xs. xs ++ d.inbox) (sym (taken_others peer d.adapter calls each));
    waits = λ _. refl;
    closed = λ shut. (shut, taken_others peer d.adapter calls each);
  };
}

-- what a peer's request withdraws, before it is fed
pub withdrawing_each : (P : Call → Type 0) (requests : List Request) → ((text : List ℕ) → P (Writes (Withdraws text)))
    → AllByRecursion P (writes_of requests)
withdrawing_each P [] is = tt
withdrawing_each P (request ∷ more) is = (is request.1, tt)

unfoldable pub moves_found : (now peer : ℕ) (d : PeerState) → MovesBy peer (IsTurnCall now peer) d (found_with peer d)
moves_found now peer d =
    let requests = requests_of_piece d.adapter peer d.inbox in
    let calls = writes_of requests in
    let other : AllByRecursion (IsForOther peer) calls = withdrawing_each (IsForOther peer) requests (λ text. tt) in
    record {
      calls = calls;
      received = [];
      gone = [];
      each = withdrawing_each (IsTurnCall now peer) requests (λ text. tt);
      moves = record {
        adapter = refl;
        read = Consumes-nil d.left;
        written = Appends-nil d.written;
        sent = ap (λ xs. d.outbox ++ xs) (sent_others peer d.adapter calls other) ∙ append-nil d.outbox;
        rest = d.inbox;
        taken = append-nil d.inbox ∙ ap (λ xs. xs ++ d.inbox) (sym (taken_others peer d.adapter calls other));
        waits = λ _. refl;
        closed = λ shut. (shut, taken_others peer d.adapter calls other);
      };
    }
