-- What a turn transfers.
use Rattle.std.proofs.Common.{◌≡◌, ◌≢◌, ℕ, List, [], ◌∷◌, ◌++◌, Option, Some, None, refl, sym, ap, subst, ◌∙◌, append-nil}
use Rattle.std.proofs.KnownBytes.{Appends-nil, Consumes-nil}
use Rattle.std.specs.Io.KnownBytes.{Appends, Consumes}
use Rattle.std.specs.List.{AllByRecursion}
use Rattle.cip_objects.specs.OwnRequests.{Asked}
use Rattle.cip_owner.specs.Replies.{Reply}
use Rattle.enip_adapter.specs.Asks.{asks_of_call, asks_of_calls, owner_after}
use Rattle.enip_adapter.specs.Calls.{Call}
use Rattle.enip_adapter.specs.Calls.Call.{Feeds}
use Rattle.enip_server.specs.PeerStates.{PeerState, IsFlushed, AreFed, IsFetched, IsServed, IsDiscarded, IsTurn, found_with, fed_asking, owner_asked, fed_once, owner_fed}
use Rattle.enip_server.specs.PeerStates.AreFed.{None_fed, One_more_fed}
use Rattle.enip_server.specs.Transfers.{Transfers, IsTurnCall}
use Rattle.enip_server.proofs.AskMoves.{owner_then, feed_asks, found_asks}
use Rattle.enip_server.proofs.TransferLemmas.{MovesBy, moves_by_then, moves_not, moves_fed, moves_found}

flushed_moves : (peer : ℕ) (P : Call → Type 0) (old new : PeerState) → IsFlushed old new → MovesBy peer P old new
flushed_moves peer P old new f = record {
  calls = [];
  received = [];
  gone = f.gone;
  each = tt;
  moves = record {
    adapter = f.adapter;
    read = subst (λ left. Consumes old.left left []) (sym f.left) (Consumes-nil old.left);
    written = f.written;
    sent = append-nil old.outbox ∙ f.waits;
    rest = old.inbox;
    taken = append-nil old.inbox;
    waits = λ _. sym f.inbox;
    closed = λ shut. (λ none. shut (sym f.closed ∙ none), refl);
  };
}

fetched_moves : (now peer : ℕ) (P : Call → Type 0) (old new : PeerState) → IsFetched now old new
    → MovesBy peer P old new
fetched_moves now peer P old new f = record {
  calls = [];
  received = f.received;
  gone = [];
  each = tt;
  moves = record {
    adapter = f.adapter;
    read = f.read;
    written = subst (λ written. Appends old.written written []) (sym f.written) (Appends-nil old.written);
    sent = append-nil old.outbox ∙ sym f.outbox;
    rest = old.inbox ++ f.received;
    taken = refl;
    waits = λ _. sym f.inbox;
    closed = λ shut. (λ none. shut (sym f.closed ∙ none), refl);
  };
}

thrown_moves : (peer : ℕ) (P : Call → Type 0) (old new : PeerState) → old.closed ≢ None → IsDiscarded old new
    → MovesBy peer P old new
thrown_moves peer P old new shut t = record {
  calls = [];
  received = t.received;
  gone = [];
  each = tt;
  moves = record {
    adapter = ap (λ d. d.adapter) t.same;
    read = t.read;
    written = subst (λ written. Appends old.written written []) (sym (ap (λ d. d.written) t.same)) (Appends-nil old.written);
    sent = append-nil old.outbox ∙ sym (ap (λ d. d.outbox) t.same);
    rest = old.inbox ++ t.received;
    taken = refl;
    waits = λ served. absurd (shut (sym (ap (λ d. d.closed) t.same) ∙ served));
    closed = λ _. (λ none. shut (sym (ap (λ d. d.closed) t.same) ∙ none), refl);
  };
}

pub not_out : (n : ℕ) (ns : List ℕ) → (n ∷ ns) ≢ []
not_out n ns is = cc

module _ {O : Type 0} (answer : O → Asked → Option Reply) (after : O → Asked → O) (now peer : ℕ) where
  -- Calls of a turn, and what they ask of the owner.
  pub record TurnBy (first : O) (old : PeerState) (last : O) (new : PeerState) : Type 0 where
    pub moves : MovesBy peer (IsTurnCall now peer) old new
    pub owner : last ≡ owner_after answer after first (asks_of_calls old.adapter moves.calls)

  turn_then : (first owner last : O) (a b c : PeerState) → TurnBy first a owner b → TurnBy owner b last c
      → TurnBy first a last c
  unfolding moves_by_then
  turn_then first owner last a b c m n = record {
    moves = moves_by_then peer (IsTurnCall now peer) a b c m.moves n.moves;
    owner = owner_then answer after first owner last a.adapter b.adapter m.moves.calls n.moves.calls m.owner
        m.moves.moves.adapter n.owner;
  }

  -- no call is made
  silent : (owner : O) (old new : PeerState) (m : MovesBy peer (IsTurnCall now peer) old new) → m.calls ≡ []
      → TurnBy owner old owner new
  silent owner old new m none = record {
    moves = m;
    owner = sym (ap (λ calls. owner_after answer after owner (asks_of_calls old.adapter calls)) none);
  }

  asked_fed : (owner : O) (d : PeerState) → d.outbox ≡ [] → d.closed ≡ None
      → TurnBy owner d (owner_asked answer after now peer owner d) (fed_asking answer after now peer owner d)
  unfolding moves_fed
  asked_fed owner d out served = record {
    moves = moves_fed answer after now peer owner d out served;
    owner = ap (owner_after answer after owner)
        (sym (feed_asks answer after d.adapter owner now peer d.inbox (asks_of_call d.adapter (Feeds now peer d.inbox)) refl));
  }

  found_first : (owner : O) (d : PeerState) → TurnBy owner d owner (found_with peer d)
  unfolding moves_found
  found_first owner d = record {
    moves = moves_found now peer d;
    owner = sym (ap (owner_after answer after owner) (found_asks d.adapter peer d.inbox));
  }

  one_fed : (owner : O) (d : PeerState) → d.outbox ≡ [] → d.closed ≡ None
      → TurnBy owner d (owner_fed answer after now peer owner d) (fed_once answer after now peer owner d)
  one_fed owner d out served =
      turn_then owner owner (owner_fed answer after now peer owner d) d (found_with peer d)
      (fed_once answer after now peer owner d) (found_first owner d) (asked_fed owner (found_with peer d) out served)

  fed_moves : (first : O) (old : PeerState) (last : O) (new : PeerState) → AreFed answer after now peer first old last new
      → TurnBy first old last new
  unfolding moves_not flushed_moves
  fed_moves first old last new None_fed = silent first old old (moves_not peer (IsTurnCall now peer) old) refl
  fed_moves first old last new (One_more_fed {owner = owner} {d = d} fed out served flushed) =
      let later : O = owner_fed answer after now peer owner d in
      turn_then first owner later old d new (fed_moves first old owner d fed)
      (turn_then owner later later d (fed_once answer after now peer owner d) new (one_fed owner d out served)
      (silent later (fed_once answer after now peer owner d) new
      (flushed_moves peer (IsTurnCall now peer) (fed_once answer after now peer owner d) new flushed) refl))

  module _ (first : O) (old : PeerState) (last : O) (new : PeerState) (t : IsTurn answer after now peer first old last new)
    where
      -- what is done once the outbox is empty, by whether the adapter closed the peer
      out_moves : t.between.outbox ≡ [] → (closed : Option ℕ) → t.between.closed ≡ closed
          → TurnBy first t.between last new
      unfolding fetched_moves thrown_moves
      out_moves out None served =
          let s : IsServed answer after now peer first t.between last new = t.served out served in
          turn_then first first last t.between s.between new
          (silent first t.between s.between
          (fetched_moves now peer (IsTurnCall now peer) t.between s.between s.fetched) refl)
          (fed_moves first s.between last new s.fed)
      out_moves out (Some moment) shut =
          let closed : t.between.closed ≢ None = λ none. cc in
          subst (λ o. TurnBy first t.between o new) (sym (t.discarded out closed).1)
          (silent first t.between new
          (thrown_moves peer (IsTurnCall now peer) t.between new closed (t.discarded out closed).0) refl)

      -- what is done after the outbox was written, by what is left of it
      rest_moves : (outbox : List ℕ) → t.between.outbox ≡ outbox → TurnBy first t.between last new
      unfolding moves_not
      rest_moves [] out = out_moves out t.between.closed refl
      rest_moves (n ∷ ns) waits =
          let still : t.between.outbox ≢ [] = subst (λ xs. xs ≢ []) (sym waits) (not_out n ns) in
          subst (λ o. TurnBy first t.between o new) (sym (t.waits still).1)
          (subst (λ d. TurnBy first t.between first d) (sym (t.waits still).0)
          (silent first t.between t.between (moves_not peer (IsTurnCall now peer) t.between) refl))

      pub turn_moves : TurnBy first old last new
      unfolding flushed_moves
      turn_moves =
          turn_then first first last old t.between new
          (silent first old t.between (flushed_moves peer (IsTurnCall now peer) old t.between t.flushed) refl)
          (rest_moves t.between.outbox refl)

-- as the law states it
pub law_turns : {O : Type 0} (answer : O → Asked → Option Reply) (after : O → Asked → O) (now peer : ℕ) (first last : O)
    (old new : PeerState) → IsTurn answer after now peer first old last new → (calls : List Call) × (received : List ℕ)
    × (gone : List ℕ) × AllByRecursion (IsTurnCall now peer) calls × Transfers peer calls received gone old new
    × (last ≡ owner_after answer after first (asks_of_calls old.adapter calls))
law_turns answer after now peer first last old new t =
    let b : TurnBy answer after now peer first old last new = turn_moves answer after now peer first old last new t in
    (b.moves.calls, b.moves.received, b.moves.gone, b.moves.each, b.moves.moves, b.owner)
