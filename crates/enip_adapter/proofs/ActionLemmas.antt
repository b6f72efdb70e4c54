-- Servings among calls are feeds.
use Rattle.std.proofs.Common.{◌≡◌, ◌≢◌, ℕ, zero, suc, List, [], ◌∷◌, ◌++◌, refl, sym, ap, subst, ◌∙◌, Option}
use Rattle.std.specs.List.{AllByRecursion}
use Rattle.enip_adapter.specs.Calls.{AdapterState, Call, after_call}
use Rattle.enip_adapter.specs.Calls.Call.{Begins_peer, Feeds, Ends_peer, Ticks, Writes}
use Rattle.enip_adapter.specs.Runs.{after_calls, IsForOther}
use Rattle.enip_adapter.specs.Serving.{feeds}
use Rattle.enip_adapter.specs.AdapterActions.{IsFeedOf, AreFeeds, AdapterAction, LeadTo, AmountTo, IsActionForOther}
use Rattle.enip_adapter.specs.AdapterActions.AdapterAction.{Calls, Serves}
use Rattle.enip_adapter.proofs.ServeLemmas.{HasFed}

all-join : {X : Type 0} → (P : X → Type 0) (xs ys : List X) → AllByRecursion P xs → AllByRecursion P ys
    → AllByRecursion P (xs ++ ys)
all-join P [] ys p q = q
all-join P (x ∷ xs) ys p q = (p.0, all-join P xs ys p.1 q)

after_calls-append : (a : AdapterState) (calls more : List Call) → after_calls a (calls ++ more) ≡ after_calls (after_calls a calls) more
after_calls-append a [] more = refl
after_calls-append a (call ∷ calls) more = after_calls-append (after_call a call) calls more

-- The calls that this many feeds of a piece are.
abbrev calls_of : ℕ → ℕ → AdapterState → List ℕ → ℕ → List Call
calls_of now peer a piece zero = []
calls_of now peer a piece (suc k) = calls_of now peer a piece k ++ (Feeds now peer (feeds now peer a piece k).rest ∷ [])

are_feeds : (now peer : ℕ) (a : AdapterState) (piece : List ℕ) (k : ℕ) → AllByRecursion (IsFeedOf now peer) (calls_of now peer a piece k)
are_feeds now peer a piece zero = tt
are_feeds now peer a piece (suc k) =
    all-join (IsFeedOf now peer) (calls_of now peer a piece k) (Feeds now peer (feeds now peer a piece k).rest ∷ [])
    (are_feeds now peer a piece k) ((refl, refl), tt)

after_feeds : (now peer : ℕ) (a : AdapterState) (piece : List ℕ) (k : ℕ)
    → (feeds now peer a piece k).adapter ≡ after_calls a (calls_of now peer a piece k)
after_feeds now peer a piece zero = refl
after_feeds now peer a piece (suc k) =
    ap (λ x. after_call x (Feeds now peer (feeds now peer a piece k).rest)) (after_feeds now peer a piece k)
    ∙ sym (after_calls-append a (calls_of now peer a piece k) (Feeds now peer (feeds now peer a piece k).rest ∷ []))

fed_so_often : (now peer : ℕ) (a new : AdapterState) (piece : List ℕ) (k : ℕ) → new ≡ (feeds now peer a piece k).adapter
    → AreFeeds now peer a new
fed_so_often now peer a new piece k is = record {
  calls = calls_of now peer a piece k;
  each = are_feeds now peer a piece k;
  after = is ∙ after_feeds now peer a piece k;
}

-- nothing was fed
pub no_feeds : (now peer : ℕ) (a : AdapterState) → AreFeeds now peer a a
no_feeds now peer a = record { calls = []; each = tt; after = refl }

-- this many bytes of a piece were fed
pub fed_feeds : (now peer : ℕ) (a new : AdapterState) (piece : List ℕ) (fed : ℕ) (before after : Option (List ℕ))
    → HasFed now peer a piece fed new before after → AreFeeds now peer a new
fed_feeds now peer a new piece fed before after h = fed_so_often now peer a new piece h.times h.adapter

-- one more feed
pub one_more : (now peer : ℕ) (a between new : AdapterState) (piece : List ℕ) → AreFeeds now peer a between
    → new ≡ after_call between (Feeds now peer piece) → AreFeeds now peer a new
one_more now peer a between new piece f is = record {
  calls = f.calls ++ (Feeds now peer piece ∷ []);
  each = all-join (IsFeedOf now peer) f.calls (Feeds now peer piece ∷ []) f.each ((refl, refl), tt);
  after = is ∙ ap (λ x. after_call x (Feeds now peer piece)) f.after
      ∙ sym (after_calls-append a f.calls (Feeds now peer piece ∷ []));
}

-- actions lead to the state to which their calls lead
pub deeds_stand : (a last : AdapterState) (actions : List AdapterAction) → LeadTo a actions last
    → (calls : List Call) × (AmountTo actions calls × (last ≡ after_calls a calls))
deeds_stand a last [] is = ([], (refl, is))
deeds_stand a last (Calls call ∷ actions) lead =
    let r = deeds_stand (after_call a call) last actions lead in (call ∷ r.0, ((r.0, refl, r.1.0), r.1.1))
deeds_stand a last (Serves now peer ∷ actions) lead =
    let r = deeds_stand lead.0 last actions lead.2 in (
      lead.1.calls ++ r.0,
      (
        (lead.1.calls, r.0, refl, lead.1.each, r.1.0),
        r.1.1 ∙ ap (λ x. after_calls x r.0) lead.1.after ∙ sym (after_calls-append a lead.1.calls r.0),
      ),
    )

feed_for_other : (now to peer : ℕ) (call : Call) → IsFeedOf now to call → to ≢ peer → IsForOther peer call
feed_for_other now to peer (Begins_peer rights group) is differs = absurd is
feed_for_other now to peer (Feeds at other piece) is differs = subst (λ n. n ≢ peer) (sym is.1) differs
feed_for_other now to peer (Ends_peer other) is differs = absurd is
feed_for_other now to peer (Ticks at) is differs = absurd is
feed_for_other now to peer (Writes write) is differs = absurd is

feeds_for_other : (now to peer : ℕ) (calls : List Call) → AllByRecursion (IsFeedOf now to) calls → to ≢ peer
    → AllByRecursion (IsForOther peer) calls
feeds_for_other now to peer [] each differs = tt
feeds_for_other now to peer (call ∷ calls) each differs =
    (feed_for_other now to peer call each.0 differs, feeds_for_other now to peer calls each.1 differs)

-- if all actions are for other peers, so are their calls
pub deeds_for_other : (peer : ℕ) (actions : List AdapterAction) (calls : List Call) → AmountTo actions calls
    → AllByRecursion (IsActionForOther peer) actions → AllByRecursion (IsForOther peer) calls
deeds_for_other peer [] calls stand others = subst (AllByRecursion (IsForOther peer)) (sym stand) tt
deeds_for_other peer (Calls call ∷ actions) calls stand others =
    subst (AllByRecursion (IsForOther peer)) (sym stand.1) (others.0, deeds_for_other peer actions stand.0 stand.2 others.1)
deeds_for_other peer (Serves now to ∷ actions) calls stand others =
    subst (AllByRecursion (IsForOther peer)) (sym stand.2)
    (all-join (IsForOther peer) stand.0 stand.1 (feeds_for_other now to peer stand.0 stand.3 others.0)
    (deeds_for_other peer actions stand.1 stand.4 others.1))
