-- Lists of adapter calls with servings among them, and the calls that they amount to.
use Rattle.std.specs.Prelude.{ℕ, ◌≡◌, ◌≢◌, List, [], ◌∷◌, ◌++◌}
use Rattle.std.specs.List.{AllByRecursion}
use Rattle.enip_adapter.specs.Calls.{AdapterState, Call, after_call}
use Rattle.enip_adapter.specs.Calls.Call.{Begins_peer, Feeds, Ends_peer, Ticks, Writes}
use Rattle.enip_adapter.specs.Runs.{after_calls, IsForOther}

-- The call is a feed of this peer at this time.
abbrev pub IsFeedOf : ℕ → ℕ → Call → Type 0
IsFeedOf now peer (Begins_peer rights group) = ⊥
IsFeedOf now peer (Feeds at to piece) = (at ≡ now) × (to ≡ peer)
IsFeedOf now peer (Ends_peer to) = ⊥
IsFeedOf now peer (Ticks at) = ⊥
IsFeedOf now peer (Writes write) = ⊥

-- Feeds of this peer at this time lead from one adapter to another.
pub record AreFeeds (now peer : ℕ) (old new : AdapterState) : Type 0 where
  pub calls : List Call
  pub each : AllByRecursion (IsFeedOf now peer) calls
  pub after : new ≡ after_calls old calls

-- What is done to an adapter: a call, or a serving of a peer at the time of its read.
pub data AdapterAction : Type 0 where
  Calls : Call → AdapterAction
  Serves : (now peer : ℕ) → AdapterAction

-- These actions, one after the other, lead from an adapter to the last one.
abbrev pub LeadTo : AdapterState → List AdapterAction → AdapterState → Type 0
LeadTo a [] last = last ≡ a
LeadTo a (Calls call ∷ actions) last = LeadTo (after_call a call) actions last
LeadTo a (Serves now peer ∷ actions) last = (new : AdapterState) × AreFeeds now peer a new × LeadTo new actions last

-- The actions amount to these calls: each call to itself, each serving to feeds of its peer at its time.
abbrev pub AmountTo : List AdapterAction → List Call → Type 0
AmountTo [] calls = calls ≡ []
AmountTo (Calls call ∷ actions) calls = (rest : List Call) × (calls ≡ call ∷ rest) × AmountTo actions rest
AmountTo (Serves now peer ∷ actions) calls =
    (feeds : List Call) × (rest : List Call) × (calls ≡ feeds ++ rest) × AllByRecursion (IsFeedOf now peer) feeds
    × AmountTo actions rest

-- The action is for another peer than this one, or for none.
abbrev pub IsActionForOther : ℕ → AdapterAction → Type 0
IsActionForOther peer (Calls call) = IsForOther peer call
IsActionForOther peer (Serves now other) = other ≢ peer
