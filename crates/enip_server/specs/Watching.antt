-- How the device changes, as a watcher sees it: by frames of peers, and by its own writes.
use Rattle.std.specs.Prelude.{ℕ, ◌≡◌, ◌⊎◌, List, [], ◌∷◌, Option, Some, None}
use Rattle.cip_ledger.specs.Device.{Device}
use Rattle.cip_owner.specs.Replies.{Reply}
use Rattle.enip_adapter.specs.Asks.{prepared_feed}
use Rattle.enip_adapter.specs.Calls.{AdapterState, Call}
use Rattle.enip_adapter.specs.Calls.Call.{Feeds}
use Rattle.enip_adapter.specs.OwnWrites.{OwnWrite, device_written}
use Rattle.enip_adapter.specs.Runs.{after_calls}
use Rattle.enip_adapter.specs.Withdrawing.{found_by_piece}

-- The calls of a feed: the feed alone if it asks nothing, or with what the owner answered prepared for it.
abbrev pub feed_calls : ℕ → ℕ → List ℕ → Option (Option Reply) → List Call
feed_calls now peer piece None = Feeds now peer piece ∷ []
feed_calls now peer piece (Some reply) = prepared_feed now peer piece reply

-- The adapter after a feed, once what its request withdraws is withdrawn.
abbrev pub after_feed : AdapterState → ℕ → ℕ → List ℕ → Option (Option Reply) → AdapterState
after_feed a now peer piece answered = after_calls (found_by_piece a peer piece) (feed_calls now peer piece answered)

-- The new device is what one feed of a peer leaves of the old one. A feed takes bytes up to the end of one frame.
pub record IsAfterFrame (old new : Device) : Type 0 where
  pub adapter : AdapterState
  pub moment : ℕ
  pub peer : ℕ
  pub piece : List ℕ
  pub answered : Option (Option Reply)
  pub before : adapter.state.shared.objects ≡ old
  pub after : (after_feed adapter moment peer piece answered).state.shared.objects ≡ new

-- Frames of peers, one after the other.
pub data AreFrames : Device → Device → Type 0 where
  No_frame : {device : Device} → AreFrames device device
  One_more_frame : {first device last : Device} → AreFrames first device → IsAfterFrame device last
      → AreFrames first last

-- Frames of peers, or a write of the device itself.
abbrev pub IsChanged : Device → Device → Type 0
IsChanged old new = AreFrames old new ⊎ ((write : OwnWrite) × (new ≡ device_written write old))
