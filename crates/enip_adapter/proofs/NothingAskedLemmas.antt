-- A device without application objects asks its owner nothing: neither by a request, nor by one that a command embeds.
use Rattle.std.proofs.Common.{◌≡◌, ℕ, List, [], ◌∷◌, ◌++◌, length, not, eqb, false, refl, sym, ap, ◌∙◌}
use Rattle.cip_ledger.specs.Reaching.{listed}
use Rattle.cip_ledger.specs.Runs.{Request}
use Rattle.cip_objects.specs.Contents.{Contents}
use Rattle.cip_objects.proofs.OwnRequests.{no_objects, none_of}
use Rattle.cip_owner.specs.Owned.{asks, asked_within}
use Rattle.enip_adapter.specs.declared.peer.PeerSlot.{PeerSlot}
use Rattle.enip_adapter.specs.declared.shared.Shared.{Shared}
use Rattle.enip_adapter.specs.Adapter.{adapter_in}
use Rattle.enip_adapter.specs.Asks.{asks_of_call}
use Rattle.enip_adapter.specs.Calls.{AdapterState}
use Rattle.enip_adapter.specs.Calls.Call.{Feeds}
use Rattle.enip_adapter.specs.Turn.{at_moment}
use Rattle.enip_adapter.proofs.AskedLemmas.{asks_of, feed_reached, feed-asks}

one-unasked : (m : Contents) (limit : ℕ) (text : List ℕ) → length m.shapes.objects ≡ 0 → listed (asks m limit text) ≡ []
unfolding asks
one-unasked m limit text e = ap (λ own. listed (asked_within limit own)) (no_objects m text e)

all-unasked : (m : Contents) (requests : List Request) → length m.shapes.objects ≡ 0 → asks_of m requests ≡ []
all-unasked m [] e = refl
all-unasked m (request ∷ requests) e =
    ap (λ asked. asked ++ asks_of m requests) (one-unasked m request.0 request.1 e) ∙ all-unasked m requests e

nothing-asked : (a : AdapterState) (now peer : ℕ) (piece : List ℕ)
    → length a.state.shared.objects.router.objects.shapes.objects ≡ 0 → asks_of_call a (Feeds now peer piece) ≡ []
nothing-asked a now peer piece e =
    feed-asks a now peer piece ∙ all-unasked a.state.shared.objects.router.objects (feed_reached a now peer piece) e

abbrev object_count : Shared → ℕ
object_count shared = length shared.objects.router.objects.shapes.objects

-- The same by the fields of the code, once the time was taken into account.
pub unasked_feed : (limit next_handle : ℕ) (shared now_shared : Shared) (places : List PeerSlot) (now peer : ℕ)
    (piece : List ℕ) (a : AdapterState) → adapter_in limit next_handle shared places ≡ a
    → now_shared ≡ at_moment shared now
    → not (eqb (length now_shared.objects.router.objects.shapes.objects) 0) ≡ false
    → [] ≡ asks_of_call a (Feeds now peer piece)
unasked_feed limit next_handle shared now_shared places now peer piece a is moment none =
    let e : object_count shared ≡ 0
    = none_of (object_count shared) (ap (λ s. not (eqb (object_count s) 0)) (sym moment) ∙ none) in
    sym (nothing-asked a now peer piece (ap (λ (x : AdapterState). object_count x.state.shared) (sym is) ∙ e))
