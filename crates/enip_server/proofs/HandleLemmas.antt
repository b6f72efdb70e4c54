-- What a call does to the adapter's next session handle.
use Rattle.std.proofs.Common.{◌≡◌, ◌≤◌, ◌+◌, ℕ, List, [], ◌∷◌, Option, refl, ◌∙◌, arith}
use Rattle.std.specs.Prelude.{⊤}
use Rattle.std.specs.List.{AllByRecursion}
use Rattle.enip_adapter.specs.declared.peer.Rights.{Rights}
use Rattle.enip_adapter.specs.Turn.{TurnResult, after, session_of}
use Rattle.enip_adapter.specs.Turn.Output.{Begins}
use Rattle.enip_adapter.specs.Calls.{AdapterState, Call, after_call, call_answer}
use Rattle.enip_adapter.specs.Calls.Call.{Begins_peer, Feeds, Ends_peer, Ticks, Writes}
use Rattle.enip_adapter.specs.Runs.{after_calls}
use Rattle.enip_adapter.proofs.EventLemmas.{of_piece}
use Rattle.enip_adapter.proofs.BeginLemmas.{each-begun}
use Rattle.enip_adapter.proofs.NumberLemmas.{next-parsed_frame, next-ended}
use Rattle.enip_adapter.proofs.PeerLemmas.{at_state}

-- A feed or the end of this peer, or the device's own write.
abbrev pub IsAbout : ℕ → Call → Type 0
IsAbout peer (Begins_peer rights group) = ⊥
IsAbout peer (Feeds now other piece) = other ≡ peer
IsAbout peer (Ends_peer other) = other ≡ peer
IsAbout peer (Ticks now) = ⊥
IsAbout peer (Writes write) = ⊤

next_call : (peer : ℕ) (a : AdapterState) (call : Call) → IsAbout peer call
    → (after_call a call).state.next_handle ≡ a.state.next_handle
next_call peer a (Begins_peer rights group) is = absurd is
next_call peer a (Feeds now other piece) is =
    of_piece (λ m. (after a.state m.events).next_handle ≡ a.state.next_handle) now other piece a.held
    (session_of a.state other) refl (λ x n left. next-parsed_frame (at_state a.state now) other x)
next_call peer a (Ends_peer other) is = next-ended a.state other (session_of a.state other)
next_call peer a (Ticks now) is = absurd is
next_call peer a (Writes write) is = refl

-- these calls do not change it
pub next_calls : (peer : ℕ) (a : AdapterState) (calls : List Call) → AllByRecursion (IsAbout peer) calls
    → (after_calls a calls).state.next_handle ≡ a.state.next_handle
next_calls peer a [] each = refl
next_calls peer a (call ∷ calls) each =
    next_calls peer (after_call a call) calls each.1 ∙ next_call peer a call each.0

-- a peer that ends does not change it
pub next_end : (a : AdapterState) (peer : ℕ) → (after_call a (Ends_peer peer)).state.next_handle ≡ a.state.next_handle
next_end a peer = next-ended a.state peer (session_of a.state peer)

-- a peer that begins does not decrease it
pub next_begun : (a : AdapterState) (rights : Rights) (group : Option ℕ)
    → a.state.next_handle ≤ (after_call a (Begins_peer rights group)).state.next_handle
next_begun a rights group =
    let P : TurnResult → Type 0 = λ t. a.state.next_handle ≤ t.state.next_handle in
    each-begun P a.state rights group (λ full. omega arith) (omega arith)

-- a peer that begins is assigned it, and the next one is greater by one
pub next_given : (a : AdapterState) (rights : Rights) (group : Option ℕ) (handle : ℕ)
    → (call_answer a (Begins_peer rights group)).output ≡ Begins handle
    → (handle ≡ a.state.next_handle)
    × ((after_call a (Begins_peer rights group)).state.next_handle ≡ a.state.next_handle + 1)
next_given a rights group handle =
    let P : TurnResult → Type 0 = λ t. t.answer.output ≡ Begins handle
    → (handle ≡ a.state.next_handle) × (t.state.next_handle ≡ a.state.next_handle + 1) in
    each-begun P a.state rights group (λ full is. absurd (cc)) (λ is. (cc, refl))
