-- The agreement of the two worlds, and what follows from it, over every list of events from the opening.
use Rattle.std.specs.Prelude.{◌≡◌, ◌↔◌, ℕ, ◌+◌, ◌%◌, ◌^◌, ◌<◌, ◌≤◌, true, Some, List, map, slice_get}
use Rattle.cip_class3.specs.Item.{item}
use Rattle.enip_adapter.specs.OwnWrites.{OwnWrite}
use Rattle.enip_bench.specs.Events.{Event}
use Rattle.enip_bench.specs.Executions.{executions_of, own_numbers, AreRising, writes_in, writes_among, Arrives, IsOnlyExecution}
use Rattle.enip_bench.specs.ItemWorld.{ItemWorld, items_at_opening, item_run, items_seen}
use Rattle.enip_bench.specs.NumberedWorld.{NumberedWorld, numbers_at_opening, numbered_run, numbers_seen, stands, submits_since_accepted}

-- the numbered world after these events
abbrev pub numbers_after : ℕ → List Event → NumberedWorld
numbers_after o_to_t_size events = numbered_run o_to_t_size numbers_at_opening events

-- no request is executed twice
abbrev pub once_law : Type 0
once_law = (o_to_t_size number : ℕ) (events : List Event) →
    executions_of number (numbers_after o_to_t_size events).log ≤ 1

-- requests are executed in the order of their numbers
abbrev pub order_law : Type 0
order_law = (o_to_t_size : ℕ) (events : List Event) → AreRising (own_numbers (numbers_after o_to_t_size events).log)

-- the log has each write of the device once, in order
abbrev pub writes_law : Type 0
writes_law = (o_to_t_size : ℕ) (events : List Event) →
    writes_in (numbers_after o_to_t_size events).log ≡ writes_among events

-- fewer requests were submitted since the last accepted reply than there are counts
abbrev pub window_law : Type 0
window_law = (o_to_t_size : ℕ) (events : List Event) → submits_since_accepted (numbers_after o_to_t_size events) ≤ 65535

-- a request is executed if and only if it reached the open target
abbrev pub arrival_law : Type 0
arrival_law = (o_to_t_size number : ℕ) (events : List Event) →
    (stands number (numbers_after o_to_t_size events).log ≡ true) ↔ Arrives o_to_t_size numbers_at_opening events number

module _ {M : Type 0} (after : M → ℕ → List ℕ → M) (answer : M → ℕ → List ℕ → List ℕ)
    (written : OwnWrite → M → M) where
  -- both ends, by their rules, after these events
  abbrev pub items_after : ℕ → ℕ → ℕ → M → List Event → ItemWorld M
  items_after first o_to_t_size t_to_o_size router events =
      item_run after answer written (items_at_opening first o_to_t_size t_to_o_size router) events

  -- For every list of events from the opening, any first count, any O->T size, any T->O size from 10, any router, and
  -- any change of it by a write of the device: the item world shows what the numbered world shows.
  abbrev pub agreement_law : Type 0
  agreement_law =
      (first o_to_t_size t_to_o_size : ℕ) (router : M) (events : List Event) → first < 2 ^ 16 → 10 ≤ t_to_o_size →
      items_seen (items_after first o_to_t_size t_to_o_size router events)
      ≡ numbers_seen after answer written first t_to_o_size router (numbers_after o_to_t_size events)

  -- this is the reply of the only execution of this number's request
  abbrev pub IsReplyOf : ℕ → ℕ → M → List Event → ℕ → List ℕ → Type 0
  IsReplyOf o_to_t_size t_to_o_size router events number reply =
      let world : NumberedWorld = numbers_after o_to_t_size events in
      IsOnlyExecution after answer written t_to_o_size world.submits router world.log number reply

  -- a reply that the originator accepted is the reply of its request's only execution
  abbrev pub accepted_law : Type 0
  accepted_law =
      (first o_to_t_size t_to_o_size : ℕ) (router : M) (events : List Event) (position number : ℕ) (reply : List ℕ) →
      first < 2 ^ 16 → 10 ≤ t_to_o_size →
      slice_get (items_after first o_to_t_size t_to_o_size router events).accepted position ≡ Some (number, reply) →
      IsReplyOf o_to_t_size t_to_o_size router events number reply

  -- at most one reply is accepted for each request, in the order of the submits
  abbrev pub accepted_order_law : Type 0
  accepted_order_law =
      (first o_to_t_size t_to_o_size : ℕ) (router : M) (events : List Event) → first < 2 ^ 16 → 10 ≤ t_to_o_size →
      AreRising (map (λ x. x.0) (items_after first o_to_t_size t_to_o_size router events).accepted)

  -- every answer to a request has the request's count and the reply of its only execution
  abbrev pub answer_law : Type 0
  answer_law = (first o_to_t_size t_to_o_size : ℕ) (router : M) (events : List Event) (position number : ℕ) →
      first < 2 ^ 16 → 10 ≤ t_to_o_size →
      slice_get (numbers_after o_to_t_size events).back position ≡ Some number →
      (reply : List ℕ) × IsReplyOf o_to_t_size t_to_o_size router events number reply
      × (slice_get (items_after first o_to_t_size t_to_o_size router events).back position
      ≡ Some (item ((first + number) % 65536) reply))

  -- a request is answered with the same bytes each time
  abbrev pub same_bytes_law : Type 0
  same_bytes_law = (first o_to_t_size t_to_o_size : ℕ) (router : M) (events : List Event) (one other number : ℕ) →
      first < 2 ^ 16 → 10 ≤ t_to_o_size →
      slice_get (numbers_after o_to_t_size events).back one ≡ Some number →
      slice_get (numbers_after o_to_t_size events).back other ≡ Some number →
      slice_get (items_after first o_to_t_size t_to_o_size router events).back one
      ≡ slice_get (items_after first o_to_t_size t_to_o_size router events).back other
