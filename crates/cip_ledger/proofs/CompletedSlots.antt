-- The slots once the reply to a ticket is given.
use Rattle.std.proofs.Common.{◌≡◌, ℕ, zero, suc, ◌+◌, ◌<◌, ◌≤◌, ◌==◌, ◌||◌, Bool, true, false, if◌then◌else◌, Option, Some, None, List, [], ◌∷◌, length, get_or, add-one, refl, ap, sym, ◌∙◌, arith}
use Rattle.std.specs.Prelude.{option_map, map, slice_set}
use Rattle.cip_ledger.specs.Ledger.{SlotState, IsSlot, AreApart, AreSlots, slot_of}
use Rattle.cip_ledger.specs.Pending.{is_pending_at, any_pending, done_with, completed_slot}

-- a slot keeps its originator and its number
pub completed-originator : (ticket : ℕ) (reply : List ℕ) (slot : SlotState) →
    (completed_slot ticket reply slot).originator ≡ slot.originator
completed-originator ticket reply slot = go (is_pending_at ticket slot)
  where
    go : (is : Bool) → (if is then done_with reply slot else slot).originator ≡ slot.originator
    go true = refl
    go false = refl

pub completed-number : (ticket : ℕ) (reply : List ℕ) (slot : SlotState) →
    (completed_slot ticket reply slot).number ≡ slot.number
completed-number ticket reply slot = go (is_pending_at ticket slot)
  where
    go : (is : Bool) → (if is then done_with reply slot else slot).number ≡ slot.number
    go true = refl
    go false = refl

-- and is not pending with this ticket any more
not_pending : (ticket : ℕ) (reply : List ℕ) (slot : SlotState) →
    is_pending_at ticket (completed_slot ticket reply slot) ≡ false
not_pending ticket reply slot = go (is_pending_at ticket slot) refl
  where
    go : (is : Bool) → is_pending_at ticket slot ≡ is → is_pending_at ticket (if is then done_with reply slot else slot) ≡ false
    go true h = refl
    go false h = h

pub none_pending : (ticket : ℕ) (reply : List ℕ) (taken : List SlotState) →
    any_pending ticket (map (completed_slot ticket reply) taken) ≡ false
none_pending ticket reply [] = refl
none_pending ticket reply (slot ∷ taken) =
    ap (λ first. first || any_pending ticket (map (completed_slot ticket reply) taken)) (not_pending ticket reply slot)
    ∙ none_pending ticket reply taken

-- the slot of an originator
pub slot_of-completed : (ticket : ℕ) (reply : List ℕ) (taken : List SlotState) (originator : ℕ) →
    slot_of originator (map (completed_slot ticket reply) taken)
    ≡ option_map (completed_slot ticket reply) (slot_of originator taken)
slot_of-completed ticket reply [] originator = refl
slot_of-completed ticket reply (slot ∷ taken) originator =
    ap (λ o. if o == originator then Some (completed_slot ticket reply slot)
    else slot_of originator (map (completed_slot ticket reply) taken)) (completed-originator ticket reply slot)
    ∙ go (slot.originator == originator) (slot_of-completed ticket reply taken originator)
  where
    go : (is : Bool) →
        slot_of originator (map (completed_slot ticket reply) taken)
        ≡ option_map (completed_slot ticket reply) (slot_of originator taken) →
        (if is then Some (completed_slot ticket reply slot) else slot_of originator (map (completed_slot ticket reply) taken))
        ≡ option_map (completed_slot ticket reply) (if is then Some slot else slot_of originator taken)
    go true later = refl
    go false later = later

none_mapped : (f : SlotState → SlotState) (found : Option SlotState) → found ≡ None → option_map f found ≡ None
none_mapped f found none = ap (option_map f) none

pub apart-completed : (ticket : ℕ) (reply : List ℕ) (taken : List SlotState) → AreApart taken →
    AreApart (map (completed_slot ticket reply) taken)
apart-completed ticket reply [] apart = tt
apart-completed ticket reply (slot ∷ taken) apart = (
  ap (λ o. slot_of o (map (completed_slot ticket reply) taken)) (completed-originator ticket reply slot)
      ∙ slot_of-completed ticket reply taken slot.originator
      ∙ none_mapped (completed_slot ticket reply) (slot_of slot.originator taken) apart.0,
  apart-completed ticket reply taken apart.1,
)

slot-completed : (ticket : ℕ) (reply : List ℕ) (slot : SlotState) → length reply ≤ 480 → IsSlot slot →
    IsSlot (completed_slot ticket reply slot)
slot-completed ticket reply slot short is = go (is_pending_at ticket slot)
  where
    go : (b : Bool) → IsSlot (if b then done_with reply slot else slot)
    go true =
        record { originator = is.originator; number = is.number; short = short; ticket = omega arith; one = refl }
    go false = is

pub slots-completed : (ticket : ℕ) (reply : List ℕ) (taken : List SlotState) → length reply ≤ 480 → AreSlots taken →
    AreSlots (map (completed_slot ticket reply) taken)
slots-completed ticket reply [] short are = tt
slots-completed ticket reply (slot ∷ taken) short are =
    (slot-completed ticket reply slot short are.0, slots-completed ticket reply taken short are.1)

-- ---- one slot after another

-- the first `n` slots are completed
abbrev pub completed_front : ℕ → ℕ → List ℕ → List SlotState → List SlotState
completed_front zero ticket reply taken = taken
completed_front (suc n) ticket reply [] = []
completed_front (suc n) ticket reply (slot ∷ taken) = completed_slot ticket reply slot ∷ completed_front n ticket reply taken

-- the next one is as it was
pub front-at : (n ticket : ℕ) (reply : List ℕ) (taken : List SlotState) (d : SlotState) → n < length taken →
    get_or (completed_front n ticket reply taken) n d ≡ get_or taken n d
front-at n ticket reply [] d within = absurd (omega (arith, within))
front-at zero ticket reply (slot ∷ taken) d within = refl
front-at (suc n) ticket reply (slot ∷ taken) d within = front-at n ticket reply taken d (omega (arith, within))

front-suc : (n ticket : ℕ) (reply : List ℕ) (taken : List SlotState) (d : SlotState) → n < length taken →
    slice_set (completed_front n ticket reply taken) n (completed_slot ticket reply (get_or taken n d))
    ≡ completed_front (suc n) ticket reply taken
front-suc n ticket reply [] d within = absurd (omega (arith, within))
front-suc zero ticket reply (slot ∷ taken) d within = refl
front-suc (suc n) ticket reply (slot ∷ taken) d within =
    ap (λ more. completed_slot ticket reply slot ∷ more) (front-suc n ticket reply taken d (omega (arith, within)))

pub front-step : (n ticket : ℕ) (reply : List ℕ) (taken : List SlotState) (d : SlotState) → n < length taken →
    slice_set (completed_front n ticket reply taken) n (completed_slot ticket reply (get_or taken n d))
    ≡ completed_front (n + 1) ticket reply taken
front-step n ticket reply taken d within =
    rw add-one (front-suc n ticket reply taken d within)

pub front-end : (n ticket : ℕ) (reply : List ℕ) (taken : List SlotState) → length taken ≤ n →
    completed_front n ticket reply taken ≡ map (completed_slot ticket reply) taken
front-end zero ticket reply [] ended = refl
front-end zero ticket reply (slot ∷ taken) ended = absurd (omega (arith, ended))
front-end (suc n) ticket reply [] ended = refl
front-end (suc n) ticket reply (slot ∷ taken) ended =
    ap (λ more. completed_slot ticket reply slot ∷ more) (front-end n ticket reply taken (omega (arith, ended)))

-- whether one of the first `n` was pending
abbrev pub any_front : ℕ → ℕ → List SlotState → Bool
any_front zero ticket taken = false
any_front (suc n) ticket [] = false
any_front (suc n) ticket (slot ∷ taken) = is_pending_at ticket slot || any_front n ticket taken

or_assoc : (a b c : Bool) → (a || b) || c ≡ a || (b || c)
or_assoc true b c = refl
or_assoc false b c = refl

or_false : (a : Bool) → a || false ≡ a
or_false true = refl
or_false false = refl

any-suc : (n ticket : ℕ) (taken : List SlotState) (d : SlotState) → n < length taken →
    any_front n ticket taken || is_pending_at ticket (get_or taken n d) ≡ any_front (suc n) ticket taken
any-suc n ticket [] d within = absurd (omega (arith, within))
any-suc zero ticket (slot ∷ taken) d within = sym (or_false (is_pending_at ticket slot))
any-suc (suc n) ticket (slot ∷ taken) d within =
    or_assoc (is_pending_at ticket slot) (any_front n ticket taken) (is_pending_at ticket (get_or taken n d))
    ∙ ap (λ more. is_pending_at ticket slot || more) (any-suc n ticket taken d (omega (arith, within)))

pub any-step : (n ticket : ℕ) (taken : List SlotState) (d : SlotState) → n < length taken →
    any_front n ticket taken || is_pending_at ticket (get_or taken n d) ≡ any_front (n + 1) ticket taken
any-step n ticket taken d within = rw add-one (any-suc n ticket taken d within)

pub any-end : (n ticket : ℕ) (taken : List SlotState) → length taken ≤ n →
    any_front n ticket taken ≡ any_pending ticket taken
any-end zero ticket [] ended = refl
any-end zero ticket (slot ∷ taken) ended = absurd (omega (arith, ended))
any-end (suc n) ticket [] ended = refl
any-end (suc n) ticket (slot ∷ taken) ended =
    ap (λ more. is_pending_at ticket slot || more) (any-end n ticket taken (omega (arith, ended)))
