-- No group has more peers than its share, and one under its share gets a slot.
use Rattle.std.proofs.Common.{◌≡◌, ◌≢◌, ℕ, zero, suc, ◌+◌, ◌*◌, ◌<◌, ◌≤◌, List, [], ◌∷◌, ◌++◌, length, Bool, true, false, cond, not, ◌||◌, eqb, ltb, ltb-true, Option, Some, None, append-nil, get_or, refl, sym, ap, subst, ◌∙◌, arith}
use Rattle.std.specs.Prelude.{filter, All}
use Rattle.std.specs.List.{Contains}
use Rattle.std.proofs.lemmas.Bool.{eqb-true, lt-ltb}
use Rattle.std.proofs.lemmas.List.{length_push}
use Rattle.std.proofs.lemmas.List.Elements.{All-head, All-filter, filter-append, filter_passes}
use Rattle.std.proofs.lemmas.List.Filters.{length-filter_both}
use Rattle.cip_ledger.specs.Device.{Device}
use Rattle.cip_manager.specs.Connection.{is_group}
use Rattle.cip_manager.proofs.ListLemmas.{filter-swap}
use Rattle.enip_wire.specs.Frames.{Frame}
use Rattle.enip_adapter.specs.declared.adapter.Full.{Full}
use Rattle.enip_adapter.specs.declared.adapter.Full.TheVariants.{Places, Handles, Share}
use Rattle.enip_adapter.specs.declared.adapter.Limits.{Limits}
use Rattle.enip_adapter.specs.declared.adapter.Shares.{Shares}
use Rattle.enip_adapter.specs.declared.peer.Rights.{Rights}
use Rattle.enip_adapter.specs.declared.peer.Session.{Session}
use Rattle.enip_adapter.specs.declared.shared.Listen.{Listen}
use Rattle.enip_adapter.specs.declared.shared.Shared.{Shared}
use Rattle.enip_adapter.specs.Adapter.{shared_adapter}
use Rattle.enip_adapter.specs.Calls.{AdapterState, Call, call_answer, call_meaning, after_call, held_at_beginning}
use Rattle.enip_adapter.specs.Calls.Call.{Begins_peer}
use Rattle.enip_adapter.specs.Commands.{command_served, long_refused}
use Rattle.enip_adapter.specs.Groups.{is_of_group, peers_of_group, has_share}
use Rattle.enip_adapter.specs.Lookup.{first_with, with_first, without_first}
use Rattle.enip_adapter.specs.Replies.{Served, leaving}
use Rattle.enip_adapter.specs.Runs.{after_calls}
use Rattle.enip_adapter.specs.ShareLaws.{is_of_one_of}
use Rattle.enip_adapter.specs.Turn.{State, Event, TurnResult, turn, turned, begun, with_peer, new_session, end_found, serve_found, session_of, session_after, after}
use Rattle.enip_adapter.specs.Turn.Event.{Begin, End, At, Framed, Long, Written}
use Rattle.enip_adapter.specs.Turn.Output.{Begins, Refuses}
use Rattle.enip_adapter.proofs.BeginLemmas.{each-begun}
use Rattle.enip_adapter.proofs.CommandLemmas.{after_command}
use Rattle.enip_adapter.proofs.ListLemmas.{both}

-- ---- the number of peers of a group

abbrev handle_of : Session → ℕ
handle_of peer = peer.handle

at-least : (b : Bool) (x : Session) (ys : List Session) → length ys ≤ length (cond b (x ∷ ys) ys)
at-least true x ys = omega arith
at-least false x ys = omega arith

one-more : (b : Bool) (x : Session) (ys zs : List Session) → length ys ≤ length zs
    → length (cond b (x ∷ ys) ys) ≤ length (cond b (x ∷ zs) zs)
one-more true x ys zs h = omega (arith, h)
one-more false x ys zs h = h

same-size : (b : Bool) (x y : Session) (ys zs : List Session) → length ys ≡ length zs
    → length (cond b (x ∷ ys) ys) ≡ length (cond b (y ∷ zs) zs)
same-size true x y ys zs h = omega (arith, h)
same-size false x y ys zs h = h

-- A peer fewer.
pub count-without : (group n : ℕ) (xs : List Session)
    → peers_of_group group (without_first handle_of n xs) ≤ peers_of_group group xs
count-without group n [] = omega arith
count-without group n (x ∷ xs) = go (count-without group n xs) (eqb x.handle n)
  where
    go : peers_of_group group (without_first handle_of n xs) ≤ peers_of_group group xs
        → (b : Bool) → peers_of_group group (cond b xs (x ∷ without_first handle_of n xs)) ≤ peers_of_group group (x ∷ xs)
    go fewer true = at-least (is_of_group group x) x (filter (is_of_group group) xs)
    go fewer false = one-more (is_of_group group x) x _ _ fewer

same_found : (x y : Session) → ◌≡◌ {A = Option Session} (Some x) (Some y) → x ≡ y
same_found x y e = cc

-- A peer of the same group in the place of another.
count-changed : (group n : ℕ) (old new : Session) (xs : List Session) → first_with handle_of n xs ≡ Some old
    → new.group ≡ old.group → peers_of_group group (with_first handle_of n new xs) ≡ peers_of_group group xs
count-changed group n old new [] found same = refl
count-changed group n old new (x ∷ xs) found same =
    go (λ is. count-changed group n old new xs is same) (eqb x.handle n) found
  where
    go : (first_with handle_of n xs ≡ Some old
        → peers_of_group group (with_first handle_of n new xs) ≡ peers_of_group group xs)
        → (b : Bool) → cond b (Some x) (first_with handle_of n xs) ≡ Some old
        → peers_of_group group (cond b (new ∷ xs) (x ∷ with_first handle_of n new xs)) ≡ peers_of_group group (x ∷ xs)
    go later true is =
        ap (λ g. length (cond (is_group group g) (new ∷ filter (is_of_group group) xs) (filter (is_of_group group) xs)))
        (same ∙ ap (λ (p : Session). p.group) (sym (same_found x old is)))
        ∙ same-size (is_of_group group x) new x _ _ refl
    go later false is = same-size (is_of_group group x) x x _ _ (later is)

-- A peer more.
count-push : (group : ℕ) (xs : List Session) (last : Session)
    → peers_of_group group (xs ++ last ∷ []) ≡ peers_of_group group xs + cond (is_of_group group last) 1 0
count-push group xs last =
    ap length (filter-append (is_of_group group) xs (last ∷ [])) ∙ go (is_of_group group last)
  where
    kept : List Session
    kept = filter (is_of_group group) xs

    go : (b : Bool) → length (kept ++ cond b (last ∷ []) []) ≡ length kept + cond b 1 0
    go true = omega (arith, length_push kept last)
    go false = omega (arith, ap length (append-nil kept))

-- ---- over every list of calls

-- Each group has at most its share of peers. Neither the share nor the number of slots ever changes.
record IsWithin (places share : ℕ) (s : State) : Type 0 where
  slots : s.places ≡ places
  same : s.shared.share ≡ share
  within : (group : ℕ) → peers_of_group group s.peers ≤ share

within-one : (places share : ℕ) (s : State) (own : Option ℕ) (group : ℕ) → has_share s.shared.share s.peers own ≡ true
    → IsWithin places share s → peers_of_group group s.peers + cond (is_group group own) 1 0 ≤ share
within-one places share s None group left w = omega (arith, w.within group)
within-one places share s (Some other) group left w = go (eqb other group) refl
  where
    go : (b : Bool) → eqb other group ≡ b → peers_of_group group s.peers + cond b 1 0 ≤ share
    go true e =
        let theirs : peers_of_group other s.peers < s.shared.share = ltb-true _ _ left in
        let mine : peers_of_group group s.peers < s.shared.share
        = subst (λ g. peers_of_group g s.peers < s.shared.share) (eqb-true other group e) theirs in
        omega (arith, mine, w.same)
    go false e = omega (arith, w.within group)

abbrev rest : State → Rights → Option ℕ → TurnResult
rest s rights group =
    cond (not (ltb (length s.peers) s.places)) (turned s (Refuses Places) false)
    (cond (ltb 0xffffffff s.next_handle) (turned s (Refuses Handles) false)
    (turned (with_peer s rights group) (Begins s.next_handle) false))

within-begun : (places share : ℕ) (s : State) (rights : Rights) (group : Option ℕ) → IsWithin places share s
    → IsWithin places share (begun s rights group).state
within-begun places share s rights group w = go (has_share s.shared.share s.peers group) refl
  where
    go : (b : Bool) → has_share s.shared.share s.peers group ≡ b
        → IsWithin places share (cond (not b) (turned s (Refuses Share) false) (rest s rights group)).state
    go false e = w
    go true e =
        both (λ (t : TurnResult). IsWithin places share t.state) (not (ltb (length s.peers) s.places)) _ _ w
        (both (λ (t : TurnResult). IsWithin places share t.state) (ltb 0xffffffff s.next_handle) _ _ w
        (record {
          slots = w.slots;
          same = w.same;
          within = λ g. subst (λ n. n ≤ share) (sym (count-push g s.peers (new_session s.next_handle rights group)))
              (within-one places share s group g e w);
        }))

within-ended : (places share : ℕ) (s : State) (peer : ℕ) (o : Option Session) → IsWithin places share s
    → IsWithin places share (end_found s peer o)
within-ended places share s peer None w = w
within-ended places share s peer (Some session) w = record {
  slots = w.slots;
  same = w.same;
  within = λ group. omega (arith, count-without group peer s.peers, w.within group);
}

within-served : (places share : ℕ) (s : State) (peer : ℕ) (serve : Session → Served) (o : Option Session)
    → session_of s peer ≡ o → ((session : Session) → (serve session).shared.share ≡ s.shared.share)
    → IsWithin places share s → IsWithin places share (serve_found s peer serve o).state
within-served places share s peer serve None found keeps w = w
within-served places share s peer serve (Some session) found keeps w =
    both (λ (t : TurnResult). IsWithin places share t.state) session.closed _ _ w
    (record {
      slots = w.slots;
      same = both (λ (t : Shared). t.share ≡ share) (serve session).reaction.close _ _ (keeps session ∙ w.same)
          (keeps session ∙ w.same);
      within = λ group. subst (λ n. n ≤ share)
          (sym (count-changed group peer session (session_after session (serve session)) s.peers found refl))
          (w.within group);
    })

share-stays : (shared : Shared) (session : Session) (f : Frame) → (command_served shared session f).shared.share ≡ shared.share
share-stays shared session f =
    after_command (λ (t : Shared). t.share ≡ shared.share) shared session
    (record {
      same = refl;
      opens = λ layout bytes. refl;
      closes = λ bytes. refl;
      executes = λ request. refl;
      receives = λ id item. refl;
    }) f

within-event : (places share : ℕ) (s : State) (e : Event) → IsWithin places share s
    → IsWithin places share (turn s e).state
within-event places share s (Begin rights group) w = within-begun places share s rights group w
within-event places share s (End peer) w = within-ended places share s peer (session_of s peer) w
within-event places share s (At now) w = record { slots = w.slots; same = w.same; within = w.within }
within-event places share s (Framed peer f) w =
    within-served places share s peer (λ session. command_served s.shared session f) (session_of s peer) refl
    (λ session. share-stays s.shared session f) w
within-event places share s (Long peer h) w =
    within-served places share s peer (λ session. leaving s.shared (long_refused session h)) (session_of s peer) refl
    (λ session. refl) w
within-event places share s (Written write) w = record { slots = w.slots; same = w.same; within = w.within }

within-events : (places share : ℕ) (s : State) (es : List Event) → IsWithin places share s
    → IsWithin places share (after s es)
within-events places share s [] w = w
within-events places share s (e ∷ es) w =
    within-events places share (turn s e).state es (within-event places share s e w)

within-calls : (places share : ℕ) (a : AdapterState) (calls : List Call) → IsWithin places share a.state
    → IsWithin places share (after_calls a calls).state
within-calls places share a [] w = w
within-calls places share a (c ∷ cs) w =
    within-calls places share (after_call a c) cs (within-events places share a.state (call_meaning a c).events w)

within-reached : (device : Device) (listen : Listen) (limits : Limits) (shares : Shares) (calls : List Call)
    → IsWithin limits.peers shares.peers (after_calls (shared_adapter device listen limits shares) calls).state
within-reached device listen limits shares calls =
    within-calls limits.peers shares.peers (shared_adapter device listen limits shares) calls
    (record { slots = refl; same = refl; within = λ group. omega arith })

pub peers-within : (device : Device) (listen : Listen) (limits : Limits) (shares : Shares) (calls : List Call) (group : ℕ)
    → peers_of_group group (after_calls (shared_adapter device listen limits shares) calls).state.peers ≤ shares.peers
peers-within device listen limits shares calls group = (within-reached device listen limits shares calls).within group

-- ---- refusals

pub refused-begin : (a : AdapterState) (rights : Rights) (group : Option ℕ) (full : Full)
    → (call_answer a (Begins_peer rights group)).output ≡ Refuses full → after_call a (Begins_peer rights group) ≡ a
refused-begin a rights group full =
    let P : TurnResult → Type 0 = λ t. t.answer.output ≡ Refuses full
    → ◌≡◌ {A = AdapterState} (record { state = t.state; held = held_at_beginning a.held t.answer.output }) a in
    each-begun P a.state rights group (λ other e. refl) (λ e. absurd (cc))

abbrev IsOther : Full → TurnResult → Type 0
IsOther full t = t.answer.output ≡ Refuses full → ⊥

pub under-share : (a : AdapterState) (rights : Rights) (group : Option ℕ)
    → has_share a.state.shared.share a.state.peers group ≡ true
    → (call_answer a (Begins_peer rights group)).output ≢ Refuses Share
under-share a rights group left = go (has_share a.state.shared.share a.state.peers group) left
  where
    go : (b : Bool) → b ≡ true → IsOther Share (cond (not b) (turned a.state (Refuses Share) false) (rest a.state rights group))
    go false e = absurd (cc)
    go true e =
        both (IsOther Share) (not (ltb (length a.state.peers) a.state.places)) _ _ (λ f. cc)
        (both (IsOther Share) (ltb 0xffffffff a.state.next_handle) _ _ (λ f. cc) (λ f. cc))

-- ---- a slot for each share

length-kept : (p : Session → Bool) (xs : List Session) → length (filter p xs) ≤ length xs
length-kept p xs = omega (arith, length-filter_both p (λ x. not (p x)) (λ x. refl) xs)

count-filter : (group : ℕ) (p : Session → Bool) (xs : List Session)
    → peers_of_group group (filter p xs) ≤ peers_of_group group xs
count-filter group p xs =
    subst (λ n. n ≤ peers_of_group group xs) (ap length (sym (filter-swap (is_of_group group) p xs)))
    (length-kept p (filter (is_of_group group) xs))

-- Those that are not of the first group are of one of the others.
others-of : (group : ℕ) (groups : List ℕ) (xs : List Session) → All (λ x. is_of_one_of (group ∷ groups) x ≡ true) xs
    → All (λ x. is_of_one_of groups x ≡ true) (filter (λ x. not (is_of_group group x)) xs)
others-of group groups xs all = λ k d h.
    either (is_of_group group (get_or (filter (λ x. not (is_of_group group x)) xs) k d)) _
    (filter_passes (λ x. not (is_of_group group x)) xs k d h)
    (All-filter (λ x. not (is_of_group group x)) (λ x. is_of_one_of (group ∷ groups) x ≡ true) xs all k d h)
  where
    either : (a b : Bool) → not a ≡ true → (a || b) ≡ true → b ≡ true
    either true b e f = cc
    either false b e f = f

-- There are at most as many peers as all shares together.
fits : (share : ℕ) (groups : List ℕ) (xs : List Session) → All (λ x. is_of_one_of groups x ≡ true) xs
    → ((group : ℕ) → peers_of_group group xs ≤ share) → length xs ≤ length groups * share
fits share [] [] all within = omega arith
fits share [] (x ∷ xs) all within =
    let none : false ≡ true = All-head (λ y. is_of_one_of [] y ≡ true) x xs all in
    cc
fits share (group ∷ groups) xs all within =
    let p = λ (x : Session). not (is_of_group group x) in
    let others = fits share groups (filter p xs) (others-of group groups xs all)
    (λ g. omega (arith, count-filter g p xs, within g)) in
    omega (arith, others, within group, length-filter_both (is_of_group group) p (λ x. refl) xs)

-- Fewer, if a group among them has a share left.
fits-below : (share : ℕ) (groups : List ℕ) (xs : List Session) (group : ℕ) → All (λ x. is_of_one_of groups x ≡ true) xs
    → ((g : ℕ) → peers_of_group g xs ≤ share) → Contains groups group → peers_of_group group xs < share
    → length xs < length groups * share
fits-below share [] xs group all within (k, h, e) left = absurd (omega arith)
fits-below share (first ∷ groups) xs group all within (zero, h, e) left =
    let p = λ (x : Session). not (is_of_group first x) in
    let others = fits share groups (filter p xs) (others-of first groups xs all)
    (λ g. omega (arith, count-filter g p xs, within g)) in
    let here : peers_of_group first xs < share = subst (λ g. peers_of_group g xs < share) (sym e) left in
    omega (arith, others, here, length-filter_both (is_of_group first) p (λ x. refl) xs)
fits-below share (first ∷ groups) xs group all within (suc k, h, e) left =
    let p = λ (x : Session). not (is_of_group first x) in
    let others = fits-below share groups (filter p xs) group (others-of first groups xs all)
    (λ g. omega (arith, count-filter g p xs, within g))
    (k, omega (arith, h), e) (omega (arith, count-filter group p xs, left)) in
    omega (arith, others, within first, length-filter_both (is_of_group first) p (λ x. refl) xs)

has-slot : (s : State) (rights : Rights) (group : Option ℕ) → length s.peers < s.places
    → (begun s rights group).answer.output ≢ Refuses Places
has-slot s rights group free =
    both (IsOther Places) (not (has_share s.shared.share s.peers group)) _ _ (λ f. cc)
    (go (ltb (length s.peers) s.places) (lt-ltb _ _ free))
  where
    go : (b : Bool) → b ≡ true → IsOther Places (cond (not b) (turned s (Refuses Places) false)
        (cond (ltb 0xffffffff s.next_handle) (turned s (Refuses Handles) false)
        (turned (with_peer s rights group) (Begins s.next_handle) false)))
    go false e = absurd (cc)
    go true e = both (IsOther Places) (ltb 0xffffffff s.next_handle) _ _ (λ f. cc) (λ f. cc)

pub slot-for-each : (device : Device) (listen : Listen) (limits : Limits) (shares : Shares) (calls : List Call)
    (rights : Rights) (groups : List ℕ) (group : ℕ) → length groups * shares.peers ≤ limits.peers
    → All (λ (peer : Session). is_of_one_of groups peer ≡ true)
    (after_calls (shared_adapter device listen limits shares) calls).state.peers
    → Contains groups group
    → peers_of_group group (after_calls (shared_adapter device listen limits shares) calls).state.peers < shares.peers
    → (call_answer (after_calls (shared_adapter device listen limits shares) calls) (Begins_peer rights (Some group))).output
    ≢ Refuses Places
slot-for-each device listen limits shares calls rights groups group together all among left =
    let s : State = (after_calls (shared_adapter device listen limits shares) calls).state in
    let w : IsWithin limits.peers shares.peers (after_calls (shared_adapter device listen limits shares) calls).state
    = within-reached device listen limits shares calls in
    let fewer : length s.peers < length groups * shares.peers
    = fits-below shares.peers groups s.peers group all w.within among left in
    has-slot s rights (Some group) (omega (arith, fewer, together, w.slots))
