-- Lower bounds on the deadlines of connections.
use Rattle.std.proofs.Common.{◌≡◌, ℕ, zero, suc, ◌+◌, ◌<◌, ◌≤◌, ◌⊎◌, inl, inr, List, [], ◌∷◌, ◌++◌, cond, set, get_or, take, length, Option, Some, None, refl, ap, subst, sym, ◌∙◌, arith}
use Rattle.std.specs.Prelude.{filter, min, unwrap_or}
use Rattle.std.specs.List.{remove, Any}
use Rattle.std.specs.Option.{MatchOption}
use Rattle.std.proofs.lemmas.Bool.{lt-ltb, cases_lt}
use Rattle.std.proofs.lemmas.List.{take_more}
use Rattle.std.proofs.lemmas.List.Elements.{All-cons, All-head, All-tail, All-push, All-set, All-weaker, All-get_or}
use Rattle.cip_class3.specs.declared.target.Received.{Received}
use Rattle.cip_class3.specs.declared.target.Received.TheVariants.{Dropped, Repeated, Executed}
use Rattle.cip_class3.specs.TargetRule.{TargetState}
use Rattle.cip_manager.specs.declared.connection.Connection.{Connection}
use Rattle.cip_manager.specs.Connection.{is_open_at, moment_after, after_item, earliest_deadline}
use Rattle.cip_manager.specs.Table.{AreOpenUntil}

abbrev EndsFrom : ℕ → Connection → Type 0
EndsFrom moment connection = moment ≤ connection.deadline

-- before the moment none is overdue
pub none-overdue : (now moment : ℕ) (connections : List Connection) → now < moment → AreOpenUntil moment connections → filter (is_open_at now) connections ≡ connections
none-overdue now moment [] h until = refl
none-overdue now moment (c ∷ cs) h until =
    let here : moment ≤ c.deadline = All-head (EndsFrom moment) c cs until in
    ap (λ b. cond b (c ∷ filter (is_open_at now) cs) (filter (is_open_at now) cs)) (lt-ltb now c.deadline (omega arith))
    ∙ ap (λ xs. c ∷ xs) (none-overdue now moment cs h (All-tail (EndsFrom moment) c cs until))

-- an earlier moment is a lower bound too
pub AreOpenUntil-earlier : (earlier moment : ℕ) (connections : List Connection) → earlier ≤ moment → AreOpenUntil moment connections → AreOpenUntil earlier connections
AreOpenUntil-earlier earlier moment connections h until =
    All-weaker (EndsFrom moment) (EndsFrom earlier) (λ c k. omega (arith, h, k)) connections until

-- with one more connection
pub AreOpenUntil-push : (earlier moment : ℕ) (connections : List Connection) (last : Connection) → earlier ≤ moment → earlier ≤ last.deadline
    → AreOpenUntil moment connections → AreOpenUntil earlier (connections ++ last ∷ [])
AreOpenUntil-push earlier moment connections last h k until =
    All-push (EndsFrom earlier) connections last (AreOpenUntil-earlier earlier moment connections h until) k

-- with another connection at a position
pub AreOpenUntil-set : (earlier moment : ℕ) (connections : List Connection) (i : ℕ) (new : Connection) → earlier ≤ moment → earlier ≤ new.deadline
    → AreOpenUntil moment connections → AreOpenUntil earlier (set connections i new)
AreOpenUntil-set earlier moment connections i new h k until =
    All-set (EndsFrom earlier) connections i new k (AreOpenUntil-earlier earlier moment connections h until)

-- without a connection
pub AreOpenUntil-remove : (moment : ℕ) (connections : List Connection) (i : ℕ) → AreOpenUntil moment connections → AreOpenUntil moment (remove connections i)
AreOpenUntil-remove moment [] zero until = until
AreOpenUntil-remove moment [] (suc i) until = until
AreOpenUntil-remove moment (c ∷ cs) zero until = All-tail (EndsFrom moment) c cs until
AreOpenUntil-remove moment (c ∷ cs) (suc i) until =
    All-cons (EndsFrom moment) c (remove cs i) (All-head (EndsFrom moment) c cs until)
    (AreOpenUntil-remove moment cs i (All-tail (EndsFrom moment) c cs until))

-- after a connection received an item, for a bound that is not after the deadline that it would have if the item is
-- answered
pub AreOpenUntil-received : (earlier moment now : ℕ) (connections : List Connection) (i : ℕ) (old : Connection) (received : Received) (target : TargetState)
    → i < length connections → get_or connections i old ≡ old → earlier ≤ moment → earlier ≤ moment_after now old.timeout
    → AreOpenUntil moment connections → AreOpenUntil earlier (set connections i (after_item now received target old))
AreOpenUntil-received earlier moment now connections i old received target within here h k until =
    let before : moment ≤ old.deadline = subst (EndsFrom moment) here (All-get_or (EndsFrom moment) connections i old within until) in
    AreOpenUntil-set earlier moment connections i (after_item now received target old) h (go before received) until
  where
    go : moment ≤ old.deadline → (r : Received) → earlier ≤ (after_item now r target old).deadline
    go before Dropped = omega (arith, h, before)
    go before Repeated = k
    go before Executed = k

-- the earliest deadline, with one more connection after the others
pub earliest_deadline-push : (connections : List Connection) (last : Connection)
    → earliest_deadline (connections ++ last ∷ []) ≡ Some (min last.deadline (unwrap_or (earliest_deadline connections) last.deadline))
earliest_deadline-push [] last = refl
earliest_deadline-push (c ∷ cs) last =
    ap (λ e. Some (min c.deadline (unwrap_or e c.deadline))) (earliest_deadline-push cs last)
    ∙ ap Some (turned (earliest_deadline cs))
  where
    turned : (e : Option ℕ) → min c.deadline (min last.deadline (unwrap_or e last.deadline)) ≡ min last.deadline (min c.deadline (unwrap_or e c.deadline))
    turned None = omega arith
    turned (Some m) = omega arith

-- the earliest deadline up to a position, by the earliest before it
pub earliest_deadline-more : (connections : List Connection) (i : ℕ) (here : Connection) (before : Option ℕ) (moment : ℕ)
    → i < length connections → here ≡ get_or connections i here → before ≡ earliest_deadline (take i connections)
    → moment ≡ min here.deadline (unwrap_or before here.deadline) → Some moment ≡ earliest_deadline (take (i + 1) connections)
earliest_deadline-more connections i here before moment within there is said =
    ap Some (said ∙ ap (λ e. min here.deadline (unwrap_or e here.deadline)) is)
    ∙ sym (earliest_deadline-push (take i connections) here)
    ∙ ap (λ c. earliest_deadline (take i connections ++ c ∷ [])) there
    ∙ ap earliest_deadline (sym (take_more connections i here within))

-- none of these ends before the earliest deadline. If there are none, any moment is a bound
pub AreOpenUntil-earliest : (moment : ℕ) (connections : List Connection) → AreOpenUntil (unwrap_or (earliest_deadline connections) moment) connections
AreOpenUntil-earliest moment [] = λ k d h. omega (arith, h)
AreOpenUntil-earliest moment (c ∷ cs) =
    let m = min c.deadline (unwrap_or (earliest_deadline cs) c.deadline) in
    All-cons (EndsFrom m) c cs (omega arith)
    (AreOpenUntil-earlier m (unwrap_or (earliest_deadline cs) c.deadline) cs (omega arith) (AreOpenUntil-earliest c.deadline cs))

abbrev EndsAt : ℕ → Connection → Type 0
EndsAt moment connection = connection.deadline ≡ moment

-- the earliest deadline is that of one of these
pub earliest_deadline-of : (connections : List Connection)
    → MatchOption (earliest_deadline connections) (connections ≡ []) (λ moment. Any (EndsAt moment) connections × AreOpenUntil moment connections)
earliest_deadline-of [] = refl
earliest_deadline-of (c ∷ cs) = (first (earliest_deadline cs) (earliest_deadline-of cs), AreOpenUntil-earliest 0 (c ∷ cs))
  where
    either : (moment : ℕ) → Any (EndsAt moment) cs → (moment < c.deadline) ⊎ (c.deadline ≤ moment) → Any (EndsAt (min c.deadline moment)) (c ∷ cs)
    either moment (k, x, within, there, ends) (inl before) = (suc k, x, omega (arith, within), there, omega (arith, ends, before))
    either moment later (inr from) = (zero, c, omega arith, refl, omega (arith, from))

    first : (behind : Option ℕ) → MatchOption behind (cs ≡ []) (λ moment. Any (EndsAt moment) cs × AreOpenUntil moment cs)
        → Any (EndsAt (min c.deadline (unwrap_or behind c.deadline))) (c ∷ cs)
    first None none = (zero, c, omega arith, refl, omega arith)
    first (Some moment) one = either moment one.0 (cases_lt moment c.deadline)
