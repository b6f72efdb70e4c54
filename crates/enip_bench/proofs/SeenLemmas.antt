-- A tracked world shows the same as a numbered world and as an item world.
use Rattle.std.proofs.Common.{◌≡◌, ℕ, zero, suc, ◌-◌, ◌≤◌, Bool, true, false, cond, ◌||◌, ◌==◌, List, [], ◌∷◌, ◌++◌, map, refl, ap, ap₂, sym, ◌∙◌, arith, eqb-true, eq-eqb}
use Rattle.std.proofs.lemmas.Bool.{or_parts, cond-true, cond-false}
use Rattle.std.proofs.lemmas.Option.{get_or_from_slice_get}
use Rattle.cip_class3.specs.Item.{item}
use Rattle.cip_class3.specs.OriginatorRule as originator_rule
use Rattle.cip_bytes.specs.declared.protocol.TheConstants.{UNCONNECTED_LIMIT}
use Rattle.enip_adapter.specs.OwnWrites.{OwnWrite}
use Rattle.enip_bench.specs.ItemWorld.{items_seen}
use Rattle.enip_bench.specs.NumberedWorld.{Entry, OwnRequest, OtherRequest, DeviceWrite, stands, stage_of, request_of, after_entry, router_after, reply_to, numbers_seen}
use Rattle.enip_bench.specs.Seen.{Seen}
use Rattle.enip_bench.proofs.CountLemmas.{count_of}
use Rattle.enip_bench.proofs.Image.{phase_of, router_of, reply_of, answer_of, acceptance_of, image}
use Rattle.enip_bench.proofs.LogLemmas.{next_logged, Falls, AreSubmitted, not_logged}
use Rattle.enip_bench.proofs.Plain.{number_of, entries_of, progress_of, plain}
use Rattle.enip_bench.proofs.PlainLemmas.{stands-logged}
use Rattle.enip_bench.proofs.PositionLemmas.{Each}
use Rattle.enip_bench.proofs.Soundness.{IsSound}
use Rattle.enip_bench.proofs.TrackedWorld.{Own, Logged, OwnLogged, OtherLogged, WriteLogged, Course, Resting, Awaiting, Abandoned, is_logged, TrackedWorld}

same_seen : {M : Type 0} (a b : Seen M) → a.router ≡ b.router → a.back ≡ b.back → a.accepted ≡ b.accepted → a.stage
    ≡ b.stage → a ≡ b
same_seen a b router back accepted stage =
    λ i. record { router = router i; back = back i; accepted = accepted i; stage = stage i }

pub map-map : {X Y Z : Type 0} (f : X → Y) (g : Y → Z) (h : X → Z) (xs : List X) → Each (λ x. g (f x) ≡ h x) xs →
    map g (map f xs) ≡ map h xs
map-map f g h [] same = refl
map-map f g h (x ∷ xs) same = ap₂ (λ y ys. y ∷ ys) (same zero x refl) (map-map f g h xs (λ i y e. same (suc i) y e))

cond-same : {A : Type 0} (b : Bool) (x y z : A) → (b ≡ false → y ≡ z) → cond b x y ≡ cond b x z
cond-same true x y z same = refl
cond-same false x y z same = same refl

pub or_rest : (a b : Bool) → (a || b) ≡ true → a ≡ false → b ≡ true
or_rest true b e f = absurd (cc)
or_rest false b e f = e

stage-same : (first : ℕ) (course : Course) → originator_rule.stage_of (phase_of first course)
    ≡ stage_of (progress_of course)
stage-same first Resting = refl
stage-same first (Awaiting own) = refl
stage-same first Abandoned = refl

module _ {M : Type 0} (after : M → ℕ → List ℕ → M) (answer : M → ℕ → List ℕ → List ℕ)
    (written : OwnWrite → M → M) (t_to_o_size : ℕ)
    (submits : List (List ℕ)) where
  abbrev router_by : M → List Entry → M
  router_by router log = router_after after answer written t_to_o_size submits router log

  abbrev reply_by : M → List Entry → ℕ → List ℕ
  reply_by router log number = reply_to after answer written t_to_o_size submits router log number

  -- a run can also be split at its last entry
  pub router_after-push : (router : M) (log : List Entry) (entry : Entry) →
      router_by router (log ++ entry ∷ [])
      ≡ after_entry after answer written t_to_o_size submits (router_by router log) entry
  router_after-push router [] entry = refl
  router_after-push router (before ∷ log) entry =
      router_after-push (after_entry after answer written t_to_o_size submits router before) log entry

  -- a number in the log keeps its reply
  pub reply_to-kept : (router : M) (log : List Entry) (entry : Entry) (number : ℕ) → stands number log ≡ true →
      reply_by router (log ++ entry ∷ []) number ≡ reply_by router log number
  reply_to-kept router [] entry number is = absurd (cc)
  reply_to-kept router (OwnRequest own ∷ log) entry number is =
      let next : M = after router (t_to_o_size - 2) (request_of submits own) in
      cond-same (own == number) (answer router (t_to_o_size - 2) (request_of submits own))
      (reply_by next (log ++ entry ∷ []) number)
      (reply_by next log number) (λ e. reply_to-kept next log entry number
      (or_rest (own == number) (stands number log) is e))
  reply_to-kept router (OtherRequest request ∷ log) entry number is =
      reply_to-kept (after router UNCONNECTED_LIMIT request) log entry number is
  reply_to-kept router (DeviceWrite write ∷ log) entry number is =
      reply_to-kept (written write router) log entry number is

  -- and a new one gets its reply now
  pub reply_to-new : (router : M) (log : List Entry) (own number : ℕ) → stands number log ≡ false → own ≡ number →
      reply_by router (log ++ OwnRequest own ∷ []) number
      ≡ answer (router_by router log) (t_to_o_size - 2) (request_of submits own)
  reply_to-new router [] own number is same =
      cond-true (own == number) (answer router (t_to_o_size - 2) (request_of submits own)) [] (eq-eqb own number same)
  reply_to-new router (OwnRequest before ∷ log) own number is same =
      let parts = or_parts (before == number) (stands number log) is in
      let next : M = after router (t_to_o_size - 2) (request_of submits before) in
      cond-false (before == number) (answer router (t_to_o_size - 2) (request_of submits before))
      (reply_by next (log ++ OwnRequest own ∷ []) number) parts.0
      ∙ reply_to-new next log own number parts.1 same
  reply_to-new router (OtherRequest request ∷ log) own number is same =
      reply_to-new (after router UNCONNECTED_LIMIT request) log own number is same
  reply_to-new router (DeviceWrite write ∷ log) own number is same =
      reply_to-new (written write router) log own number is same

module _ {M : Type 0} (after : M → ℕ → List ℕ → M) (answer : M → ℕ → List ℕ → List ℕ)
    (written : OwnWrite → M → M) (first t_to_o_size : ℕ)
    (start : M)
    (submits : List (List ℕ)) where
  abbrev runs : List Entry → M
  runs log = router_after after answer written t_to_o_size submits start log

  abbrev replies : List Entry → ℕ → List ℕ
  replies log number = reply_to after answer written t_to_o_size submits start log number

  abbrev router : List Logged → M
  router log = router_of after answer written first t_to_o_size start log

  abbrev reply : List Logged → ℕ → List ℕ
  reply log number = reply_of after answer written first t_to_o_size start log number

  pub router-same : (log : List Logged) → AreSubmitted submits log → runs (entries_of log) ≡ router log
  router-same [] are = refl
  router-same (OwnLogged own ∷ log) are =
      router_after-push after answer written t_to_o_size submits start (entries_of log) (OwnRequest own.number)
      ∙ ap₂ (λ m q. after m (t_to_o_size - 2) q) (router-same log are.1)
      (get_or_from_slice_get submits own.number own.request [] are.0)
  router-same (OtherLogged request ∷ log) are =
      router_after-push after answer written t_to_o_size submits start (entries_of log) (OtherRequest request)
      ∙ ap (λ m. after m UNCONNECTED_LIMIT request) (router-same log are)
  router-same (WriteLogged write ∷ log) are =
      router_after-push after answer written t_to_o_size submits start (entries_of log) (DeviceWrite write)
      ∙ ap (written write) (router-same log are)

  reply-by_test : (own : Own) (log : List Logged) (number : ℕ) (is : Bool) → (own.number == number) ≡ is →
      (next_logged log ≤ own.number) × Falls log → AreSubmitted submits (OwnLogged own ∷ log) →
      (is || is_logged number log) ≡ true →
      (is_logged number log ≡ true → replies (entries_of log) number ≡ reply log number) →
      replies (entries_of log ++ OwnRequest own.number ∷ []) number
      ≡ cond is (answer (router log) (t_to_o_size - 2) own.request) (reply log number)
  reply-by_test own log number true e falls are is before =
      let same : own.number ≡ number = eqb-true own.number number e in
      let above : next_logged log ≤ number = omega (arith, falls.0) in
      reply_to-new after answer written t_to_o_size submits start (entries_of log) own.number number
      (stands-logged log number ∙ not_logged log number falls.1 above) same
      ∙ ap₂ (λ m q. answer m (t_to_o_size - 2) q) (router-same log are.1)
      (get_or_from_slice_get submits own.number own.request [] are.0)
  reply-by_test own log number false e falls are is before =
      reply_to-kept after answer written t_to_o_size submits start (entries_of log) (OwnRequest own.number) number
      (stands-logged log number ∙ is)
      ∙ before is

  reply-same : (log : List Logged) (number : ℕ) → Falls log → AreSubmitted submits log → is_logged number log ≡ true →
      replies (entries_of log) number ≡ reply log number
  reply-same [] number falls are is = absurd (cc)
  reply-same (OwnLogged own ∷ log) number falls are is =
      reply-by_test own log number (own.number == number) refl falls are is (reply-same log number falls.1 are.1)
  reply-same (OtherLogged request ∷ log) number falls are is =
      reply_to-kept after answer written t_to_o_size submits start (entries_of log) (OtherRequest request) number
      (stands-logged log number ∙ is)
      ∙ reply-same log number falls are is
  reply-same (WriteLogged write ∷ log) number falls are is =
      reply_to-kept after answer written t_to_o_size submits start (entries_of log) (DeviceWrite write) number
      (stands-logged log number ∙ is)
      ∙ reply-same log number falls are is

module _ {M : Type 0} (after : M → ℕ → List ℕ → M) (answer : M → ℕ → List ℕ → List ℕ)
    (written : OwnWrite → M → M) (first o_to_t_size t_to_o_size : ℕ) (start : M) where
  pub seen_same : (world : TrackedWorld) → IsSound o_to_t_size world →
      items_seen (image after answer written first t_to_o_size start o_to_t_size world)
      ≡ numbers_seen after answer written first t_to_o_size start (plain world)
  seen_same world sound =
      let reply : ℕ → List ℕ = reply_to after answer written t_to_o_size world.submits start (entries_of world.log) in
      let same = reply-same after answer written first t_to_o_size start world.submits world.log in
      same_seen (items_seen (image after answer written first t_to_o_size start o_to_t_size world))
      (numbers_seen after answer written first t_to_o_size start (plain world))
      (sym (router-same after answer written first t_to_o_size start world.submits world.log sound.log.submitted))
      (sym (map-map number_of (λ number. item (count_of first number) (reply number))
      (answer_of after answer written first t_to_o_size start world.log) world.back
      (λ i x e. ap (item (count_of first x.number))
      (same x.number sound.log.falls sound.log.submitted (sound.back.logged i x e)))))
      (sym (map-map number_of (λ number. (number, reply number))
      (acceptance_of after answer written first t_to_o_size start world.log) world.accepted
      (λ i x e. ap (λ (r : List ℕ). (x.number, r))
      (same x.number sound.log.falls sound.log.submitted (sound.accepted.logged i x e)))))
      (stage-same first world.course)
