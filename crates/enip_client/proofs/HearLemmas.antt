-- What was found in a frame is what the turn hears.
use Rattle.std.proofs.Common.{◌≡◌, ℕ, ◌+◌, ◌≤◌, ◌==◌, Bool, true, false, List, [], ◌∷◌, length, take, drop, ap, ◌∙◌}
use Rattle.std.proofs.Common.{sym, subst, arith, refl, Option, Some, None, Ok, if◌then◌else◌}
use Rattle.std.proofs.lemmas.Bool.Decides.{nat_tests}
use Rattle.std.proofs.lemmas.List.{drop-take, drop-drop}
use Rattle.cip_class3.specs.Item.{message_of}
use Rattle.cip_class3.specs.OriginatorRule.{OriginatorState, Phase, Idle, Waiting, GivenUp, is_reply, accepted_reply}
use Rattle.cip_class3.specs.OriginatorRule.{after_item}
use Rattle.enip_wire.specs.Frames.{Frame, frame}
use Rattle.enip_wire.specs.Bodies.{unit_body_of}
use Rattle.enip_client.specs.declared.hearing.Found.TheVariants as founds
use Rattle.enip_client.specs.declared.state.State.{State}
use Rattle.enip_client.specs.Client.{LiesAt, IsHeard}
use Rattle.enip_client.specs.Hears.{Answer, answered, reply_turn, routed_turn, is_for_connection, other_turn}
use Rattle.enip_client.specs.Hears.HeardEvent.{Replied, Accepted}
use Rattle.enip_client.proofs.PlaceLemmas.{frame_place}

pub reply_heard : (s : State) (f : Frame) (a : Answer) (found : Option Answer) → found ≡ Some a
    → LiesAt 16 a.bytes f.body
    → length f.header.context ≡ 8 → IsHeard f (answered s) (founds.Reply 40 (40 + length a.bytes)) (reply_turn s found)
reply_heard s f a found is at eight =
    let p : LiesAt 40 a.bytes (frame f) = frame_place f 16 a.bytes eight at in
    subst (λ x. IsHeard f (answered s) (founds.Reply 40 (40 + length a.bytes)) (reply_turn s x)) (sym is) (record {
      state = refl;
      heard_event = ap Replied p.1;
      within = (omega arith, p.0);
    })

-- The device's own reply to a request over a route.
pub routed_heard : (s : State) (f : Frame) (a : Answer) (found other : Option Answer) → found ≡ Some a
    → LiesAt 16 a.bytes f.body
    → length f.header.context ≡ 8
    → IsHeard f (answered s) (founds.Reply 40 (40 + length a.bytes)) (routed_turn s found other)
routed_heard s f a found other is at eight =
    subst (λ x. IsHeard f (answered s) (founds.Reply 40 (40 + length a.bytes)) (routed_turn s x other)) (sym is)
    (reply_heard s f a (Some a) refl at eight)

reply_long : (size : ℕ) (phase : Phase) (item : List ℕ) → is_reply size phase item ≡ true → 6 ≤ length item
reply_long size Idle item so = grind (arith, nat_tests)
reply_long size GivenUp item so = grind (arith, nat_tests)
reply_long size (Waiting count request) item so = grind (arith, nat_tests)

accepted_by : (b : Bool) (item reply : List ℕ) → (if b then Some (message_of item) else None) ≡ Some reply
    → (b ≡ true) × (reply ≡ message_of item)
accepted_by true item reply is = (refl, grind arith)
accepted_by false item reply is = grind arith

pub accepted_long : (o : OriginatorState) (item reply : List ℕ) → accepted_reply o item ≡ Some reply
    → (6 ≤ length item) × (reply ≡ message_of item)
accepted_long o item reply is =
    let by : (is_reply o.t_to_o_size o.phase item ≡ true) × (reply ≡ message_of item)
    = accepted_by (is_reply o.t_to_o_size o.phase item) item reply is in
    (reply_long o.t_to_o_size o.phase item by.0, by.1)

-- the bytes after the first two
pub second : (place : ℕ) (item rest text : List ℕ) → LiesAt place item text → 2 ≤ length item → rest ≡ drop 2 item
    → LiesAt (place + 2) rest text
second place [] rest text at two is = absurd (omega (arith, two))
second place (x ∷ []) rest text at two is = absurd (omega (arith, two))
second place (x ∷ y ∷ more) rest text at two is =
    let shorter : length rest ≡ length more = ap length is in (
      omega (arith, at.0, shorter),
      ap (λ n. take n (drop (place + 2) text)) (omega (arith, shorter))
          ∙ ap (take (length more)) (sym (drop-drop 2 place text)) ∙ sym (drop-take 2 (length more) (drop place text))
          ∙ ap (λ n. drop 2 (take n (drop place text))) (omega arith) ∙ ap (drop 2) at.1 ∙ sym is,
    )

pub item_heard : (s : State) (f : Frame) (id : ℕ) (item reply : List ℕ) → is_for_connection s f.header ≡ true
    → unit_body_of f.body ≡ Ok (id, item) → (id == s.wants.t_to_o_id) ≡ true
    → accepted_reply s.originator item ≡ Some reply
    → LiesAt 20 item f.body → length f.header.context ≡ 8
    → IsHeard f (record s { originator = after_item s.originator item }) (founds.Accepted 46 (46 + length reply))
    (other_turn s f)
item_heard s f id item reply for is same came at eight =
    let long : (6 ≤ length item) × (reply ≡ message_of item) = accepted_long s.originator item reply came in
    let p : LiesAt 46 reply (frame f)
    = frame_place f 22 reply eight (second 20 item reply f.body at (omega (arith, long.0)) long.1) in
    rw (for, is, same, came) (record {
      state = refl;
      heard_event = ap Accepted p.1;
      within = (omega arith, p.0);
    })
