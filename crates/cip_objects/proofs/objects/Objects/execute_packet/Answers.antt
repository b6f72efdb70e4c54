use Rattle.std.proofs.Common.{◌≡◌, ℕ, true, not, Option, Some, None, option_map, List, [], slice_index, Result, refl, sym, ap, ◌∙◌}
use Rattle.std.specs.Prelude.{is_some}
use Rattle.cip_objects.specs.declared.status.Refusal.{Refusal}
use Rattle.cip_objects.specs.Contents.{Contents}
use Rattle.cip_objects.specs.Execution.{or_refusal, reply_to}
use Rattle.cip_objects.specs.ObjectRef.{services_at}
use Rattle.cip_objects.specs.PacketLaws.{routed_if, exec_routed_plain, without_router}
use Rattle.cip_objects.specs.PacketRuns.{packet_result, packet_outcome}
use Rattle.cip_objects.specs.Packets.{packet_of, has_router, routed_by, exec_routed}
use Rattle.cip_objects.specs.Tables.{services_of}
use Rattle.cip_objects.proofs.objects.Objects.execute_packet.Goals as goal

is_some_map : {A B : Type 0} (f : A → B) (o : Option A) → is_some (option_map f o) ≡ is_some o
is_some_map f None = refl
is_some_map f (Some x) = refl

pub returns-in_default : goal.returns-in_default
returns-in_default c =
    (refl, refl, exec_routed_plain c.args.self.now c.args.max_size c.args.request.now (sym c.packet_data.ensures ∙ ap (option_map (λ content. content.now)) c.in_default.is))

pub returns-then-is_none : goal.returns-then-is_none
returns-then-is_none c = (
  refl,
  refl,
  without_router c.args.self.now c.args.max_size c.args.request.now
      (ap is_some (sym c.object.ensures.services) ∙ is_some_map _ c.object.result ∙ c.is_none.ensures ∙ ap not c.if-is_none.true),
)

-- a packet of a device with the Message Router
routed : (m : Contents) (max_size : ℕ) (text content : List ℕ) → packet_of text ≡ Some content → has_router m.shapes ≡ true
    → exec_routed m max_size text ≡ or_refusal m text (packet_outcome m max_size (slice_index text 0) content)
unfolding exec_routed
routed m max_size text content e router =
    ap (routed_by m max_size text) e ∙ ap (λ t. routed_if t m max_size text content) router

-- what a call leaves that returned this
returned : (m n : Contents) (max_size : ℕ) (text content answer : List ℕ) (r : Result (Unit {0}) Refusal) → packet_of text ≡ Some content
    → has_router m.shapes ≡ true → packet_result n r answer ≡ packet_outcome m max_size (slice_index text 0) content
    → exec_routed m max_size text ≡ or_refusal m text (packet_result n r answer)
returned m n max_size text content answer r e router is =
    routed m max_size text content e router ∙ ap (or_refusal m text) (sym is)

router : (m : Contents) (o : Option _) → option_map (services_at m.shapes) o ≡ services_of m.shapes 2 1 → is_some o ≡ true → has_router m.shapes ≡ true
router m o services there = ap is_some (sym services) ∙ is_some_map (services_at m.shapes) o ∙ there

pub returns-in_default-run_packet : goal.returns-in_default-run_packet
returns-in_default-run_packet c =
    let m = c.args.self.now in
    let packet = sym c.packet_data.ensures ∙ ap (option_map (λ content. content.now)) c.in-Some.is in
    let there = router m c.object.result c.object.ensures.services c.if-is_none.ensures in
    let is = returned m c.run_packet.new.self c.args.max_size c.args.request.now c.in-Some.data.now c.run_packet.new.reply.items c.run_packet.result packet there c.run_packet.ensures.ran
    ∙ ap (λ r. or_refusal m c.args.request.now (packet_result c.run_packet.new.self r c.run_packet.new.reply.items)) c.in_default-run_packet.is in
    (sym (ap (λ x. x.after) is), sym (ap (λ x. x.answer) is))

pub returns-in-Err : goal.returns-in-Err
returns-in-Err c =
    let m = c.args.self.now in
    let packet = sym c.packet_data.ensures ∙ ap (option_map (λ content. content.now)) c.in-Some.is in
    let there = router m c.object.result c.object.ensures.services c.if-is_none.ensures in
    let is = returned m c.run_packet.new.self c.args.max_size c.args.request.now c.in-Some.data.now c.run_packet.new.reply.items c.run_packet.result packet there c.run_packet.ensures.ran
    ∙ ap (λ r. or_refusal m c.args.request.now (packet_result c.run_packet.new.self r c.run_packet.new.reply.items)) c.in-Err.is in
    (c.in-Err.ensures.err ∙ sym (ap (λ x. x.after) is), c.begin.ensures ∙ ap (λ s. reply_to c.args.request.now s []) c.status.ensures ∙ sym (ap (λ x. x.answer) is))
