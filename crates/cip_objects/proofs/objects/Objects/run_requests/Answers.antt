use Rattle.std.proofs.Common.{◌≡◌, ◌≤◌, ◌+◌, ◌-◌, ◌*◌, ◌∙◌, length, ap, sym, subst, arith, length-append}
use Rattle.cip_bytes.specs.Numbers.{le}
use Rattle.cip_objects.specs.ExecutionLaws.{exec_begins}
use Rattle.cip_objects.specs.Packets.{LEAST_ROOM, run_packet, AreLong, numbers_size}
use Rattle.cip_objects.specs.PacketReplies.{seen, pushed, all_pushed}
use Rattle.cip_objects.proofs.PacketSteps.{step}
use Rattle.cip_objects.proofs.objects.Objects.run_requests.Goals as goal

pub push-requires-clause-head : goal.push-requires-clause-head
push-requires-clause-head c =
    subst (λ r. 4 ≤ length r) (sym (c.as_slice.ensures.value ∙ c.execute_one.ensures.reply))
    (exec_begins c.loop-request.self (c.loop-request.left - LEAST_ROOM * (c.loop-request.later - 1)) c.in-Some.request.now).head

pub loop-request-preserved : goal.loop-request-preserved
loop-request-preserved c =
    let invariant = c.loop-request.invariant in
    let rest = c.next.new.self in
    let answer = c.execute_one.new.reply.items in
    let later : c.loop-request.later - 1 ≡ length rest = omega (arith, invariant.later, ap length c.in-Some.ensures.steps) in
    let left = run_packet c.execute_one.new.self (c.loop-request.left - c.len-left.result) rest in
    let went =
    step c.loop-request.self c.execute_one.new.self c.loop-request.left c.len-left.result (c.loop-request.later - 1) c.in-Some.request.now answer
    c.loop-request.request-iterator rest c.in-Some.ensures.steps later c.execute_one.ensures.state c.execute_one.ensures.reply c.len-left.ensures.value in
    let push = c.push.ensures ∙ ap (pushed (seen c.loop-request.replies)) c.as_slice.ensures.value in
    let offset = numbers_size c.loop-request.replies.count + length c.loop-request.replies.replies.items in
    record {
      state = went.after ∙ invariant.state;
      gathered = ap (λ g. all_pushed g left.answers) push
          ∙ ap (all_pushed (seen c.loop-request.replies)) (sym went.answers) ∙ invariant.gathered;
      later = later;
      long = (subst AreLong c.in-Some.ensures.steps invariant.long).1;
      room = omega (arith, c.execute_one.ensures.fits, c.len-left.ensures.value, invariant.room);
      count = ap (λ g. g.count) push ∙ invariant.count;
      offsets = omega (arith, ap (λ g. length g.offsets) push, length-append c.loop-request.replies.offsets.items (le 2 offset), invariant.offsets, invariant.later, ap length c.in-Some.ensures.steps);
      replies = omega (arith, ap (λ g. length g.replies) push, length-append c.loop-request.replies.replies.items answer, invariant.replies, c.len-left.ensures.value, c.execute_one.ensures.fits, invariant.room);
    }
