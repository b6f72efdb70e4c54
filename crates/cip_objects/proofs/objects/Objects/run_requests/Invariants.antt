use Rattle.std.proofs.Common.{◌≡◌, ◌≤◌, ◌+◌, ◌*◌, length}
use Rattle.cip_objects.specs.Packets.{run_packet, LEAST_ROOM, AreLong}
use Rattle.cip_objects.specs.PacketReplies.{seen, none_of, all_pushed}
use Rattle.cip_objects.proofs.objects.Objects.run_requests.Given as goal

abbrev pub invariant-loop-request : goal.invariant-loop-request
invariant-loop-request l = record {
  state : (run_packet l.self l.left l.request-iterator).after ≡ (run_packet l.fn.self l.room l.fn.requests).after;
  gathered : all_pushed (seen l.replies) (run_packet l.self l.left l.request-iterator).answers
      ≡ all_pushed (none_of l.count) (run_packet l.fn.self l.room l.fn.requests).answers;
  later : l.later ≡ length l.request-iterator;
  long : AreLong l.request-iterator;
  room : LEAST_ROOM * l.later ≤ l.left;
  count : l.replies.count ≡ l.count;
  offsets : length l.replies.offsets.items + 2 * l.later ≡ 2 * l.count;
  replies : length l.replies.replies.items + l.left ≡ l.room;
}
