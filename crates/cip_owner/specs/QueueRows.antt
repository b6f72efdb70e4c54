-- Worked examples: a queue for two commands of a conveyor, their results, and the replies to the requests.
use Rattle.std.specs.Prelude.{◌≡◌, ℕ, List, [], ◌∷◌, length, replicate, Some, None, true, false, refl}
use Rattle.cip_application.specs.declared.config.ServiceKind.TheVariants as kinds
use Rattle.cip_objects.specs.OwnRequests.{Asked}
use Rattle.cip_owner.specs.Owned.{OwnedState, queued, result_answer}
use Rattle.cip_owner.specs.Queue.{QueueState, QueuedCommand, QueueResult, Pending, Done, Unknown, empty_queue}
use Rattle.cip_owner.specs.Queue.{next_ticket, after_push, finished, with_result, outcome_of}
use Rattle.cip_owner.specs.Queue.{has_widths, restored_waiting, restored_result, marked, with_handed, handed_commands}
use Rattle.cip_owner.specs.Replies.{Reply}

-- A request of the queued service 0x33 of instance 1 of class 768, with 4 bytes of data and up to 4 of the reply.
abbrev pub move : Asked
move = record {
  class = 768;
  instance = 1;
  service = 0x33;
  attribute = None;
  content = 5 ∷ 0 ∷ 0 ∷ 0 ∷ [];
  reply_limit = 4;
  kind = kinds.Queued;
}

-- The command that it is under a ticket.
abbrev pub moving : ℕ → QueuedCommand
moving ticket = record {
  ticket = ticket;
  class = 768;
  instance = 1;
  service = 0x33;
  content = 5 ∷ 0 ∷ 0 ∷ 0 ∷ [];
  reply_limit = 4;
}

abbrev pub done : ℕ → ℕ → List ℕ → QueueResult
done ticket status content =
    record { ticket = ticket; class = 768; instance = 1; status = status; content = content }

abbrev pub reply : ℕ → List ℕ → Reply
reply status content = record { status = status; content = content }

abbrev pub queue_of : ℕ → List QueuedCommand → List QueueResult → QueueState
queue_of next waiting results = record { limit = 2; next = next; handed = 0; waiting = waiting; results = results }

-- Two commands get the tickets 1 and 2. There is no room for a third.
pub first_pushed : after_push (empty_queue 2) move ≡ queue_of 2 (moving 1 ∷ []) []
first_pushed = refl

abbrev pub full : QueueState
full = queue_of 3 (moving 1 ∷ moving 2 ∷ []) []

pub second_pushed : after_push (queue_of 2 (moving 1 ∷ []) []) move ≡ full
second_pushed = refl

pub third_refused : after_push full move ≡ full
third_refused = refl

pub no_third_ticket : next_ticket full move ≡ None
no_third_ticket = refl

-- The last ticket is 2^32 - 1.
pub last_ticket : next_ticket (queue_of 0xffff_ffff [] []) move ≡ Some 0xffff_ffff
last_ticket = refl

pub no_more_tickets : next_ticket (queue_of 0x1_0000_0000 [] []) move ≡ None
no_more_tickets = refl

-- A request whose reply may have 477 bytes cannot be queued.
pub longest_reply : has_widths (record move { reply_limit = 476 }) ≡ true
longest_reply = refl

pub reply_too_long : has_widths (record move { reply_limit = 477 }) ≡ false
reply_too_long = refl

-- The owner finishes the second command, in any order. It does not wait any more, and there is room for a third.
abbrev pub second_done : QueueState
second_done = queue_of 3 (moving 1 ∷ []) (done 2 0 (9 ∷ []) ∷ [])

pub second_finished : finished full 2 (reply 0 (9 ∷ [])) ≡ Some second_done
second_finished = refl

pub third_pushed : after_push second_done move ≡ queue_of 4 (moving 1 ∷ moving 3 ∷ []) (done 2 0 (9 ∷ []) ∷ [])
third_pushed = refl

-- A command is finished once, with a reply that the service allows, of any status but 0x11.
pub finished_twice : finished second_done 2 (reply 0 []) ≡ None
finished_twice = refl

pub finished_unknown : finished full 3 (reply 0 []) ≡ None
finished_unknown = refl

pub finished_longest : finished (queue_of 2 (moving 1 ∷ []) []) 1 (reply 255 (1 ∷ 2 ∷ 3 ∷ 4 ∷ [])) ≡
    Some (queue_of 2 [] (done 1 255 (1 ∷ 2 ∷ 3 ∷ 4 ∷ []) ∷ []))
finished_longest = refl

pub finished_too_long : finished full 1 (reply 0 (1 ∷ 2 ∷ 3 ∷ 4 ∷ 5 ∷ [])) ≡ None
finished_too_long = refl

pub finished_too_large : finished full 1 (reply 0x11 []) ≡ None
finished_too_large = refl

-- The second command is handed over, and so the first one is. The third is not. A ticket of nobody changes nothing.
abbrev pub three : QueueState
three = record full { limit = 3; next = 4; waiting = moving 1 ∷ moving 2 ∷ moving 3 ∷ [] }

pub second_marked : marked three 2 ≡ with_handed 2 three
second_marked = refl

pub handed_two : handed_commands (marked three 2) ≡ moving 1 ∷ moving 2 ∷ []
handed_two = refl

pub first_marked_later : marked (marked three 2) 1 ≡ with_handed 2 three
first_marked_later = refl

pub unknown_marked : marked three 4 ≡ three
unknown_marked = refl

pub none_handed : handed_commands three ≡ []
none_handed = refl

-- Get_Result: a command that waits, one that is done, another object's, and a ticket that nobody has.
pub pending : outcome_of second_done 1 768 1 ≡ Pending
pending = refl

pub finished_result : outcome_of second_done 2 768 1 ≡ Done (done 2 0 (9 ∷ []))
finished_result = refl

pub pending_of_another_class : outcome_of second_done 1 769 1 ≡ Unknown
pending_of_another_class = refl

pub pending_of_another_instance : outcome_of second_done 1 768 2 ≡ Unknown
pending_of_another_instance = refl

pub result_of_another_class : outcome_of second_done 2 769 1 ≡ Unknown
result_of_another_class = refl

pub result_of_another_instance : outcome_of second_done 2 768 2 ≡ Unknown
result_of_another_instance = refl

pub no_such_ticket : outcome_of second_done 3 768 1 ≡ Unknown
no_such_ticket = refl

-- Of 256 results the oldest is dropped.
abbrev pub many : List QueueResult
many = done 7 0 [] ∷ replicate 255 (done 8 0 [])

pub results_stay_256 : length (with_result many (done 9 0 [])) ≡ 256
results_stay_256 = refl

pub oldest_dropped : outcome_of (queue_of 10 [] (with_result many (done 9 0 []))) 7 768 1 ≡ Unknown
oldest_dropped = refl

pub newest_kept : outcome_of (queue_of 10 [] (with_result many (done 9 0 []))) 9 768 1 ≡ Done (done 9 0 [])
newest_kept = refl

-- The replies. Service 0x33 is answered by the ticket, and without room by 0x02.
pub ticket_answered : (w : OwnedState) → (queued w 0x33 move (Some (empty_queue 2))).answer ≡
    0xb3 ∷ 0 ∷ 0 ∷ 0 ∷ 1 ∷ 0 ∷ 0 ∷ 0 ∷ []
ticket_answered w = refl

pub full_answered : (w : OwnedState) → (queued w 0x33 move (Some full)).answer ≡ 0xb3 ∷ 0 ∷ 2 ∷ 0 ∷ []
full_answered w = refl

pub without_queue_answered : (w : OwnedState) → (queued w 0x33 move None).answer ≡ 0xb3 ∷ 0 ∷ 2 ∷ 0 ∷ []
without_queue_answered w = refl

-- Get_Result of ticket 1 and 2, with room for the reply and without, and of ticket 3.
abbrev pub get_result : List ℕ → Asked
get_result ticket = record {
  class = 768;
  instance = 1;
  service = 0x4e;
  attribute = None;
  content = ticket;
  reply_limit = 478;
  kind = kinds.Result;
}

pub pending_answered : result_answer 504 0x4e (get_result (1 ∷ 0 ∷ 0 ∷ 0 ∷ [])) (Some second_done) ≡
    0xce ∷ 0 ∷ 0 ∷ 0 ∷ 1 ∷ []
pending_answered = refl

pub done_answered : result_answer 7 0x4e (get_result (2 ∷ 0 ∷ 0 ∷ 0 ∷ [])) (Some second_done) ≡
    0xce ∷ 0 ∷ 0 ∷ 0 ∷ 0 ∷ 0 ∷ 9 ∷ []
done_answered = refl

pub done_without_room : result_answer 6 0x4e (get_result (2 ∷ 0 ∷ 0 ∷ 0 ∷ [])) (Some second_done) ≡
    0xce ∷ 0 ∷ 0x11 ∷ 0 ∷ []
done_without_room = refl

pub unknown_answered : result_answer 504 0x4e (get_result (3 ∷ 0 ∷ 0 ∷ 0 ∷ [])) (Some second_done) ≡
    0xce ∷ 0 ∷ 0x16 ∷ 0 ∷ []
unknown_answered = refl

pub no_queue_answered : result_answer 504 0x4e (get_result (1 ∷ 0 ∷ 0 ∷ 0 ∷ [])) None ≡ 0xce ∷ 0 ∷ 0x16 ∷ 0 ∷ []
no_queue_answered = refl

-- A queue that starts from what was kept takes as many commands as may wait, and results of at most 476 bytes.
pub waiting_restored : restored_waiting (moving 1) (queue_of 3 [] []) ≡ Some (queue_of 3 (moving 1 ∷ []) [])
waiting_restored = refl

pub waiting_not_restored : restored_waiting (moving 4) full ≡ None
waiting_not_restored = refl

pub result_restored : restored_result (done 1 0 []) (queue_of 3 [] []) ≡ Some (queue_of 3 [] (done 1 0 [] ∷ []))
result_restored = refl

pub result_not_restored : restored_result (done 1 0 (replicate 477 0)) (queue_of 3 [] []) ≡ None
result_not_restored = refl
