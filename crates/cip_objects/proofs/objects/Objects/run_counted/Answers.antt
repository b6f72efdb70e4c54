use Rattle.std.proofs.Common.{◌≡◌, ◌≤◌, ◌+◌, ◌-◌, ◌*◌, ◌++◌, ◌∷◌, [], ◌∙◌, ℕ, nat_lt, false, List, length, Result, Ok, ap, sym, subst, arith}
use Rattle.std.proofs.lemmas.Bool.Decides.{nat_tests}
use Rattle.cip_bytes.specs.Numbers.{le}
use Rattle.cip_message.specs.Reply.{reply, reply_of_fields, reply_service}
use Rattle.cip_objects.specs.declared.status.Refusal.{Refusal}
use Rattle.cip_objects.specs.Contents.{Contents}
use Rattle.cip_objects.specs.Execution.{Executed}
use Rattle.cip_objects.specs.PacketLaws.{answers_counted, answers_fit, offsets_counted, run_by}
use Rattle.cip_objects.specs.PacketReplies.{Gathered, seen, none_of, all_pushed}
use Rattle.cip_objects.specs.Packets.{LEAST_ROOM, front_size, numbers_size, status_of, packet_reply, run_packet, run_within}
use Rattle.cip_objects.proofs.PacketSteps.{gathered}
use Rattle.cip_objects.proofs.objects.Objects.run_counted.Goals as goal

same_executed : {m n : Contents} {a b : List ℕ} → m ≡ n → a ≡ b
    → ◌≡◌ {A = Executed} (record { after = m; answer = a }) (record { after = n; answer = b })
same_executed p q = cc

ran : (m n : Contents) (max_size service count : ℕ) (requests : List (List ℕ)) (g : Gathered) (answer : List ℕ)
    → count ≡ length requests → front_size count + LEAST_ROOM * count ≤ max_size
    → n ≡ (run_packet m (max_size - front_size count) requests).after
    → g ≡ all_pushed (none_of count) (run_packet m (max_size - front_size count) requests).answers
    → answer ≡ reply (reply_of_fields (reply_service service) (status_of g.refused) [] (le 2 g.count ++ (g.offsets ++ g.replies)))
    → ◌≡◌ {A = Result Executed Refusal} (Ok (record { after = n; answer = answer })) (run_within m max_size (service ∷ []) requests)
ran m n max_size service count requests g answer same enough state is written =
    let answers = (run_packet m (max_size - front_size count) requests).answers in
    let all : g ≡ record { count = length answers; offsets = _; replies = _; refused = _ } = is ∙ ap (λ k. all_pushed (none_of k) answers) (same ∙ sym (answers_counted m (max_size - front_size count) requests)) ∙ gathered (length answers) answers in
    let said : answer ≡ packet_reply (service ∷ []) answers =
    written ∙ ap (λ (x : Gathered). reply (reply_of_fields (reply_service service) (status_of x.refused) [] (le 2 x.count ++ (x.offsets ++ x.replies)))) all in
    let room : nat_lt max_size (front_size (length requests) + LEAST_ROOM * length requests) ≡ false = grind (arith, nat_tests) in
    ap (λ x. Ok x) (same_executed state said)
    ∙ ap (λ k. Ok (record { after = (run_packet m (max_size - front_size k) requests).after; answer = packet_reply (service ∷ []) (run_packet m (max_size - front_size k) requests).answers })) same
    ∙ sym (ap (λ short. run_by short m max_size (service ∷ []) requests) room)

-- what was gathered, in numbers
pub record IsSized (count room : ℕ) (g : Gathered) : Type 0 where
  pub same : g.count ≡ count
  pub offsets : length g.offsets ≡ 2 * count
  pub replies : length g.replies ≤ room

sized : (m : Contents) (room count : ℕ) (requests : List (List ℕ)) (g : Gathered) → count ≡ length requests
    → LEAST_ROOM * count ≤ room → g ≡ all_pushed (none_of count) (run_packet m room requests).answers → IsSized count room g
sized m room count requests g same enough is =
    let answers = (run_packet m room requests).answers in
    let all = is ∙ gathered count answers in
    let long : length answers ≡ length requests = answers_counted m room requests in
    let fit = answers_fit m room requests (omega (arith, same, enough)) in
    record {
      same = ap (λ x. x.count) all;
      offsets = ap (λ x. length x.offsets) all ∙ offsets_counted (numbers_size count) answers ∙ ap (λ k. 2 * k) (long ∙ sym same);
      replies = subst (λ (x : Gathered). length x.replies ≤ room) (sym all) fit;
    }

pub write-requires-clause-count : goal.write-requires-clause-count
write-requires-clause-count c =
    let front = 4 + 2 + 2 * c.args.count in
    let is = sized c.args.self.now (c.args.max_size - front) c.args.count c.args.requests (seen c.run_requests.new.replies) c.requires.count (omega arith) c.run_requests.ensures.replies in
    omega (arith, is.same, c.requires.few)

pub write-requires-clause-fits : goal.write-requires-clause-fits
write-requires-clause-fits c =
    let front = 4 + 2 + 2 * c.args.count in
    let is = sized c.args.self.now (c.args.max_size - front) c.args.count c.args.requests (seen c.run_requests.new.replies) c.requires.count (omega arith) c.run_requests.ensures.replies in
    omega (arith, is.offsets, is.replies, c.requires.max_size_to)

pub returns-clause-ran : goal.returns-clause-ran
returns-clause-ran c =
    ran c.args.self.now c.run_requests.new.self c.args.max_size c.args.service c.args.count c.args.requests
    (seen c.run_requests.new.replies) c.write.new.reply.items c.requires.count (omega arith) c.run_requests.ensures.state
    c.run_requests.ensures.replies c.write.ensures
