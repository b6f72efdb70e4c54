-- One request of a packet after another, and the replies as they are gathered.
use Rattle.std.proofs.Common.{◌≡◌, ℕ, ◌+◌, ◌-◌, ◌*◌, Bool, true, false, ◌||◌, List, [], ◌∷◌, ◌++◌, length, refl, ap, sym, ◌∙◌, arith, append_assoc, append-nil, length-append}
use Rattle.std.specs.List.{flat_map}
use Rattle.std.specs.Prelude.{not, ◌==◌}
use Rattle.cip_bytes.specs.Numbers.{le}
use Rattle.cip_objects.specs.Contents.{Contents}
use Rattle.cip_objects.specs.Execution.{exec}
use Rattle.cip_objects.specs.Packets.{LEAST_ROOM, run_packet, offsets_from, numbers_size, any_refused}
use Rattle.cip_message.specs.Router.{general_status}
use Rattle.cip_objects.specs.PacketReplies.{Gathered, none_of, pushed, all_pushed}

-- What the run of the first request leaves to the others.
pub record IsStep (m n : Contents) (left size : ℕ) (answer : List ℕ) (requests rest : List (List ℕ)) : Type 0 where
  pub after : (run_packet n (left - size) rest).after ≡ (run_packet m left requests).after
  pub answers : (run_packet m left requests).answers ≡ answer ∷ (run_packet n (left - size) rest).answers

pub step : (m n : Contents) (left size later : ℕ) (request answer : List ℕ) (requests rest : List (List ℕ))
    → requests ≡ request ∷ rest → later ≡ length rest → n ≡ (exec m (left - LEAST_ROOM * later) request).after
    → answer ≡ (exec m (left - LEAST_ROOM * later) request).answer → size ≡ length answer
    → IsStep m n left size answer requests rest
step m n left size later request answer requests rest is count state reply sized =
    let now = exec m (left - LEAST_ROOM * length rest) request in
    let after : n ≡ now.after = state ∙ ap (λ k. (exec m (left - LEAST_ROOM * k) request).after) count in
    let said : answer ≡ now.answer = reply ∙ ap (λ k. (exec m (left - LEAST_ROOM * k) request).answer) count in
    let room : left - size ≡ left - length now.answer = ap (λ s. left - s) (sized ∙ ap length said) in
    let run : run_packet n (left - size) rest ≡ run_packet now.after (left - length now.answer) rest =
    ap (λ x. run_packet x (left - size) rest) after ∙ ap (λ s. run_packet now.after s rest) room in
    record {
      after = ap (λ r. r.after) run ∙ sym (ap (λ l. (run_packet m left l).after) is);
      answers = ap (λ l. (run_packet m left l).answers) is
          ∙ (ap (λ a. a ∷ (run_packet now.after (left - length now.answer) rest).answers) (sym said)
          ∙ ap (λ r. answer ∷ r.answers) (sym run));
    }

same_gathered : {count : ℕ} {a b c d : List ℕ} {x y : Bool} → a ≡ b → c ≡ d → x ≡ y
    → ◌≡◌ {A = Gathered} (record { count = count; offsets = a; replies = c; refused = x }) (record { count = count; offsets = b; replies = d; refused = y })
same_gathered p q r = cc

or_assoc : (a b c : Bool) → (a || b) || c ≡ a || (b || c)
or_assoc true b c = refl
or_assoc false b c = refl

or_nothing : (a : Bool) → a || any_refused [] ≡ a
or_nothing true = refl
or_nothing false = refl

gathered_from : (g : Gathered) (answers : List (List ℕ)) → all_pushed g answers ≡ record {
  count = g.count;
  offsets = g.offsets ++ offsets_from (numbers_size g.count + length g.replies) answers;
  replies = g.replies ++ flat_map (λ answer. answer) answers;
  refused = g.refused || any_refused answers;
}
gathered_from g [] = same_gathered (sym (append-nil g.offsets)) (sym (append-nil g.replies)) (sym (or_nothing g.refused))
gathered_from g (answer ∷ answers) =
    let h = pushed g answer in
    let start = numbers_size g.count + length g.replies in
    let next : numbers_size g.count + length (g.replies ++ answer) ≡ start + length answer =
    omega (arith, length-append g.replies answer) in
    gathered_from h answers
    ∙ same_gathered
    (append_assoc g.offsets (le 2 start) (offsets_from (numbers_size g.count + length (g.replies ++ answer)) answers)
    ∙ ap (λ n. g.offsets ++ (le 2 start ++ offsets_from n answers)) next)
    (append_assoc g.replies answer (flat_map (λ a. a) answers))
    (or_assoc g.refused (not (general_status answer == 0)) (any_refused answers))

-- All replies of a packet, gathered one by one.
pub gathered : (count : ℕ) (answers : List (List ℕ)) → all_pushed (none_of count) answers ≡ record {
  count = count;
  offsets = offsets_from (numbers_size count) answers;
  replies = flat_map (λ answer. answer) answers;
  refused = any_refused answers;
}
gathered count answers =
    gathered_from (none_of count) answers
    ∙ same_gathered (ap (λ n. offsets_from n answers) (let e : numbers_size count + 0 ≡ numbers_size count = omega arith in e)) refl refl
