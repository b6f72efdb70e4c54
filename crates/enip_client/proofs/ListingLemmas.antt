-- What is gathered of an answer, read by read.
use Rattle.std.proofs.Common.{◌≡◌, ℕ, zero, suc, ◌<◌, ◌≤◌, inl, inr, List, [], ◌++◌, length, take, drop, Option, Result, Err, refl, sym, ap, subst, ◌∙◌, arith, append-nil, append_assoc, length-drop}
use Rattle.std.proofs.KnownBytes.{Consumes-nil, Consumes-trans}
use Rattle.std.proofs.lemmas.List.{drop_all, take-append-drop}
use Rattle.std.specs.Io.KnownBytes.{Appends, Consumes}
use Rattle.enip_wire.specs.Frames.{frame, IsComplete}
use Rattle.enip_wire.specs.Stream.{IsAtMostOneFrame, Takes, Shows, frame_of}
use Rattle.enip_wire.specs.declared.reader.Held.{Held}
use Rattle.enip_wire.specs.declared.reader.Held.TheVariants as held_is
use Rattle.enip_client.specs.declared.fault.AskFault.{AskFault}
use Rattle.enip_client.specs.declared.fault.AskFault.TheVariants as ask_faults
use Rattle.enip_client.specs.declared.lists.ListCommand.{ListCommand}
use Rattle.enip_client.specs.AskSteps.{FailsWithin, IsRead}
use Rattle.enip_client.specs.declared.fault.ClientFault.{ClientFault}
use Rattle.enip_wire.specs.Stream.{parsed}
use Rattle.enip_client.specs.Lists.{Entry, list_frame, answer_in}
use Rattle.enip_client.specs.Listing.{Gathers, Waits, IsGathered, Answers, IsListed, ListState, list_state}

-- What arrived so far: all of it was gathered, unless that is a frame or a header over the limit.
pub record Came (before after : Option (List ℕ)) (bytes : List ℕ) : Type 0 where
  pub fresh : IsAtMostOneFrame bytes
  pub rest : List ℕ
  pub few : length rest < 4096
  pub consumed : Consumes before after (bytes ++ rest)
  pub all : (IsComplete bytes → ⊥) → rest ≡ []

pub none_came : (before : Option (List ℕ)) → Came before before []
none_came before = record {
  fresh = record { running = λ k below. absurd (omega arith) };
  rest = [];
  few = omega arith;
  consumed = Consumes-nil before;
  all = λ runs. refl;
}

-- all that arrived is what was gathered
came_all : (before after : Option (List ℕ)) (bytes : List ℕ) → Came before after bytes → (IsComplete bytes → ⊥) → Consumes before after bytes
came_all before after bytes c unfinished =
    subst (Consumes before after) (ap (λ (r : List ℕ). bytes ++ r) (c.all unfinished) ∙ append-nil bytes) c.consumed

-- a piece of which a byte is taken leaves fewer
fewer : (held piece : List ℕ) (n : ℕ) → (IsComplete held → ⊥) → Takes held piece n → length piece ≤ 4096 → length (drop n piece) < 4096
fewer held piece zero unfinished t small =
    elim t.ends [
      | inl stops ↦ absurd (unfinished (subst IsComplete (append-nil held) stops))
      | inr all ↦ omega (arith, length-drop zero piece)
    ]
fewer held piece (suc n) unfinished t small = omega (arith, length-drop (suc n) piece, t.within)

nothing_left : (held piece : List ℕ) (n : ℕ) → Takes held piece n → (IsComplete (held ++ take n piece) → ⊥) → drop n piece ≡ []
nothing_left held piece n t unfinished =
    elim t.ends [
      | inl stops ↦ absurd (unfinished stops)
      | inr all ↦ drop_all n piece (omega arith)
    ]

-- a further piece arrived
pub more_came : (before mid after : Option (List ℕ)) (held piece new : List ℕ) (n : ℕ) → Came before mid held → (IsComplete held → ⊥)
    → Consumes mid after piece → length piece ≤ 4096 → Takes held piece n → new ≡ held ++ take n piece → IsAtMostOneFrame new → Came before after new
more_came before mid after held piece new n c unfinished read small t is fresh =
    let parts : held ++ piece ≡ new ++ drop n piece =
    ap (λ (p : List ℕ). held ++ p) (sym (take-append-drop n piece)) ∙ sym (append_assoc held (take n piece) (drop n piece))
    ∙ ap (λ (x : List ℕ). x ++ drop n piece) (sym is) in
    record {
      fresh = fresh;
      rest = drop n piece;
      few = fewer held piece n unfinished t small;
      consumed = subst (Consumes before after) parts (Consumes-trans before mid after held piece (came_all before mid held c unfinished) read);
      all = λ runs. nothing_left held piece n t (subst (λ (x : List ℕ). IsComplete x → ⊥) is runs);
    }

-- what is shown and is not incomplete
stopped : (bytes : List ℕ) (shown : Held) → Shows bytes shown → (shown ≡ held_is.More → ⊥) → IsComplete bytes
stopped bytes held_is.More shows is = absurd (is refl)
stopped bytes (held_is.Frame view) shows is = inl (record { of = frame_of view; is_frame = shows.0; spelled = shows.1 })
stopped bytes (held_is.TooLong header) shows is = inr shows.0

pub gathered : (before after : Option (List ℕ)) (bytes : List ℕ) (shown : Held) → Came before after bytes → Shows bytes shown → (shown ≡ held_is.More → ⊥)
    → Gathers before after bytes
gathered before after bytes shown c shows is =
    record { fresh = c.fresh; stops = stopped bytes shown shows is; rest = c.rest; few = c.few; consumed = c.consumed }

waits : (before mid after : Option (List ℕ)) (bytes : List ℕ) → Came before mid bytes → (IsComplete bytes → ⊥) → Consumes mid after [] → Waits before after
waits before mid after bytes c unfinished read = record {
  bytes = bytes;
  partial = unfinished;
  consumed = subst (Consumes before after) (append-nil bytes) (Consumes-trans before mid after bytes [] (came_all before mid bytes c unfinished) read);
}

-- a read gave nothing
pub not_gathered : (before mid after : Option (List ℕ)) (reads_before reads_after : ℕ) (into bytes : List ℕ) (fault : AskFault) → Came before mid bytes → (IsComplete bytes → ⊥)
    → IsRead mid after reads_before reads_after into (Err fault) → IsGathered before after reads_after bytes (Err fault)
not_gathered before mid after rb ra into bytes ask_faults.Ended c unfinished is = (waits before mid after bytes c unfinished is.0, is.1)
not_gathered before mid after rb ra into bytes ask_faults.Read c unfinished is = waits before mid after bytes c unfinished is
not_gathered before mid after rb ra into bytes ask_faults.Spent c unfinished is = (waits before mid after bytes c unfinished is.0, is.1)
not_gathered before mid after rb ra into bytes ask_faults.Write c unfinished is = absurd is
not_gathered before mid after rb ra into bytes (ask_faults.Client fault) c unfinished is = absurd is
not_gathered before mid after rb ra into bytes (ask_faults.Submit why) c unfinished is = absurd is

-- the request was not written
pub not_sent : (command : ListCommand) (left : Option (List ℕ)) (reads : ℕ) (before after : Option (List ℕ)) (bytes : List ℕ) (fault : AskFault)
    → bytes ≡ frame (list_frame command) → FailsWithin before after bytes fault
    → IsListed command (list_state left reads before) (list_state left reads after) (Err fault)
not_sent command left reads before after bytes fault is h =
    let failed : FailsWithin before after bytes ask_faults.Write =
    record { fault_is = refl; front = h.front; not_all = h.not_all; written = h.written } in
    subst (λ (f : AskFault). IsListed command (list_state left reads before) (list_state left reads after) (Err f)) (sym h.fault_is)
    (subst (λ (b : List ℕ). FailsWithin before after b ask_faults.Write) is failed, refl, refl)

-- no answer was gathered
pub not_answered : (command : ListCommand) (old new : ListState) (bytes : List ℕ) (fault : AskFault) → Appends old.written new.written (frame (list_frame command))
    → IsGathered old.left new.left new.reads bytes (Err fault) → IsListed command old new (Err fault)
not_answered command old new bytes ask_faults.Ended sent is = (sent, is.0, is.1)
not_answered command old new bytes ask_faults.Read sent is = (sent, is)
not_answered command old new bytes ask_faults.Spent sent is = (sent, is.0, is.1)
not_answered command old new bytes ask_faults.Write sent is = absurd is
not_answered command old new bytes (ask_faults.Client fault) sent is = absurd is
not_answered command old new bytes (ask_faults.Submit why) sent is = absurd is

-- an answer was gathered, and read
pub answered : (command : ListCommand) (old new : ListState) (held bytes : List ℕ) (answer : Result (List Entry) ClientFault)
    → Appends old.written new.written (frame (list_frame command)) → Gathers old.left new.left held → bytes ≡ held → answer ≡ answer_in command (parsed bytes)
    → Answers command old new answer
answered command old new held bytes answer sent all lent is = record {
  requested = sent;
  bytes = held;
  gathered = all;
  is = ap (λ (b : List ℕ). answer_in command (parsed b)) (sym lent) ∙ sym is;
}
