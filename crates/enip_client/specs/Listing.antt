-- One list request to a device: what is written, what is read of the answer, and the result.
use Rattle.std.specs.Prelude.{ℕ, ◌-◌, ◌^◌, ◌≡◌, ◌<◌, List, ◌++◌, length, Option, Result, Ok, Err}
use Rattle.std.specs.Io.KnownBytes.{Appends, Consumes, IsAtEnd}
use Rattle.enip_wire.specs.Frames.{frame, IsComplete}
use Rattle.enip_wire.specs.Stream.{IsAtMostOneFrame, parsed}
use Rattle.enip_client.specs.declared.fault.AskFault.{AskFault}
use Rattle.enip_client.specs.declared.fault.AskFault.TheVariants as ask_faults
use Rattle.enip_client.specs.declared.fault.ClientFault.{ClientFault}
use Rattle.enip_client.specs.declared.lists.ListCommand.{ListCommand}
use Rattle.enip_client.specs.AskSteps.{FailsWithin}
use Rattle.enip_client.specs.Lists.{Entry, list_frame, answer_in}

-- These are the first of the bytes read that are a whole frame, or a header whose length is over the limit. What
-- follows them belongs to the last read, which gave at most 4,096 bytes.
pub record Gathers (before after : Option (List ℕ)) (bytes : List ℕ) : Type 0 where
  pub fresh : IsAtMostOneFrame bytes
  pub stops : IsComplete bytes
  pub rest : List ℕ
  pub few : length rest < 4096
  pub consumed : Consumes before after (bytes ++ rest)

-- All that was read is neither a whole frame yet, nor a header whose length is over the limit.
pub record Waits (before after : Option (List ℕ)) : Type 0 where
  pub bytes : List ℕ
  pub partial : IsComplete bytes → ⊥
  pub consumed : Consumes before after bytes

-- What was gathered, by the result.
abbrev pub IsGathered : Option (List ℕ) → Option (List ℕ) → ℕ → List ℕ → Result (Unit {0}) AskFault → Type 0
IsGathered before after reads bytes (Ok done) = Gathers before after bytes
IsGathered before after reads bytes (Err ask_faults.Read) = Waits before after
IsGathered before after reads bytes (Err ask_faults.Ended) = Waits before after × IsAtEnd after
IsGathered before after reads bytes (Err ask_faults.Spent) = Waits before after × (reads ≡ 2 ^ 64 - 1)
IsGathered before after reads bytes (Err other) = ⊥

-- The bytes that are left to the reader and how many reads it made, and those that the writer has.
pub record ListState : Type 0 where
  pub left : Option (List ℕ)
  pub reads : ℕ
  pub written : Option (List ℕ)

abbrev pub list_state : Option (List ℕ) → ℕ → Option (List ℕ) → ListState
list_state left reads written = record { left = left; reads = reads; written = written }

-- The request was written.
abbrev pub Requests : ListCommand → ListState → ListState → Type 0
Requests command old new = Appends old.written new.written (frame (list_frame command))

-- This is the answer in what was gathered.
pub record Answers (command : ListCommand) (old new : ListState) (answer : Result (List Entry) ClientFault) : Type 0 where
  pub requested : Requests command old new
  pub bytes : List ℕ
  pub gathered : Gathers old.left new.left bytes
  pub is : answer_in command (parsed bytes) ≡ answer

-- What a list request does, by its result.
abbrev pub IsListed : ListCommand → ListState → ListState → Result (List Entry) AskFault → Type 0
IsListed command old new (Ok entries) = Answers command old new (Ok entries)
IsListed command old new (Err (ask_faults.Client fault)) = Answers command old new (Err fault)
IsListed command old new (Err ask_faults.Read) = Requests command old new × Waits old.left new.left
IsListed command old new (Err ask_faults.Ended) =
    Requests command old new × Waits old.left new.left × IsAtEnd new.left
IsListed command old new (Err ask_faults.Spent) =
    Requests command old new × Waits old.left new.left × (new.reads ≡ 2 ^ 64 - 1)
IsListed command old new (Err ask_faults.Write) =
    FailsWithin old.written new.written (frame (list_frame command)) ask_faults.Write
    × (new.left ≡ old.left) × (new.reads ≡ old.reads)
IsListed command old new (Err (ask_faults.Submit why)) = ⊥
