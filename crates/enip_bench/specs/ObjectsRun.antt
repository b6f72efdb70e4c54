-- At the objects, the log of the numbered world is a run of requests and of the device's own writes.
use Rattle.std.specs.Prelude.{◌≡◌, ⊤, ℕ, ◌-◌, suc, if◌then◌else◌, List, [], ◌∷◌, map, slice_index_or}
use Rattle.std.specs.List.{AllByRecursion}
use Rattle.cip_bytes.specs.declared.protocol.TheConstants.{UNCONNECTED_LIMIT}
use Rattle.cip_ledger.specs.Device.{Device, exec_device, run, Ran}
use Rattle.cip_ledger.specs.Runs.{Request}
use Rattle.enip_adapter.specs.DeviceRuns.{DeviceStep, Requested, WrittenBy, device_after_step, device_after}
use Rattle.enip_adapter.specs.OwnWrites.{device_written}
use Rattle.enip_bench.specs.NumberedWorld.{Entry, OwnRequest, OtherRequest, DeviceWrite, is_execution_of, request_of, router_after, reply_to}

-- the index of this number's execution in the log
abbrev pub place_of : ℕ → List Entry → ℕ
place_of number [] = 0
place_of number (entry ∷ log) = if is_execution_of number entry then 0 else suc (place_of number log)

-- the device, its objects and its ledger, after a request, and its answer to it
abbrev pub after_exec : Device → ℕ → List ℕ → Device
after_exec device max_size request = (exec_device device max_size request).after

abbrev pub exec_answer : Device → ℕ → List ℕ → List ℕ
exec_answer device max_size request = (exec_device device max_size request).answer

-- what an entry is at the device: a request, with the limit on its reply, or a write
abbrev pub step_by_entry : ℕ → List (List ℕ) → Entry → DeviceStep
step_by_entry t_to_o_size submits (OwnRequest number) = Requested (t_to_o_size - 2, request_of submits number)
step_by_entry t_to_o_size submits (OtherRequest request) = Requested (UNCONNECTED_LIMIT, request)
step_by_entry t_to_o_size submits (DeviceWrite write) = WrittenBy write

-- the requests of a log and the device's own writes, in order
abbrev pub steps_of_log : ℕ → List (List ℕ) → List Entry → List DeviceStep
steps_of_log t_to_o_size submits log = map (step_by_entry t_to_o_size submits) log

-- the device's answer to a step; a write has none
abbrev pub answer_to_step : Device → DeviceStep → List ℕ
answer_to_step device (Requested request) = exec_answer device request.0 request.1
answer_to_step device (WrittenBy write) = []

-- the answer to each of these steps
abbrev pub answers_to_steps : Device → List DeviceStep → List (List ℕ)
answers_to_steps device [] = []
answers_to_steps device (step ∷ steps) =
    answer_to_step device step ∷ answers_to_steps (device_after_step device step) steps

-- the device after the log is that after its steps, and the reply to a number is the answer at its index
pub record AreSteps (t_to_o_size : ℕ) (submits : List (List ℕ)) (device : Device) (log : List Entry) : Type 0 where
  pub after : router_after after_exec exec_answer device_written t_to_o_size submits device log
      ≡ device_after device (steps_of_log t_to_o_size submits log)
  pub replies : (number : ℕ) → reply_to after_exec exec_answer device_written t_to_o_size submits device log number
      ≡ slice_index_or (answers_to_steps device (steps_of_log t_to_o_size submits log)) (place_of number log) []

abbrev pub steps_law : Type 0
steps_law = (t_to_o_size : ℕ) (submits : List (List ℕ)) (device : Device) (log : List Entry) →
    AreSteps t_to_o_size submits device log

-- the entry is a request
abbrev pub IsRequest : Entry → Type 0
IsRequest (DeviceWrite write) = ⊥
IsRequest entry = ⊤

-- the requests of a log, each with the limit on its reply
abbrev pub requests_of_log : ℕ → List (List ℕ) → List Entry → List Request
requests_of_log t_to_o_size submits [] = []
requests_of_log t_to_o_size submits (OwnRequest number ∷ log) =
    (t_to_o_size - 2, request_of submits number) ∷ requests_of_log t_to_o_size submits log
requests_of_log t_to_o_size submits (OtherRequest request ∷ log) =
    (UNCONNECTED_LIMIT, request) ∷ requests_of_log t_to_o_size submits log
requests_of_log t_to_o_size submits (DeviceWrite write ∷ log) = requests_of_log t_to_o_size submits log

-- the run of a log's requests
abbrev pub run_of : ℕ → List (List ℕ) → Device → List Entry → Ran
run_of t_to_o_size submits device log = run device (requests_of_log t_to_o_size submits log)

-- the device after the log is that after its run, and the reply to a number is what the run answers at its index
pub record IsRun (t_to_o_size : ℕ) (submits : List (List ℕ)) (device : Device) (log : List Entry) : Type 0 where
  pub after : router_after after_exec exec_answer device_written t_to_o_size submits device log
      ≡ (run_of t_to_o_size submits device log).after
  pub replies : (number : ℕ) → reply_to after_exec exec_answer device_written t_to_o_size submits device log number
      ≡ slice_index_or (run_of t_to_o_size submits device log).answers (place_of number log) []

-- a log without writes of the device is a run of its requests
abbrev pub run_law : Type 0
run_law = (t_to_o_size : ℕ) (submits : List (List ℕ)) (device : Device) (log : List Entry) →
    AllByRecursion IsRequest log → IsRun t_to_o_size submits device log
