-- At the objects, the log of the numbered world is a run of requests and of the device's own writes.
use Rattle.std.proofs.Common.{◌≡◌, ℕ, suc, ◌-◌, ◌==◌, Bool, true, false, cond, List, [], ◌∷◌, slice_index_or, refl}
use Rattle.std.specs.List.{AllByRecursion}
use Rattle.cip_bytes.specs.declared.protocol.TheConstants.{UNCONNECTED_LIMIT}
use Rattle.cip_ledger.specs.Device.{Device}
use Rattle.enip_adapter.specs.DeviceRuns.{device_after}
use Rattle.enip_adapter.specs.OwnWrites.{device_written}
use Rattle.enip_bench.specs.NumberedWorld.{Entry, OwnRequest, OtherRequest, DeviceWrite, request_of, router_after, reply_to}
use Rattle.enip_bench.specs.ObjectsRun.{place_of, after_exec, exec_answer, steps_of_log, answers_to_steps, steps_law, IsRequest, run_of, run_law}

device-steps : (t_to_o_size : ℕ) (submits : List (List ℕ)) (device : Device) (log : List Entry) →
    router_after after_exec exec_answer device_written t_to_o_size submits device log
    ≡ device_after device (steps_of_log t_to_o_size submits log)
device-steps t_to_o_size submits device [] = refl
device-steps t_to_o_size submits device (OwnRequest number ∷ log) =
    device-steps t_to_o_size submits (after_exec device (t_to_o_size - 2) (request_of submits number)) log
device-steps t_to_o_size submits device (OtherRequest request ∷ log) =
    device-steps t_to_o_size submits (after_exec device UNCONNECTED_LIMIT request) log
device-steps t_to_o_size submits device (DeviceWrite write ∷ log) =
    device-steps t_to_o_size submits (device_written write device) log

by_test : (is : Bool) (now : List ℕ) (later : List ℕ) (replies : List (List ℕ)) (place : ℕ) →
    later ≡ slice_index_or replies place [] →
    cond is now later ≡ slice_index_or (now ∷ replies) (cond is 0 (suc place)) []
by_test true now later replies place same = refl
by_test false now later replies place same = same

reply-steps : (t_to_o_size : ℕ) (submits : List (List ℕ)) (device : Device) (log : List Entry) (number : ℕ) →
    reply_to after_exec exec_answer device_written t_to_o_size submits device log number
    ≡ slice_index_or (answers_to_steps device (steps_of_log t_to_o_size submits log)) (place_of number log) []
reply-steps t_to_o_size submits device [] number = refl
reply-steps t_to_o_size submits device (OwnRequest own ∷ log) number =
    let next : Device = after_exec device (t_to_o_size - 2) (request_of submits own) in
    by_test (own == number) (exec_answer device (t_to_o_size - 2) (request_of submits own))
    (reply_to after_exec exec_answer device_written t_to_o_size submits next log number)
    (answers_to_steps next (steps_of_log t_to_o_size submits log)) (place_of number log)
    (reply-steps t_to_o_size submits next log number)
reply-steps t_to_o_size submits device (OtherRequest request ∷ log) number =
    reply-steps t_to_o_size submits (after_exec device UNCONNECTED_LIMIT request) log number
reply-steps t_to_o_size submits device (DeviceWrite write ∷ log) number =
    reply-steps t_to_o_size submits (device_written write device) log number

pub are_steps : steps_law
are_steps t_to_o_size submits device log = record {
  after = device-steps t_to_o_size submits device log;
  replies = reply-steps t_to_o_size submits device log;
}

device-run : (t_to_o_size : ℕ) (submits : List (List ℕ)) (device : Device) (log : List Entry) →
    AllByRecursion IsRequest log →
    router_after after_exec exec_answer device_written t_to_o_size submits device log
    ≡ (run_of t_to_o_size submits device log).after
device-run t_to_o_size submits device [] requests = refl
device-run t_to_o_size submits device (OwnRequest number ∷ log) requests =
    device-run t_to_o_size submits (after_exec device (t_to_o_size - 2) (request_of submits number)) log requests.1
device-run t_to_o_size submits device (OtherRequest request ∷ log) requests =
    device-run t_to_o_size submits (after_exec device UNCONNECTED_LIMIT request) log requests.1
device-run t_to_o_size submits device (DeviceWrite write ∷ log) requests = absurd requests.0

reply-run : (t_to_o_size : ℕ) (submits : List (List ℕ)) (device : Device) (log : List Entry) (number : ℕ) →
    AllByRecursion IsRequest log →
    reply_to after_exec exec_answer device_written t_to_o_size submits device log number
    ≡ slice_index_or (run_of t_to_o_size submits device log).answers (place_of number log) []
reply-run t_to_o_size submits device [] number requests = refl
reply-run t_to_o_size submits device (OwnRequest own ∷ log) number requests =
    let next : Device = after_exec device (t_to_o_size - 2) (request_of submits own) in
    by_test (own == number) (exec_answer device (t_to_o_size - 2) (request_of submits own))
    (reply_to after_exec exec_answer device_written t_to_o_size submits next log number)
    (run_of t_to_o_size submits next log).answers (place_of number log)
    (reply-run t_to_o_size submits next log number requests.1)
reply-run t_to_o_size submits device (OtherRequest request ∷ log) number requests =
    reply-run t_to_o_size submits (after_exec device UNCONNECTED_LIMIT request) log number requests.1
reply-run t_to_o_size submits device (DeviceWrite write ∷ log) number requests = absurd requests.0

pub is_run : run_law
is_run t_to_o_size submits device log requests = record {
  after = device-run t_to_o_size submits device log requests;
  replies = λ number. reply-run t_to_o_size submits device log number requests;
}
