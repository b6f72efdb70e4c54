-- What each event of a world asks the owner, by the log.
use Rattle.std.proofs.Common.{◌≡◌, ℕ, ◌≤◌, ◌-◌, Bool, true, false, cond, length, Option, Some, None, List, [], ◌∷◌, ◌++◌, map, append-nil, append_assoc, Result, Ok, Err, refl, ap, sym, ◌∙◌, arith, eqb-true}
use Rattle.std.proofs.lemmas.Bool.{and_parts}
use Rattle.std.specs.List.{flat_map}
use Rattle.cip_bytes.specs.declared.protocol.TheConstants.{UNCONNECTED_LIMIT}
use Rattle.cip_class3.specs.TargetRule.{TargetState, is_held}
use Rattle.cip_class3.specs.Item.{sequence_count_of}
use Rattle.cip_class3.proofs.Repeats.{sequence_count_of-item, has_accepted_size-item}
use Rattle.cip_message.specs.declared.path.Path.{Path}
use Rattle.cip_message.specs.declared.path.PathFault.{PathFault}
use Rattle.cip_message.specs.declared.request.RequestFault.{RequestFault}
use Rattle.cip_message.specs.PathReading.{path_of}
use Rattle.cip_message.specs.Request.{Request as Spelled, request_of}
use Rattle.cip_objects.specs.OwnRequests.{Asked}
use Rattle.cip_owner.specs.Owned.{OwnedState, asks, asked_within}
use Rattle.cip_ledger.specs.Device.{Device, owned_standing}
use Rattle.cip_ledger.specs.Reaching.{listed}
use Rattle.cip_ledger.specs.Requests.{is_barred}
use Rattle.cip_message.specs.LedgerCommand.{Command}
use Rattle.cip_ledger.specs.Runs.{Request, reached_by}
use Rattle.cip_ledger.specs.Services.{Replies, Executes, Queues, Frees, KEPT_LIMIT}
use Rattle.cip_ledger.specs.Turn.{Fate, Passed, Served, fate}
use Rattle.cip_ledger.proofs.Devices.{other_class}
use Rattle.cip_ledger.proofs.ReachingLemmas.{reached_other}
use Rattle.enip_adapter.specs.Asks.{asks_by_reached, asks_by_step, asks_by_steps}
use Rattle.enip_adapter.specs.declared.peer.Rights.TheVariants.{Write}
use Rattle.enip_adapter.specs.DeviceRuns.{DeviceStep, Requested, WrittenBy, requests_by_route, requests_by_target, objects_after, objects_answer}
use Rattle.enip_adapter.specs.OwnWrites.{OwnWrite, WritesData, WritesAttribute, SetsStatus, SetsState, Prepares, Settles, Finishes, Marks, Withdraws, device_written}
use Rattle.enip_adapter.specs.SendRRData.{Route, Opens, Closes, Executes, route_of, route_by_request, route_by_path, manager_service, is_manager}
use Rattle.enip_adapter.proofs.AskedLemmas.{withdraw-asks}
use Rattle.enip_bench.specs.ObjectsRun.{after_exec, exec_answer, steps_of_log}
use Rattle.enip_bench.specs.NumberedWorld.{Entry, OwnRequest, OtherRequest, DeviceWrite, router_after, request_of as request_numbered}
use Rattle.enip_bench.proofs.CountLemmas.{count_of, count_of-below}
use Rattle.enip_bench.proofs.Image.{item_of, router_of, held_of}
use Rattle.enip_bench.proofs.HeldLemmas.{IsOfForm}
use Rattle.enip_bench.proofs.NotOwn.{manager_is_not_own}
use Rattle.enip_bench.proofs.TrackedWorld.{Own, Logged, OwnLogged, OtherLogged, WriteLogged, is_logged}
use Rattle.enip_bench.proofs.TrackedSteps.{with_execution}

-- ---- requests to the Connection Manager ask nothing

not_own-asks : (device : Device) (text : List ℕ) (q : Spelled) (path : Path) → request_of text ≡ Ok q →
    path_of q.path ≡ Ok path → is_manager path ≡ true →
    asks_by_step device (Requested (UNCONNECTED_LIMIT, text)) ≡ []
unfolding asks
not_own-asks device text q path read found manages =
    let six : path.class ≡ 6 = eqb-true path.class 6 (and_parts _ _ manages).0 in
    ap (λ requests. flat_map (asks_by_reached device.router.objects) (map Requested requests))
    (reached_other objects_after objects_answer owned_standing device (UNCONNECTED_LIMIT, text)
    (other_class text q path read found (λ e. absurd (omega (arith, six, e)))))
    ∙ ap (λ own. listed (asked_within UNCONNECTED_LIMIT own) ++ [])
    (manager_is_not_own device.router.objects text q path read found manages)

abbrev asked_on : Device → List ℕ → Route → List Asked
asked_on device text route = asks_by_steps device (map Requested (requests_by_route Write text route))

abbrev asked_whole : Device → List ℕ → List Asked
asked_whole device text = asks_by_step device (Requested (UNCONNECTED_LIMIT, text))

routed-none : (device : Device) (text : List ℕ) (route : Route) → asked_whole device text ≡ [] →
    asked_on device text route ≡ asked_whole device text
routed-none device text (Opens layout bytes) none = sym none
routed-none device text (Closes bytes) none = sym none
routed-none device text Executes none = append-nil (asked_whole device text)

-- an unconnected request asks the same, whether the Connection Manager takes it or not
pub routed-asks : (device : Device) (text : List ℕ) →
    asks_by_steps device (map Requested (requests_by_route Write text (route_of text)))
    ≡ asks_by_step device (Requested (UNCONNECTED_LIMIT, text))
routed-asks device text = by_request (request_of text) refl
  where
    by_manager : (q : Spelled) (path : Path) (b : Bool) → request_of text ≡ Ok q → path_of q.path ≡ Ok path →
        is_manager path ≡ b →
        asked_on device text (cond b (manager_service q.service q.data) Executes) ≡ asked_whole device text
    by_manager q path true read found manages =
        routed-none device text (manager_service q.service q.data)
        (not_own-asks device text q path read found manages)
    by_manager q path false read found manages = append-nil (asked_whole device text)

    by_path : (q : Spelled) (p : Result Path PathFault) → request_of text ≡ Ok q → path_of q.path ≡ p →
        asked_on device text (route_by_path q p) ≡ asked_whole device text
    by_path q (Ok path) read found = by_manager q path (is_manager path) read found refl
    by_path q (Err fault) read found = append-nil (asked_whole device text)

    by_request : (r : Result Spelled RequestFault) → request_of text ≡ r →
        asked_on device text (route_by_request r) ≡ asked_whole device text
    by_request (Ok q) read = by_path q (path_of q.path) read refl
    by_request (Err fault) read = append-nil (asked_whole device text)

-- ---- a request asks at most once

one-listed : (asked : Option Asked) → length (listed asked ++ []) ≤ 1
one-listed None = omega arith
one-listed (Some asked) = omega arith

one-embedded : (owned : OwnedState) (command : Command) (barred : Bool) →
    length (flat_map (asks_by_reached owned.objects)
    (map Requested (cond barred [] ((KEPT_LIMIT, command.request) ∷ []) ++ []))) ≤ 1
one-embedded owned command true = omega arith
one-embedded owned command false = one-listed (asks owned.objects KEPT_LIMIT command.request)

one-reached : (f : Fate) (owned : OwnedState) (request : Request) →
    length (flat_map (asks_by_reached owned.objects)
    (map Requested (reached_by objects_after objects_answer f request ++ []))) ≤ 1
one-reached Passed owned request = one-listed (asks owned.objects request.0 request.1)
one-reached (Served service (Replies reply)) owned request = omega arith
one-reached (Served service (Executes command)) owned request =
    one-embedded owned command (is_barred command.request)
one-reached (Served service (Queues command ticket)) owned request =
    one-embedded owned command (is_barred command.request)
one-reached (Served service (Frees originator)) owned request = omega arith

pub one-ask : (device : Device) (request : Request) → length (asks_by_step device (Requested request)) ≤ 1
one-ask device request =
    one-reached (fate owned_standing device.ledger device.router request.0 request.1) device.router request

-- ---- a device that remembers what was asked

abbrev pub Asking : Type 0
Asking = Device × List Asked

abbrev pub after_asking : Asking → ℕ → List ℕ → Asking
after_asking asking max_size text =
    (after_exec asking.0 max_size text, asking.1 ++ asks_by_step asking.0 (Requested (max_size, text)))

abbrev pub answer_asking : Asking → ℕ → List ℕ → List ℕ
answer_asking asking max_size text = exec_answer asking.0 max_size text

abbrev pub written_asking : OwnWrite → Asking → Asking
written_asking write asking = (device_written write asking.0, asking.1)

-- what the device writes asks nothing
pub write-asks : (write : OwnWrite) (device : Device) → asks_by_step device (WrittenBy write) ≡ []
write-asks (WritesData instance offset bytes) device = refl
write-asks (WritesAttribute class instance attribute offset bytes) device = refl
write-asks (SetsStatus status) device = refl
write-asks (SetsState state) device = refl
write-asks (Prepares reply) device = refl
write-asks (Settles originator number reply) device = refl
write-asks (Finishes ticket reply) device = refl
write-asks (Marks ticket) device = refl
write-asks (Withdraws request) device = withdraw-asks device request

-- and neither does it alone
pub alone-asks : (write : OwnWrite) (device : Device) → asks_by_step device (WrittenBy write) ++ [] ≡ []
alone-asks write device = append-nil (asks_by_step device (WrittenBy write)) ∙ write-asks write device

-- after a log of the numbered world
pub asking-log : (t_to_o_size : ℕ) (submits : List (List ℕ)) (device : Device) (before : List Asked) (log : List Entry) →
    (router_after after_asking answer_asking written_asking t_to_o_size submits (device, before) log).1
    ≡ before ++ asks_by_steps device (steps_of_log t_to_o_size submits log)
asking-log t_to_o_size submits device before [] = sym (append-nil before)
asking-log t_to_o_size submits device before (OwnRequest number ∷ log) =
    asking-log t_to_o_size submits (after_exec device (t_to_o_size - 2) (request_numbered submits number))
    (before ++ asks_by_step device (Requested (t_to_o_size - 2, request_numbered submits number))) log
    ∙ append_assoc before _ _
asking-log t_to_o_size submits device before (OtherRequest request ∷ log) =
    asking-log t_to_o_size submits (after_exec device UNCONNECTED_LIMIT request)
    (before ++ asks_by_step device (Requested (UNCONNECTED_LIMIT, request))) log
    ∙ append_assoc before _ _
asking-log t_to_o_size submits device before (DeviceWrite write ∷ log) =
    asking-log t_to_o_size submits (device_written write device) before log
    ∙ ap (λ asked. before ++ (asked ++ asks_by_steps (device_written write device) (steps_of_log t_to_o_size submits log)))
    (sym (write-asks write device))

module _ (first o_to_t_size t_to_o_size : ℕ) (start : Device) where
  -- after a log of the tracked world
  abbrev pub asked_by : List Logged → Asking
  asked_by log = router_of after_asking answer_asking written_asking first t_to_o_size (start, []) log

  abbrev pub device_by : List Logged → Device
  device_by log = router_of after_exec exec_answer device_written first t_to_o_size start log

  pub asking-device : (log : List Logged) → (asked_by log).0 ≡ device_by log
  asking-device [] = refl
  asking-device (OwnLogged own ∷ log) = ap (λ d. after_exec d (t_to_o_size - 2) own.request) (asking-device log)
  asking-device (OtherLogged request ∷ log) = ap (λ d. after_exec d UNCONNECTED_LIMIT request) (asking-device log)
  asking-device (WriteLogged write ∷ log) = ap (device_written write) (asking-device log)

  -- one more step
  pub asked-more : (log : List Logged) (step : DeviceStep) →
      (asked_by log).1 ++ asks_by_step (asked_by log).0 step
      ≡ (asked_by log).1 ++ asks_by_steps (device_by log) (step ∷ [])
  asked-more log step =
      ap (λ d. (asked_by log).1 ++ asks_by_step d step) (asking-device log)
      ∙ ap (λ asks. (asked_by log).1 ++ asks) (sym (append-nil (asks_by_step (device_by log) step)))

  -- the target that the tracked log describes
  abbrev target_by : List Logged → TargetState
  target_by log = record {
    o_to_t_size = o_to_t_size;
    t_to_o_size = t_to_o_size;
    held = held_of after_exec exec_answer device_written first t_to_o_size start log;
  }

  -- it has the request of an item executed, unless the log has it
  pub target-requests : (log : List Logged) (own : Own) → IsOfForm o_to_t_size own.request →
      is_held (held_of after_exec exec_answer device_written first t_to_o_size start log) (count_of first own.number)
      ≡ is_logged own.number log →
      requests_by_target Write (target_by log) (item_of first own)
      ≡ cond (is_logged own.number log) [] ((t_to_o_size - 2, own.request) ∷ [])
  target-requests log own form held =
      ap (λ b. cond b (cond (is_held (target_by log).held (sequence_count_of (item_of first own))) []
      ((t_to_o_size - 2, own.request) ∷ [])) [])
      (has_accepted_size-item (target_by log)
      (record { sequence_count = count_of first own.number; request = own.request; repeats = 0 })
      (record { sequence_count = count_of-below first own.number; request = form.least; size = form.fits }))
      ∙ ap (λ n. cond (is_held (target_by log).held n) [] ((t_to_o_size - 2, own.request) ∷ []))
      (sequence_count_of-item (count_of first own.number) own.request (count_of-below first own.number))
      ∙ ap (λ b. cond b [] ((t_to_o_size - 2, own.request) ∷ [])) held

  -- so an arrival asks what is added to the log
  pub arrival-asks : (log : List Logged) (own : Own) (is : Bool) →
      (asked_by (with_execution is log own)).1
      ≡ (asked_by log).1
      ++ asks_by_steps (device_by log) (map Requested (cond is [] ((t_to_o_size - 2, own.request) ∷ [])))
  arrival-asks log own true = sym (append-nil (asked_by log).1)
  arrival-asks log own false = asked-more log (Requested (t_to_o_size - 2, own.request))

  pub other-asks : (log : List Logged) (request : List ℕ) →
      (asked_by (OtherLogged request ∷ log)).1
      ≡ (asked_by log).1
      ++ asks_by_steps (device_by log) (map Requested (requests_by_route Write request (route_of request)))
  other-asks log request =
      asked-more log (Requested (UNCONNECTED_LIMIT, request))
      ∙ ap (λ asks. (asked_by log).1 ++ asks)
      (append-nil (asks_by_step (device_by log) (Requested (UNCONNECTED_LIMIT, request)))
      ∙ sym (routed-asks (device_by log) request))
