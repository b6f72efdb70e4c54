-- How the adapter's value is stored: each record as pairs of its fields, and rebuilt from them.
use Rattle.std.specs.Prelude.{◌≡◌, ℕ, List, Bool, true, false, Option, refl}
use Rattle.std.specs.Coded.{Coded, code_by, coded×, coded_ℕ, coded_bool, coded_list, coded_option}
use Rattle.cip_message.specs.declared.key.Device.{Device as DeviceKey}
use Rattle.cip_objects.specs.Contents.{Contents, contents_code, device_code}
use Rattle.cip_class3.specs.TargetRule.{KeptReply, TargetState}
use Rattle.cip_ledger.specs.Device.{Device}
use Rattle.cip_ledger.specs.Ledger.{LedgerState, SlotState}
use Rattle.cip_manager.specs.declared.connection.Connection.{Connection}
use Rattle.cip_manager.specs.declared.connection.Triad.{Triad}
use Rattle.cip_manager.specs.Manager.{ManagerState}
use Rattle.cip_owner.specs.Owned.{OwnedState}
use Rattle.cip_owner.specs.Queue.{QueuedCommand, QueueResult, QueueState}
use Rattle.cip_owner.specs.Replies.{Reply}
use Rattle.cip_owner.specs.Reset.{ResetState, reset_code}
use Rattle.enip_adapter.specs.declared.peer.Rights.{Rights}
use Rattle.enip_adapter.specs.declared.peer.Rights.TheVariants.{Read, Write}
use Rattle.enip_adapter.specs.declared.peer.Session.{Session}
use Rattle.enip_adapter.specs.declared.shared.Listen.{Listen}
use Rattle.enip_adapter.specs.declared.shared.Shared.{Shared}
use Rattle.enip_adapter.specs.Calls.{AdapterState, Held}
use Rattle.enip_adapter.specs.Turn.{State}

abbrev pub is_writer : Rights → Bool
is_writer Write = true
is_writer Read = false

abbrev pub rights_from : Bool → Rights
rights_from true = Write
rights_from false = Read

pub same_rights : (rights : Rights) → rights_from (is_writer rights) ≡ rights
same_rights Write = refl
same_rights Read = refl

abbrev pub rights_code : Coded Rights
rights_code = code_by Bool coded_bool is_writer rights_from same_rights

abbrev pub session_from : ℕ × (Bool × (Bool × (Rights × Option ℕ))) → Session
session_from (handle, (registered, (closed, (rights, group)))) =
    record { handle = handle; registered = registered; closed = closed; rights = rights; group = group }

abbrev pub session_code : Coded Session
session_code =
    code_by (ℕ × (Bool × (Bool × (Rights × Option ℕ))))
    (coded× coded_ℕ (coded× coded_bool (coded× coded_bool (coded× rights_code (coded_option coded_ℕ)))))
    (λ s. (s.handle, (s.registered, (s.closed, (s.rights, s.group)))))
    session_from (λ _. refl)

abbrev pub kept_code : Coded KeptReply
kept_code =
    code_by (ℕ × List ℕ) (coded× coded_ℕ (coded_list coded_ℕ)) (λ k. (k.sequence_count, k.reply))
    (λ p. record { sequence_count = p.0; reply = p.1 }) (λ _. refl)

abbrev pub target_from : ℕ × (ℕ × Option KeptReply) → TargetState
target_from (o_to_t_size, (t_to_o_size, held)) =
    record { o_to_t_size = o_to_t_size; t_to_o_size = t_to_o_size; held = held }

abbrev pub target_code : Coded TargetState
target_code =
    code_by (ℕ × (ℕ × Option KeptReply)) (coded× coded_ℕ (coded× coded_ℕ (coded_option kept_code)))
    (λ t. (t.o_to_t_size, (t.t_to_o_size, t.held)))
    target_from (λ _. refl)

abbrev pub triad_from : ℕ × (ℕ × ℕ) → Triad
triad_from (connection_serial, (originator_vendor, originator_serial)) = record {
  connection_serial = connection_serial;
  originator_vendor = originator_vendor;
  originator_serial = originator_serial;
}

abbrev pub triad_code : Coded Triad
triad_code =
    code_by (ℕ × (ℕ × ℕ)) (coded× coded_ℕ (coded× coded_ℕ coded_ℕ))
    (λ t. (t.connection_serial, (t.originator_vendor, t.originator_serial)))
    triad_from (λ _. refl)

abbrev pub connection_from : ℕ × (Option ℕ × (ℕ × (ℕ × (Triad × (ℕ × (ℕ × TargetState)))))) → Connection
connection_from (session, (group, (o_to_t_id, (t_to_o_id, (triad, (timeout, (deadline, target))))))) = record {
  session = session;
  group = group;
  o_to_t_id = o_to_t_id;
  t_to_o_id = t_to_o_id;
  triad = triad;
  timeout = timeout;
  deadline = deadline;
  target = target;
}

abbrev pub connection_code : Coded Connection
connection_code =
    code_by (ℕ × (Option ℕ × (ℕ × (ℕ × (Triad × (ℕ × (ℕ × TargetState)))))))
    (coded× coded_ℕ (coded× (coded_option coded_ℕ) (coded× coded_ℕ (coded× coded_ℕ (coded× triad_code
    (coded× coded_ℕ (coded× coded_ℕ target_code)))))))
    (λ c. (c.session, (c.group, (c.o_to_t_id, (c.t_to_o_id, (c.triad, (c.timeout, (c.deadline, c.target))))))))
    connection_from (λ _. refl)

abbrev pub manager_from : ℕ × (ℕ × (ℕ × (DeviceKey × List Connection))) → ManagerState
manager_from (places, (share, (next_id, (device, connections)))) =
    record { places = places; share = share; next_id = next_id; device = device; connections = connections }

abbrev pub manager_code : Coded ManagerState
manager_code =
    code_by (ℕ × (ℕ × (ℕ × (DeviceKey × List Connection))))
    (coded× coded_ℕ (coded× coded_ℕ (coded× coded_ℕ (coded× device_code (coded_list connection_code)))))
    (λ m. (m.places, (m.share, (m.next_id, (m.device, m.connections)))))
    manager_from (λ _. refl)

abbrev pub listen_code : Coded Listen
listen_code =
    code_by (List ℕ × ℕ) (coded× (coded_list coded_ℕ) coded_ℕ) (λ l. (l.address, l.port))
    (λ p. record { address = p.0; port = p.1 }) (λ _. refl)

abbrev pub slot_from : ℕ × (ℕ × (Option (List ℕ) × Option ℕ)) → SlotState
slot_from (originator, (number, (reply, ticket))) =
    record { originator = originator; number = number; reply = reply; ticket = ticket }

abbrev pub slot_code : Coded SlotState
slot_code =
    code_by (ℕ × (ℕ × (Option (List ℕ) × Option ℕ)))
    (coded× coded_ℕ (coded× coded_ℕ (coded× (coded_option (coded_list coded_ℕ)) (coded_option coded_ℕ))))
    (λ s. (s.originator, (s.number, (s.reply, s.ticket))))
    slot_from (λ _. refl)

abbrev pub ledger_from : ℕ × (ℕ × List SlotState) → LedgerState
ledger_from (slots, (life, taken)) = record { slots = slots; life = life; taken = taken }

abbrev pub ledger_code : Coded LedgerState
ledger_code =
    code_by (ℕ × (ℕ × List SlotState)) (coded× coded_ℕ (coded× coded_ℕ (coded_list slot_code)))
    (λ l. (l.slots, (l.life, l.taken)))
    ledger_from (λ _. refl)

abbrev pub reply_code : Coded Reply
reply_code =
    code_by (ℕ × List ℕ) (coded× coded_ℕ (coded_list coded_ℕ)) (λ r. (r.status, r.content))
    (λ p. record { status = p.0; content = p.1 }) (λ _. refl)

abbrev pub command_from : ℕ × (ℕ × (ℕ × (ℕ × (List ℕ × ℕ)))) → QueuedCommand
command_from (ticket, (class, (instance, (service, (content, reply_limit))))) = record {
  ticket = ticket;
  class = class;
  instance = instance;
  service = service;
  content = content;
  reply_limit = reply_limit;
}

abbrev pub command_code : Coded QueuedCommand
command_code =
    code_by (ℕ × (ℕ × (ℕ × (ℕ × (List ℕ × ℕ)))))
    (coded× coded_ℕ (coded× coded_ℕ (coded× coded_ℕ (coded× coded_ℕ (coded× (coded_list coded_ℕ) coded_ℕ)))))
    (λ c. (c.ticket, (c.class, (c.instance, (c.service, (c.content, c.reply_limit))))))
    command_from (λ _. refl)

abbrev pub result_from : ℕ × (ℕ × (ℕ × (ℕ × List ℕ))) → QueueResult
result_from (ticket, (class, (instance, (status, content)))) =
    record { ticket = ticket; class = class; instance = instance; status = status; content = content }

abbrev pub result_code : Coded QueueResult
result_code =
    code_by (ℕ × (ℕ × (ℕ × (ℕ × List ℕ))))
    (coded× coded_ℕ (coded× coded_ℕ (coded× coded_ℕ (coded× coded_ℕ (coded_list coded_ℕ)))))
    (λ r. (r.ticket, (r.class, (r.instance, (r.status, r.content)))))
    result_from (λ _. refl)

abbrev pub queue_from : ℕ × (ℕ × (ℕ × (List QueuedCommand × List QueueResult))) → QueueState
queue_from (limit, (next, (handed, (waiting, results)))) =
    record { limit = limit; next = next; handed = handed; waiting = waiting; results = results }

abbrev pub queue_code : Coded QueueState
queue_code =
    code_by (ℕ × (ℕ × (ℕ × (List QueuedCommand × List QueueResult))))
    (coded× coded_ℕ (coded× coded_ℕ (coded× coded_ℕ (coded× (coded_list command_code) (coded_list result_code)))))
    (λ q. (q.limit, (q.next, (q.handed, (q.waiting, q.results)))))
    queue_from (λ _. refl)

abbrev pub owned_from : Contents × (Option Reply × (Option QueueState × Option ResetState)) → OwnedState
owned_from (objects, (prepared, (queue, reset))) =
    record { objects = objects; prepared = prepared; queue = queue; reset = reset }

abbrev pub owned_code : Coded OwnedState
owned_code =
    code_by (Contents × (Option Reply × (Option QueueState × Option ResetState)))
    (coded× contents_code
    (coded× (coded_option reply_code) (coded× (coded_option queue_code) (coded_option reset_code))))
    (λ o. (o.objects, (o.prepared, (o.queue, o.reset))))
    owned_from (λ _. refl)

abbrev pub served_code : Coded Device
served_code =
    code_by (Option LedgerState × OwnedState) (coded× (coded_option ledger_code) owned_code)
    (λ d. (d.ledger, d.router))
    (λ p. record { ledger = p.0; router = p.1 }) (λ _. refl)

abbrev pub shared_from : Listen × (ℕ × (ℕ × (ManagerState × Device))) → Shared
shared_from (listen, (share, (moment, (manager, objects)))) =
    record { listen = listen; share = share; moment = moment; manager = manager; objects = objects }

abbrev pub shared_code : Coded Shared
shared_code =
    code_by (Listen × (ℕ × (ℕ × (ManagerState × Device))))
    (coded× listen_code (coded× coded_ℕ (coded× coded_ℕ (coded× manager_code served_code))))
    (λ s. (s.listen, (s.share, (s.moment, (s.manager, s.objects)))))
    shared_from (λ _. refl)

abbrev pub state_from : ℕ × (ℕ × (Shared × List Session)) → State
state_from (places, (next_handle, (shared, peers))) =
    record { places = places; next_handle = next_handle; shared = shared; peers = peers }

abbrev pub state_code : Coded State
state_code =
    code_by (ℕ × (ℕ × (Shared × List Session)))
    (coded× coded_ℕ (coded× coded_ℕ (coded× shared_code (coded_list session_code))))
    (λ s. (s.places, (s.next_handle, (s.shared, s.peers))))
    state_from (λ _. refl)

abbrev pub held_code : Coded Held
held_code =
    code_by (ℕ × List ℕ) (coded× coded_ℕ (coded_list coded_ℕ)) (λ h. (h.peer, h.bytes))
    (λ p. record { peer = p.0; bytes = p.1 })
    (λ _. refl)

abbrev pub adapter_code : Coded AdapterState
adapter_code =
    code_by (State × List Held) (coded× state_code (coded_list held_code)) (λ a. (a.state, a.held))
    (λ p. record { state = p.0; held = p.1 }) (λ _. refl)
