-- The counting world at its opening shows the item world at its opening.
use Rattle.std.proofs.Common.{◌≡◌, ℕ, ◌+◌, ◌*◌, ◌<◌, ◌^◌, true, false, cond, eqb, Some, None, [], ◌∷◌, Ok, refl, ap, ap₂, sym, subst, arith}
use Rattle.std.proofs.lemmas.Bool.{eq-eqb, ne_eqb}
use Rattle.std.proofs.lemmas.Nat.{mul-lt, pow_pos}
use Rattle.cip_bytes.proofs.Bytes.{le4_again}
use Rattle.cip_class3.specs.TargetRule.{TargetState, target_at_opening}
use Rattle.cip_class3.specs.OriginatorRule.{originator_at_opening}
use Rattle.cip_manager.specs.declared.opening.Opening.{Opening}
use Rattle.cip_manager.specs.Connection.{timeout_of}
use Rattle.cip_manager.specs.Opening.{opening_check, new_connection, without_group}
use Rattle.cip_manager.specs.Manager.{ManagerState}
use Rattle.cip_ledger.specs.Device.{Device}
use Rattle.enip_wire.specs.Frames.{Frame, frame}
use Rattle.enip_adapter.specs.declared.adapter.Limits.{Limits}
use Rattle.enip_adapter.specs.declared.peer.Rights.TheVariants.{Write}
use Rattle.enip_adapter.specs.declared.shared.Listen.{Listen}
use Rattle.enip_adapter.specs.declared.shared.Shared.{Shared}
use Rattle.enip_adapter.specs.Adapter.{new_shared}
use Rattle.enip_adapter.specs.Groups.{no_shares}
use Rattle.enip_adapter.specs.Calls.{AdapterState, after_call, bytes_found}
use Rattle.enip_adapter.specs.Calls.Call.{Feeds}
use Rattle.enip_adapter.specs.RegisterSession.{register_session, version_one}
use Rattle.enip_adapter.specs.Replies.{Served, leaving}
use Rattle.enip_adapter.specs.SendRRData.{managed}
use Rattle.enip_adapter.specs.Turn.{new_session, with_peer, at_moment}
use Rattle.enip_client.specs.Client.{ClientState}
use Rattle.enip_client.specs.Frames.{register_frame}
use Rattle.enip_client.specs.declared.wants.Wants.{Wants}
use Rattle.enip_bench.specs.CountingOpening.{IsWanted}
use Rattle.enip_bench.specs.CountingWorld.{CountingWorld}
use Rattle.enip_bench.specs.ItemWorld.{items_at_opening}
use Rattle.enip_bench.proofs.AdapterShows.{Wire, IsWire, registered_as, Serves, AdapterShows, IsOwnFed, own-fed, other-ready, at-zero}
use Rattle.enip_bench.proofs.ClientShows.{ClientShows}
use Rattle.cip_bytes.specs.declared.protocol.Command.TheVariants.{RegisterSession}
use Rattle.enip_bench.proofs.FeedLemmas.{IsReady, is_framed, no_bytes}
use Rattle.enip_bench.proofs.FrameSteps.{Agrees, Shows}
use Rattle.enip_bench.proofs.OpeningLemmas.{asked, decided, opened}
use Rattle.enip_bench.proofs.OpeningParts.{single, register-served}
use Rattle.cip_manager.proofs.CheckLemmas.{PassesChecks, passes_checks}

-- the connection's RPI is not 0, and its ID has 32 bits
pub record IsChecked (rpi next_id : ℕ) : Type 0 where
  pub some : 0 < rpi
  pub id : next_id < 2 ^ 32

timeout-above : (rpi multiplier : ℕ) → 0 < rpi → 0 < timeout_of rpi multiplier
timeout-above rpi multiplier some = mul-lt 0 0 (rpi * 4) (2 ^ multiplier) (omega (arith, some)) (pow_pos multiplier)

pub is_checked : (manager : ManagerState) (asked : Opening) → opening_check manager None asked ≡ Ok tt →
    IsChecked asked.o_to_t.rpi manager.next_id
is_checked manager asked e =
    let passes : PassesChecks manager None asked = passes_checks manager None asked e in
    record { some = passes.fields.rpi; id = passes.room.id_left }

-- an opening without a refusal
pub record IsOpened (objects : Device) (wants : Wants) (world : CountingWorld) : Type 0 where
  pub wire : Wire
  pub ok : IsWire wire
  pub asked_for : wire.wants ≡ wants
  pub same_peer : world.peer ≡ wire.peer
  pub shows : Shows wire world (items_at_opening wants.first_count wants.o_to_t_size wants.t_to_o_size objects)

module _ (objects : Device) (listen : Listen) (limits : Limits) (wants : Wants) (is : IsWanted wants) where
  abbrev pub peer : ℕ
  peer = limits.first_handle

  abbrev pub next : ℕ
  next = limits.first_handle + 1

  abbrev pub id : ℕ
  id = limits.first_id

  abbrev pub wire : Wire
  wire = record { wants = wants; peer = peer; second = next; id = id }

  -- the shared state, the adapter and the client after the connection opened
  abbrev pub shared : Shared
  shared = (managed (new_shared objects listen limits no_shares) (decided objects listen limits wants next peer (Ok tt))).shared

  abbrev pub adapter : AdapterState
  adapter = single limits.peers next shared (registered_as peer)

  abbrev pub client : ClientState
  client = opened objects listen limits wants next peer

  abbrev pub target : TargetState
  target = target_at_opening wants.o_to_t_size wants.t_to_o_size

  serves : IsChecked wants.rpi id → Serves wire shared target
  serves check =
      let timeout : 0 < timeout_of wants.rpi wants.timeout_multiplier
      = timeout-above wants.rpi wants.timeout_multiplier check.some in
      record {
        connection = new_connection id 0 (without_group peer) (asked objects listen limits wants next peer);
        alone = ap (λ b. cond b (new_connection id 0 (without_group peer) (asked objects listen limits wants next peer) ∷ []) [])
            (eq-eqb peer peer refl);
        session = refl;
        id = refl;
        t_to_o_id = refl;
        is_target = refl;
        moment = refl;
        deadline = omega (arith, timeout);
        last = omega arith;
        timeout = timeout;
      }

  client_shows : IsChecked wants.rpi id →
      ClientShows wire client (originator_at_opening wants.first_count wants.o_to_t_size wants.t_to_o_size)
  client_shows check = record {
    held = refl;
    registered = refl;
    session = refl;
    is_open = refl;
    id = le4_again id check.id [];
    awaiting = refl;
    fault = refl;
    originator = refl;
    t_to_o_id = refl;
  }

  -- the adapter after the second peer began, and after it registered
  abbrev pub both_begun : AdapterState
  both_begun = record {
    state = with_peer adapter.state Write None;
    held = no_bytes peer ∷ no_bytes next ∷ [];
  }

  abbrev pub both_registered : AdapterState
  both_registered = after_call both_begun (Feeds 0 next (frame (register_frame 0)))

  other : eqb peer next ≡ false
  other = ne_eqb peer next (λ e. absurd (omega (arith, e)))

  first_ready : IsReady both_begun peer (registered_as peer)
  first_ready = record {
    found = ap (λ b. cond b (Some (registered_as peer)) (cond (eqb next peer) (Some (new_session next Write None)) None)) (eq-eqb peer peer refl);
    alive = refl;
    blank = ap (λ b. bytes_found (cond b (Some (no_bytes peer)) (cond (eqb next peer) (Some (no_bytes next)) None))) (eq-eqb peer peer refl);
  }

  second_ready : IsReady both_begun next (new_session next Write None)
  second_ready = record {
    found = ap₂ (λ b own. cond b (Some (registered_as peer)) (cond own (Some (new_session next Write None)) None)) other (eq-eqb next next refl);
    alive = refl;
    blank = ap₂ (λ b own. bytes_found (cond b (Some (no_bytes peer)) (cond own (Some (no_bytes next)) None))) other (eq-eqb next next refl);
  }

  adapter_shows : IsChecked wants.rpi id → next < 2 ^ 32 → AdapterShows wire both_registered target objects true
  adapter_shows check below =
      let f : Frame = register_frame 0 in
      let served : Served = leaving (at_moment shared 0) (register_session (new_session next Write None) f) in
      let fed : IsOwnFed both_begun next (new_session next Write None) f served
      = own-fed both_begun next (new_session next Write None) f served second_ready
      (is_framed RegisterSession 0 0 version_one (omega arith) (omega arith))
      (register-served (at_moment shared 0) (new_session next Write None) 0) refl in
      record {
        peer = other-ready both_begun peer next (registered_as peer) (frame f) (λ e. absurd (omega (arith, e))) first_ready;
        second = fed.ready;
        objects = ap (λ (s : Shared). s.objects) fed.shared;
        connected = subst (λ s. Serves wire s target) (sym fed.shared) (at-zero wire shared target true (serves check));
      }

  pub agrees : IsChecked wants.rpi id → next < 2 ^ 32 →
      Agrees wire both_registered client (items_at_opening wants.first_count wants.o_to_t_size wants.t_to_o_size objects)
  agrees check below = record {
    adapter_shows = adapter_shows check below;
    client_shows = client_shows check;
    small = record {
      ours = record { o_to_t_to = is.o_to_t_to; waiting = λ bytes e. absurd (cc) };
      theirs = record { t_to_o_from = is.t_to_o_from; t_to_o_to = is.t_to_o_to; kept = omega arith };
      sent = λ i x e. absurd (cc);
      back = λ i x e. absurd (cc);
    };
  }
