-- An opening without a refusal, step by step, as it is defined.
use Rattle.std.proofs.Common.{◌≡◌, ℕ, ◌+◌, ◌<◌, ◌^◌, Result, Ok, Err, refl, ap, ap₂, sym, ◌∙◌, subst, arith}
use Rattle.cip_bytes.specs.declared.protocol.ExtendedStatus.{ExtendedStatus}
use Rattle.cip_bytes.specs.Reading.{◌>>=◌}
use Rattle.cip_bytes.proofs.Steps.{bind_ok}
use Rattle.cip_ledger.specs.Device.{Device}
use Rattle.enip_wire.specs.Frames.{frame}
use Rattle.enip_adapter.specs.declared.adapter.Limits.{Limits}
use Rattle.enip_adapter.specs.declared.shared.Listen.{Listen}
use Rattle.enip_adapter.specs.Adapter.{new_adapter, new_shared}
use Rattle.enip_adapter.specs.Groups.{no_shares}
use Rattle.enip_adapter.specs.Calls.{AdapterState, after_call}
use Rattle.enip_adapter.specs.Calls.Call.{Feeds}
use Rattle.enip_client.specs.Calls.{registers, opens}
use Rattle.enip_client.specs.Client.{new_client}
use Rattle.enip_client.specs.Frames.{register_frame}
use Rattle.enip_client.specs.declared.wants.Wants.{Wants}
use Rattle.enip_bench.specs.CountingOpening.{Setup, ARefusal, IsWanted, begins, Ends, is_registered_event, is_opened_event, exchange, counting_at_opening, ends_at_beginning, opening}
use Rattle.enip_bench.specs.CountingWorld.{CountingWorld}
use Rattle.enip_bench.specs.ItemWorld.{items_at_opening}
use Rattle.enip_bench.proofs.AdapterShows.{registered_as}
use Rattle.enip_bench.proofs.FrameSteps.{shown}
use Rattle.enip_bench.proofs.OpenedLemmas.{IsChecked, is_checked, IsOpened, wire, adapter, client, both_registered, agrees}
use Rattle.enip_bench.proofs.OpeningLemmas.{registered, begun_single, first-exchange, asked, checked, second-exchange}
use Rattle.enip_bench.proofs.OpeningParts.{IsBegun, begun-ok}

-- what follows after the connection opened, after the session registered, and after the peer began
abbrev third : Ends → ℕ → Result CountingWorld Setup
third ends peer = begins ends.adapter >>= λ second. Ok (counting_at_opening ends peer second)

abbrev second : Ends → ℕ → Result CountingWorld Setup
second ends peer = exchange ends peer is_opened_event (opens ends.client.state) >>= λ ends. third ends peer

abbrev first : Ends → ℕ → Wants → Result CountingWorld Setup
first ends peer wants =
    exchange ends peer is_registered_event (registers (new_client wants).state) >>= λ ends. second ends peer

ok_is : {A E : Type 0} (x y : A) → ◌≡◌ {A = Result A E} (Ok x) (Ok y) → x ≡ y
ok_is x y e = cc

module _ (objects : Device) (listen : Listen) (limits : Limits) (wants : Wants) (is : IsWanted wants)
    (world : CountingWorld) where
  abbrev peer : ℕ
  peer = limits.first_handle

  abbrev next : ℕ
  next = limits.first_handle + 1

  abbrev ends_opened : Ends
  ends_opened = record { adapter = adapter objects listen limits wants is; client = client objects listen limits wants is }

  opened_at : (second : ℕ) → IsChecked wants.rpi limits.first_id → peer < 2 ^ 32 → IsBegun ends_opened.adapter second →
      counting_at_opening ends_opened peer second ≡ world → IsOpened objects wants world
  opened_at second check below begun e =
      let below_next : next < 2 ^ 32 = subst (λ n. n < 2 ^ 32) begun.next begun.below in
      let start : CountingWorld = shown (wire objects listen limits wants is) (both_registered objects listen limits wants is)
      ends_opened.client (items_at_opening wants.first_count wants.o_to_t_size wants.t_to_o_size objects) in
      let same : counting_at_opening ends_opened peer second ≡ start
      = ap₂ (λ a n. (let x : CountingWorld = record start {
        adapter = after_call a (Feeds 0 n (frame (register_frame 0)));
        second = n;
      } in x)) begun.adapter begun.next in
      subst (IsOpened objects wants) (sym same ∙ e) (record {
        wire = wire objects listen limits wants is;
        ok = record {
          peer = below;
          second = below_next;
          apart = λ e. absurd (omega (arith, e));
          id = check.id;
          t_to_o_id = is.t_to_o_id;
        };
        asked_for = refl;
        same_peer = refl;
        shows = record {
          ends_at = both_registered objects listen limits wants is;
          starts_at = ends_opened.client;
          is = refl;
          agrees = agrees objects listen limits wants is check below_next;
        };
      })

  -- by the outcome of the checks of the Forward_Open
  by_checks : (r : Result (Unit {0}) ExtendedStatus) → checked objects listen limits wants next peer ≡ r → peer < 2 ^ 32 →
      second (record { adapter = begun_single objects listen limits wants next peer (registered_as peer); client = registered wants peer }) peer
      ≡ Ok world → IsOpened objects wants world
  by_checks (Err extended) e below done =
      let bad : ◌≡◌ {A = Result CountingWorld Setup} (Err ARefusal) (Ok world)
      = sym (ap (λ r. r >>= λ ends. third ends peer) (second-exchange objects listen limits wants next peer is below (Err extended) e))
      ∙ done in
      absurd (cc)
  by_checks (Ok passed) e below done =
      let go : third ends_opened peer ≡ Ok world
      = sym (ap (λ r. r >>= λ ends. third ends peer) (second-exchange objects listen limits wants next peer is below (Ok passed) e))
      ∙ done in
      let begun = bind_ok (begins ends_opened.adapter) (λ second. Ok (counting_at_opening ends_opened peer second)) world go in
      opened_at begun.0 (is_checked (new_shared objects listen limits no_shares).manager (asked objects listen limits wants next peer) e) below
      (begun-ok ends_opened.adapter begun.0 begun.1)
      (ok_is (counting_at_opening ends_opened peer begun.0) world begun.2)

  pub opening_shows : opening objects listen limits wants ≡ Ok world → IsOpened objects wants world
  unfolding opening
  opening_shows e =
      let start : AdapterState = new_adapter objects listen limits in
      let begun = bind_ok (begins start) (λ peer. first (ends_at_beginning start (new_client wants)) peer wants) world e in
      let is_begun : IsBegun start begun.0 = begun-ok start begun.0 begun.1 in
      let rest : first (ends_at_beginning start (new_client wants)) peer wants ≡ Ok world
      = subst (λ n. first (ends_at_beginning start (new_client wants)) n wants ≡ Ok world) is_begun.next begun.2 in
      let below : peer < 2 ^ 32 = subst (λ n. n < 2 ^ 32) is_begun.next is_begun.below in
      let exchanged : exchange (ends_at_beginning start (new_client wants)) peer is_registered_event (registers (new_client wants).state)
      ≡ Ok (record { adapter = begun_single objects listen limits wants next peer (registered_as peer); client = registered wants peer })
      = ap (λ a. exchange (record { adapter = a; client = new_client wants }) peer is_registered_event (registers (new_client wants).state))
      is_begun.adapter ∙ first-exchange objects listen limits wants next peer below in
      by_checks (checked objects listen limits wants next peer) refl below
      (sym (ap (λ r. r >>= λ ends. second ends peer) exchanged) ∙ rest)
