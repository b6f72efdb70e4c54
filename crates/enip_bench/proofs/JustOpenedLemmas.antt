-- Both ends right after an opening, from the proofs of the opening.
use Rattle.std.proofs.Common.{◌≡◌, Ok, refl, ap, ap₂, sym, ◌∙◌, subst}
use Rattle.cip_ledger.specs.Device.{Device}
use Rattle.enip_adapter.specs.Calls.{AdapterState}
use Rattle.enip_client.specs.Client.{ClientState}
use Rattle.enip_client.specs.declared.wants.Wants.{Wants}
use Rattle.enip_bench.specs.CountingOpening.{opening_between, opening}
use Rattle.enip_bench.specs.CountingWorld.{CountingWorld}
use Rattle.enip_bench.specs.ItemWorld.{ItemWorld, items_at_opening}
use Rattle.enip_bench.specs.JustOpened.{IsOpenAtAdapter, IsOpenAtClient, IsJustOpened, opening_law}
use Rattle.enip_bench.specs.Reached.{IsNewAdapter, IsNewClient}
use Rattle.enip_bench.proofs.AdapterShows.{Wire, Serves}
use Rattle.enip_bench.proofs.ClientShows.{ClientShows}
use Rattle.enip_bench.proofs.FrameSteps.{shown, Agrees}
use Rattle.enip_bench.proofs.OpenedLemmas.{IsOpened}
use Rattle.enip_bench.proofs.OpeningRun.{opening_shows}

module _ (objects : Device) (wants : Wants) where
  abbrev start : ItemWorld Device
  start = items_at_opening wants.first_count wants.o_to_t_size wants.t_to_o_size objects

  -- both ends, as they agree with the item world at its opening
  module _ (wire : Wire) (a : AdapterState) (c : ClientState) (asked : wire.wants ≡ wants)
      (agrees : Agrees wire a c start) where
    at_adapter : IsOpenAtAdapter wants (shown wire a c start)
    at_adapter =
        let serves : Serves wire a.state.shared start.target = agrees.adapter_shows.connected in
        record {
          connection = serves.connection;
          alone = serves.alone;
          o_to_t_id = serves.id ∙ sym agrees.client_shows.id;
          t_to_o_id = serves.t_to_o_id ∙ ap (λ (w : Wants). w.t_to_o_id) asked;
          target = serves.is_target;
        }

    at_client : IsOpenAtClient wants (shown wire a c start)
    at_client =
        let shows : ClientShows wire c start.originator = agrees.client_shows in
        record {
          registered = shows.registered;
          session = shows.session;
          is_opened = shows.is_open;
          originator = shows.originator;
        }

    shown-opened : (adapter : AdapterState) (client : ClientState) → client.state.wants ≡ wants →
        adapter.state.shared.objects ≡ objects → IsJustOpened adapter client (shown wire a c start)
    shown-opened adapter client e f = record {
      at_adapter = subst (λ w. IsOpenAtAdapter w (shown wire a c start)) (sym e) at_adapter;
      at_client = subst (λ w. IsOpenAtClient w (shown wire a c start)) (sym e) at_client;
      objects = agrees.adapter_shows.objects ∙ sym f;
      sent = refl;
      back = refl;
      accepted = refl;
    }

-- the opening of these two
of_new : (adapter : AdapterState) (client : ClientState) (world : CountingWorld) (a : IsNewAdapter adapter)
    (c : IsNewClient client) → opening_between adapter client ≡ Ok world →
    opening a.objects a.listen a.limits c.wants ≡ Ok world
unfolding opening
of_new adapter client world a c e = sym (ap₂ opening_between a.is c.is) ∙ e

pub just_opened : opening_law
just_opened adapter client world a c e =
    let opened : IsOpened a.objects c.wants world
    = opening_shows a.objects a.listen a.limits c.wants c.wanted world (of_new adapter client world a c e) in
    subst (IsJustOpened adapter client) (sym opened.shows.is)
    (shown-opened a.objects c.wants opened.wire opened.shows.ends_at opened.shows.starts_at opened.asked_for
    opened.shows.agrees adapter client (ap (λ (x : ClientState). x.state.wants) c.is)
    (ap (λ (x : AdapterState). x.state.shared.objects) a.is))
