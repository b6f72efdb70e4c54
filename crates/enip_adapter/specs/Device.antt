-- What the device itself does with its adapter, apart from its peers' frames.
use Rattle.std.specs.Prelude.{ℕ, Option, Some, None}
use Rattle.cip_ledger.specs.Device.{Device}
use Rattle.cip_ledger.specs.Ledger.{LedgerState}
use Rattle.cip_objects.specs.Contents.{Contents}
use Rattle.cip_owner.specs.Owned.{OwnedState}
use Rattle.cip_owner.specs.Replies.{Reply}
use Rattle.cip_owner.specs.Reset.{ResetState}
use Rattle.enip_adapter.specs.Calls.{AdapterState}
use Rattle.enip_adapter.specs.OwnWrites.{with_contents}

-- The adapter with another device, and all else unchanged.
abbrev pub with_device : AdapterState → Device → AdapterState
with_device a device =
    record a { state = record a.state { shared = record a.state.shared { objects = device } } }

-- The adapter with another router behind the ledger, and all else unchanged, the ledger too.
abbrev pub with_router : AdapterState → OwnedState → AdapterState
with_router a owned =
    record a {
      state = record a.state {
        shared = record a.state.shared { objects = record a.state.shared.objects { router = owned } };
      };
    }

-- The adapter with another ledger, or none, and all else unchanged.
abbrev pub with_ledger : AdapterState → Option LedgerState → AdapterState
with_ledger a ledger =
    record a {
      state = record a.state {
        shared = record a.state.shared { objects = record a.state.shared.objects { ledger = ledger } };
      };
    }

-- The adapter with other objects.
abbrev pub with_objects : AdapterState → Contents → AdapterState
with_objects a objects = with_router a (with_contents a.state.shared.objects.router objects)

-- The adapter with this in place of what it needs to be reset.
abbrev pub with_resetting : AdapterState → Option ResetState → AdapterState
with_resetting a reset = with_router a (record a.state.shared.objects.router { reset = reset })

-- How many resets were executed, modulo 2^32. None was if the device cannot be reset.
abbrev pub resets_by : Option ResetState → ℕ
resets_by None = 0
resets_by (Some reset) = reset.executed

abbrev pub resets_of : AdapterState → ℕ
resets_of a = resets_by a.state.shared.objects.router.reset

-- The adapter with another reply of the owner prepared, or none.
abbrev pub with_prepared : AdapterState → Option Reply → AdapterState
with_prepared a reply = with_router a (record a.state.shared.objects.router { prepared = reply })
