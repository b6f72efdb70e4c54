-- The open connections of a `Manager`.
use Rattle.std.specs.Prelude.{◌≡◌, ℕ, ◌<◌, ◌≤◌, Bool, not, List, [], All, filter_map, Some}
use Rattle.slab.specs.Slab.{Slab, get}
use Rattle.cip_manager.specs.declared.connection.Connection.{Connection}
use Rattle.cip_manager.specs.declared.selection.Selection.{Selection}
use Rattle.cip_manager.specs.declared.selection.Selection.TheVariants.{Overdue, OfSession, OfGroup, WithTriad, OfSessionWith}
use Rattle.cip_manager.specs.declared.index.Entry.{Entry}
use Rattle.cip_manager.specs.Connection.{is_of_session, is_of_session_with, is_of_group, has_triad, is_open_at}

-- How many connections can be open, and the open ones, in the order of opening.
pub record TableState : Type 0 where
  pub places : ℕ
  pub connections : List Connection

abbrev pub no_entry : ℕ → TableState
no_entry places = record { places = places; connections = [] }

-- The connection is selected.
abbrev pub is_in : Selection → Connection → Bool
is_in (Overdue now) connection = not (is_open_at now connection)
is_in (OfSession session) connection = is_of_session session connection
is_in (OfGroup group) connection = is_of_group group connection
is_in (WithTriad triad) connection = has_triad triad connection
is_in (OfSessionWith session triad) connection = is_of_session_with session triad connection

-- The O->T ID of each connection is below this one.
abbrev pub AreBelow : ℕ → List Connection → Type 0
AreBelow id connections = All (λ connection. connection.o_to_t_id < id) connections

-- No deadline is before this moment.
abbrev pub AreOpenUntil : ℕ → List Connection → Type 0
AreOpenUntil moment connections = All (λ connection. moment ≤ connection.deadline) connections

-- The connections that the slab has at the keys of the entries, in the order of the entries.
abbrev pub listed : Slab Connection → List Entry → List Connection
listed slab entries = filter_map (λ entry. get slab entry.key) entries

-- The slab has a connection with the entry's ID at the entry's key.
pub record Names (slab : Slab Connection) (entry : Entry) : Type 0 where
  pub connection : Connection
  pub kept : get slab entry.key ≡ Some connection
  pub same : connection.o_to_t_id ≡ entry.id
