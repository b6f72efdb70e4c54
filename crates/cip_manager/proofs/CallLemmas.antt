-- The effect of a call on the connections: one of a few kinds of change.
use Rattle.std.proofs.Common.{false, ◌≡◌, ℕ, List, Option, Some, None, Result, Ok, Err, refl}
use Rattle.std.specs.Prelude.{find, ◌==◌}
use Rattle.cip_bytes.specs.declared.protocol.ManagerService.{ManagerService}
use Rattle.cip_bytes.specs.declared.protocol.ManagerService.TheVariants.{ForwardOpen, LargeForwardOpen, ForwardClose}
use Rattle.cip_bytes.specs.declared.protocol.ExtendedStatus.{ExtendedStatus}
use Rattle.cip_message.specs.declared.open.LengthFault.{LengthFault}
use Rattle.cip_message.specs.declared.open.LengthFault.TheVariants.{Short, Long}
use Rattle.cip_message.specs.Open.{Layout, Open}
use Rattle.cip_message.specs.Close.{Close, close_of}
use Rattle.cip_message.specs.Router.{general_status}
use Rattle.cip_manager.specs.Replies.{SUCCESS, failure_reply, length_reply}
use Rattle.cip_manager.specs.declared.connection.Connection.{Connection}
use Rattle.cip_manager.specs.declared.connection.Opener.{Opener}
use Rattle.cip_manager.specs.declared.connection.Triad.{Triad}
use Rattle.cip_manager.specs.declared.opening.Opening.{Opening}
use Rattle.cip_manager.specs.Connection.{is_named, is_of_session_with}
use Rattle.cip_manager.specs.Manager.{ManagerState, Turn}
use Rattle.cip_manager.specs.Opening.{opening_check, decided_opening, service_in, open_in, opening_in, read_opening_turn, open_turn_in}
use Rattle.cip_manager.specs.Closing.{triad_of, closing_check, decided_closing, read_closing_turn, close_turn, without}
use Rattle.cip_manager.specs.Items.{with_first, turn_of_found, item_turn}

-- a refusal of any service does not say success
failure-said : (service : ManagerService) (extended : ExtendedStatus) (triad : Triad) → (general_status (failure_reply service extended triad) == SUCCESS) ≡ false
failure-said ForwardOpen extended triad = refl
failure-said LargeForwardOpen extended triad = refl
failure-said ForwardClose extended triad = refl

length-said : (service : ManagerService) (fault : LengthFault) → (general_status (length_reply service fault) == SUCCESS) ≡ false
length-said ForwardOpen Short = refl
length-said ForwardOpen Long = refl
length-said LargeForwardOpen Short = refl
length-said LargeForwardOpen Long = refl
length-said ForwardClose Short = refl
length-said ForwardClose Long = refl

-- An open refuses and changes nothing, or opens what it asks for.
pub after_open : (P : Turn → Type 0) (layout : Layout) (manager : ManagerState) (now : ℕ) (opener : Opener) (bytes : List ℕ)
    → ((reply : List ℕ) → (general_status reply == SUCCESS) ≡ false → P (record { manager = manager; reply = reply }))
    → ((opening : Opening) → opening_check manager opener.group opening ≡ Ok tt → P (decided_opening (service_in layout) manager now opener opening (Ok tt)))
    → P (open_turn_in layout manager now opener bytes)
after_open P layout manager now opener bytes stays opens = read (open_in layout bytes)
  where
    decide : (opening : Opening) (check : Result (Unit {0}) ExtendedStatus) → opening_check manager opener.group opening ≡ check
        → P (decided_opening (service_in layout) manager now opener opening check)
    decide opening (Err extended) e =
        stays (failure_reply (service_in layout) extended opening.triad) (failure-said (service_in layout) extended opening.triad)
    decide opening (Ok passed) e = opens opening e

    read : (request : Result Open LengthFault) → P (read_opening_turn layout manager now opener request)
    read (Err fault) = stays (length_reply (service_in layout) fault) (length-said (service_in layout) fault)
    read (Ok request) = decide (opening_in layout request) (opening_check manager opener.group (opening_in layout request)) refl

-- A close changes nothing, or ends the connections that it names.
pub after_close : (P : ManagerState → Type 0) (manager : ManagerState) (session : ℕ) (bytes : List ℕ)
    → P manager
    → ((request : Close) → close_of bytes ≡ Ok request → P (without (is_of_session_with session (triad_of request)) manager))
    → P (close_turn manager session bytes).manager
after_close P manager session bytes stays ends = read (close_of bytes) refl
  where
    decide : (request : Close) → close_of bytes ≡ Ok request → (check : Result (Unit {0}) ExtendedStatus)
        → P (decided_closing manager session (triad_of request) check).manager
    decide request e (Err extended) = stays
    decide request e (Ok passed) = ends request e

    read : (request : Result Close LengthFault) → close_of bytes ≡ request → P (read_closing_turn manager session request).manager
    read (Err fault) e = stays
    read (Ok request) e = decide request e (closing_check manager session (triad_of request))

-- the same connection, except for its deadline and its target
pub record IsSame (old new : Connection) : Type 0 where
  pub session : new.session ≡ old.session
  pub group : new.group ≡ old.group
  pub id : new.o_to_t_id ≡ old.o_to_t_id
  pub triad : new.triad ≡ old.triad

module _ {M : Type 0} (after : M → ℕ → List ℕ → M) (answer : M → ℕ → List ℕ → List ℕ) where
  -- An item changes nothing, or the first connection that it names.
  pub after_item_turn : (P : List Connection → Type 0) (cs : List Connection) (now session id : ℕ) (bytes : List ℕ) (router : M)
      → P cs
      → ((old new : Connection) → find (is_named session id) cs ≡ Some old → IsSame old new → P (with_first (is_named session id) new cs))
      → P (item_turn after answer cs now session id bytes router).connections
  after_item_turn P cs now session id bytes router stays changes = go (find (is_named session id) cs) refl
    where
      go : (o : Option Connection) → find (is_named session id) cs ≡ o → P (turn_of_found after answer cs now session id bytes router o).connections
      go None e = stays
      go (Some c) e = changes c _ e (record { session = refl; group = refl; id = refl; triad = refl })
