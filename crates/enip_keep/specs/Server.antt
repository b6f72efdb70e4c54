-- What holds of a server between its calls.
use Rattle.std.specs.Prelude.{◌≡◌, ℕ, IsTrue}
use Rattle.enip_keep.specs.Kept.{Kept}
use Rattle.enip_keep.specs.declared.server.Server.{Server}

-- The keeper has what is to be kept of the contents, and the device knows so.
pub record IsKept (is_up : Type 0) (kept known_kept kept_part : Kept) : Type 0 where
  pub up : is_up
  pub whole : kept ≡ kept_part
  pub known : known_kept ≡ kept

-- As long as it serves, all is kept.
abbrev pub IsReady : {D K Contents A B G : Type 0} → (K → ℕ) → (K → Type 0) → (K → Kept) → (D → Contents)
    → (D → Kept) → (Contents → Kept) → Server D K A B G → Type 0
IsReady doubt is_up kept contents known_kept kept_part server =
    doubt server.keeper ≡ 0 → IsTrue server.is_serving
    → IsKept (is_up server.keeper) (kept server.keeper) (known_kept server.device) (kept_part (contents server.device))

-- In a round requests of its input were executed. Their answers were held back until the round was over, and then left.
abbrev pub IsServed : {D Input Contents Requests : Type 0} → (Input → Requests → Type 0) → (D → Contents)
    → (Contents → Requests → Contents) → (D → Requests → D → Type 0) → (D → D → Type 0) → (D → D → Type 0)
    → Input → D → D → Type 0
IsServed {D = D} {Requests = Requests} brings contents executed holds_answers sends_nothing sends_held input old new =
    (requests : Requests) × (between : D) × brings input requests × (contents new ≡ executed (contents old) requests)
    × holds_answers old requests between × sends_nothing old between × sends_held between new

-- Requests of this input make of the contents something of which this is kept.
abbrev pub IsKeptOfRound : {Input Contents Requests : Type 0} → (Input → Requests → Type 0)
    → (Contents → Requests → Contents) → (Contents → Kept) → Input → Contents → Kept → Type 0
IsKeptOfRound {Requests = Requests} brings executed kept_part input contents kept =
    (requests : Requests) × brings input requests × (kept ≡ kept_part (executed contents requests))
