-- Wires that give out a frame only once it is admitted.
use Rattle.std.specs.Prelude.{ℕ, zero, suc, min, length, take, drop, ◌≡◌, ◌≢◌, ◌==◌, ◌||◌, not, if◌then◌else◌, List, [], Bool, true, false}
use Rattle.std.specs.Prelude.{Option, Some, None, option_map}
use Rattle.std.specs.Io.KnownBytes.{Consumes, prepend_known}
use Rattle.enip_server.specs.declared.frame_wire.FrameWire.{FrameWire}
use Rattle.enip_server.specs.declared.wire.ReadOutcome.{ReadOutcome}
use Rattle.enip_server.specs.declared.wire.ReadOutcome.TheVariants.{Bytes, WouldBlock}
use Rattle.enip_server.specs.declared.wire_counts.WireCounts.{WireCounts}
use Rattle.enip_server.specs.FrameEnds.{frame_end, given_further, start_of_frame}
use Rattle.enip_server.specs.Wires.{KnownCalls, AreReadBy, after_read, has_given, with_asked}

abbrev pub new_frame_wire : {W : Type 0} → W → Bool → FrameWire W
new_frame_wire wire gated = record {
  wire = wire;
  held = [];
  cursor = start_of_frame;
  is_gated = gated;
  is_admitted = false;
  asked = 0;
  counts = record { reads = 0; drained = 0; waits = 0; ends = 0 };
}

-- What is left to read: what is held, followed by what is left of the wire inside.
abbrev pub frame_left : {W : Type 0} → (W → Option (List ℕ)) → FrameWire W → Option (List ℕ)
frame_left left w = prepend_known w.held (left w.wire)

-- What the wire inside knows of its calls, but the size of the last read, which is that of this wire's own.
abbrev pub frame_known : {W : Type 0} → (W → Option KnownCalls) → FrameWire W → Option KnownCalls
frame_known known w = option_map (with_asked w.asked) (known w.wire)

-- How many of the held bytes can be given out: those of a frame that does not end in them, and those up to the end of a
-- frame that is admitted. A frame that is not admitted waits.
abbrev pub free_by : {W : Type 0} → FrameWire W → Option ℕ → ℕ
free_by w None = length w.held
free_by w (Some size) = if w.is_admitted then size else 0

abbrev pub free_size : {W : Type 0} → FrameWire W → ℕ
free_size w = if w.is_gated then free_by w (frame_end w.cursor w.held) else length w.held

-- The bytes up to the end of the frame that waits, if one does.
abbrev pub frame_waiting : {W : Type 0} → FrameWire W → Option (List ℕ)
frame_waiting w =
    if not w.is_gated || w.is_admitted then None
    else option_map (λ size. take size w.held) (frame_end w.cursor w.held)

abbrev pub with_admitted : {W : Type 0} → FrameWire W → FrameWire W
with_admitted w = record w { is_admitted = true }

-- After a front of the held bytes is given out. At the end of a frame the next one begins, which is not admitted.
abbrev pub is_end : Option ℕ → ℕ → Bool
is_end None size = false
is_end (Some end) size = end == size

abbrev pub given_out : {W : Type 0} → ℕ → FrameWire W → FrameWire W
given_out size w =
    if is_end (frame_end w.cursor w.held) size
    then record w { held = drop size w.held; cursor = start_of_frame; is_admitted = false }
    else record w { held = drop size w.held; cursor = given_further w.cursor (take size w.held) }

-- Held bytes are given out, as many as can be and as the slice holds. If none can be, the read would block.
abbrev pub size_given : {W : Type 0} → ℕ → FrameWire W → ℕ
size_given room w = min (free_size w) room

abbrev pub IsGivenBy : {W : Type 0} → ℕ → FrameWire W → FrameWire W → ReadOutcome → List ℕ → Type 0
IsGivenBy zero old new outcome into = (outcome ≡ WouldBlock) × (new ≡ old)
IsGivenBy (suc n) old new outcome into =
    (outcome ≡ Bytes (suc n)) × (take (suc n) into ≡ take (suc n) old.held) × (new ≡ given_out (suc n) old)

abbrev pub IsGiven : {W : Type 0} → ℕ → FrameWire W → FrameWire W → ReadOutcome → List ℕ → Type 0
IsGiven room old new outcome into = IsGivenBy (size_given room old) old new outcome into

-- After a read of the wire inside. If it gave bytes, a front of them is given out.
abbrev pub IsGivenAfterBy : {W : Type 0} → Bool → ReadOutcome → ℕ → FrameWire W → FrameWire W → ReadOutcome → Type 0
IsGivenAfterBy true received room between new outcome = (into : List ℕ) × IsGiven room between new outcome into
IsGivenAfterBy false received room between new outcome = (new ≡ between) × (outcome ≡ received)

abbrev pub IsGivenAfter : {W : Type 0} → ReadOutcome → ℕ → FrameWire W → FrameWire W → ReadOutcome → Type 0
IsGivenAfter received room between new outcome =
    IsGivenAfterBy (has_given received) received room between new outcome

-- One read of the wire inside, which is given 4,096 bytes to fill. What it gives is held.
pub record IsFilled {W : Type 0} (left : W → Option (List ℕ)) (known : W → Option KnownCalls) (counts : W → WireCounts)
    (old between : FrameWire W) (outcome : ReadOutcome) : Type 0 where
  pub read : Consumes (left old.wire) (left between.wire) between.held
  pub bytes : AreReadBy outcome between.held
  pub known_is : known between.wire ≡ option_map (with_asked 4096) (known old.wire)
  pub counts_are : counts between.wire ≡ after_read outcome (counts old.wire)
  pub same : between ≡ record old { wire = between.wire; held = between.held }

-- Then a front of that is given out.
abbrev pub IsFilledAndGiven : {W : Type 0} → (W → Option (List ℕ)) → (W → Option KnownCalls) → (W → WireCounts) → ℕ
    → FrameWire W → FrameWire W → ReadOutcome → Type 0
IsFilledAndGiven {W = W} left known counts size old new outcome =
    (between : FrameWire W) × (received : ReadOutcome) × IsFilled left known counts old between received
    × IsGivenAfter received size between new outcome

-- A read of a wire that holds nothing and is not gated is a read of the wire inside.
pub record IsReadThrough {W : Type 0} (known : W → Option KnownCalls) (counts : W → WireCounts) (size : ℕ)
    (old new : FrameWire W) (outcome : ReadOutcome) : Type 0 where
  pub known_is : known new.wire ≡ option_map (with_asked size) (known old.wire)
  pub counts_are : counts new.wire ≡ after_read outcome (counts old.wire)
  pub same : new ≡ record old { wire = new.wire }

-- A read that is given so many bytes to fill. If nothing is held, the wire inside is read once. Then held bytes are given
-- out.
pub record IsReadGated {W : Type 0} (left : W → Option (List ℕ)) (known : W → Option KnownCalls) (counts : W → WireCounts)
    (size : ℕ) (old new : FrameWire W) (outcome : ReadOutcome) : Type 0 where
  pub held : old.held ≢ [] → (into : List ℕ) × IsGiven size old new outcome into
  pub through : old.held ≡ [] → old.is_gated ≡ false → IsReadThrough known counts size old new outcome
  pub filled : old.held ≡ [] → old.is_gated ≡ true → IsFilledAndGiven left known counts size old new outcome
