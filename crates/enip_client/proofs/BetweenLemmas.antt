-- What a client holds between its calls.
use Rattle.std.proofs.Common.{◌≡◌, ℕ, List, [], ◌∷◌, take, refl, subst, lit<}
use Rattle.cip_bytes.specs.Numbers.{AreBytes}
use Rattle.cip_bytes.proofs.Bytes.{AreBytes-append, AreBytes-take}
use Rattle.enip_wire.specs.Frames.{Frame, IsTooLong}
use Rattle.enip_wire.specs.Stream.{Parsed, parsed, held_and_taken, bytes_taken, held_after_next, held_after_parse, cleared}
use Rattle.enip_wire.specs.Stream.Parsed.{Incomplete, WholeFrame, TooLongHeader}
use Rattle.enip_wire.proofs.ParsedLemmas.{seen-long}
use Rattle.enip_client.specs.declared.state.State.{State}
use Rattle.enip_client.specs.Client.{ClientState, client_in, IsBetween, IsListening}

pub no_bytes : AreBytes []
no_bytes i = lit< tt

bytes_cleared : (bytes : List ℕ) (seen : Parsed) → AreBytes bytes → AreBytes (cleared seen bytes)
bytes_cleared bytes Incomplete fits = fits
bytes_cleared bytes (WholeFrame f) fits = no_bytes
bytes_cleared bytes (TooLongHeader h) fits = fits

bytes_after : (held bytes : List ℕ) (seen : Parsed) → AreBytes bytes → AreBytes (held_after_parse held bytes seen)
bytes_after held bytes Incomplete fits = fits
bytes_after held bytes (TooLongHeader h) fits = fits
bytes_after [] bytes (WholeFrame f) fits = no_bytes
bytes_after (x ∷ xs) bytes (WholeFrame f) fits = fits

-- what a reader holds after a piece consists of bytes
pub bytes_left : (bytes piece : List ℕ) → AreBytes bytes → AreBytes piece
    → AreBytes (held_after_next (cleared (parsed bytes) bytes) piece)
bytes_left bytes piece fits more =
    let held : List ℕ = cleared (parsed bytes) bytes in
    bytes_after held (held_and_taken held piece) (parsed (held_and_taken held piece))
    (AreBytes-append held (take (bytes_taken held piece) piece) (bytes_cleared bytes (parsed bytes) fits)
    (AreBytes-take (bytes_taken held piece) piece more))

unheard : (bytes : List ℕ) (seen : Parsed) (f : Frame) → parsed bytes ≡ seen → parsed (cleared seen bytes) ≡ WholeFrame f → ⊥
unheard bytes Incomplete f is said = cc
unheard bytes (WholeFrame g) f is said = cc
unheard bytes (TooLongHeader h) f is said = cc

partly : (bytes : List ℕ) (seen : Parsed) → parsed bytes ≡ seen → (IsTooLong bytes → ⊥)
    → parsed (cleared seen bytes) ≡ Incomplete
partly bytes Incomplete is short = is
partly bytes (WholeFrame f) is short = refl
partly bytes (TooLongHeader h) is short = absurd (short (seen-long bytes h is))

pub between : (s : State) (bytes : List ℕ) → IsListening s bytes → AreBytes bytes → IsBetween (client_in s bytes)
between s bytes listening fits = record {
  bytes = bytes_cleared bytes (parsed bytes) fits;
  unheard = λ f is. unheard bytes (parsed bytes) f refl is;
  partly = λ none. partly bytes (parsed bytes) refl (listening none);
}

-- what a client consists of determines what it holds
pub between_of : (c : ClientState) (s : State) (bytes : List ℕ) → client_in s bytes ≡ c → IsListening s bytes × AreBytes bytes
    → IsBetween c
between_of c s bytes is p = subst IsBetween is (between s bytes p.0 p.1)
