-- What a reader holds after a frame was read in place, or gathered.
use Rattle.std.proofs.Common.{◌≡◌, ℕ, List, [], ◌∷◌, ◌++◌, take, refl, sym, ap, ◌∙◌}
use Rattle.std.specs.Prelude.{Option, Some, None, IfNone}
use Rattle.enip_wire.specs.Frames.{Frame}
use Rattle.enip_wire.specs.Stream.{Parsed, bytes_taken, parsed, held_after_parse, held_after_next, cleared}
use Rattle.enip_wire.specs.Stream.Parsed.{Incomplete, WholeFrame, TooLongHeader}

-- a claim about the value of an option that has none
pub of_none : {A P : Type 0} (o : Option A) → ((x : A) → o ≡ Some x → ⊥) → IfNone o P → P
of_none None none p = p
of_none (Some x) none p = absurd (none x refl)

-- what is not a frame is held
pub no_frame : (held bytes : List ℕ) (s : Parsed) → ((f : Frame) → s ≡ WholeFrame f → ⊥) → held_after_parse held bytes s ≡ bytes
no_frame held bytes Incomplete none = refl
no_frame held bytes (WholeFrame f) none = absurd (none f refl)
no_frame held bytes (TooLongHeader h) none = refl

-- a frame of which some bytes were held is held
pub some_held : (held bytes : List ℕ) (s : Parsed) → (held ≡ [] → ⊥) → held_after_parse held bytes s ≡ bytes
some_held held bytes Incomplete some = refl
some_held held bytes (TooLongHeader h) some = refl
some_held [] bytes (WholeFrame f) some = absurd (some refl)
some_held (x ∷ xs) bytes (WholeFrame f) some = refl

-- what `push` leaves is what `next` leaves
pub held_after_next-pushed : (held piece new : List ℕ) (n : ℕ) → n ≡ bytes_taken held piece → new ≡ held ++ take n piece
    → held_after_parse held new (parsed new) ≡ new → new ≡ held_after_next held piece
held_after_next-pushed held piece new n number is kept =
    let whole : new ≡ held ++ take (bytes_taken held piece) piece = is ∙ ap (λ k. held ++ take k piece) number in
    sym kept ∙ ap (λ bytes. held_after_parse held bytes (parsed bytes)) whole

pub cleared-left : (held bytes : List ℕ) (s : Parsed) → cleared s (held_after_parse held bytes s) ≡ cleared s bytes
cleared-left held bytes Incomplete = refl
cleared-left held bytes (WholeFrame f) = refl
cleared-left held bytes (TooLongHeader h) = refl
