-- Worked examples of the definitions.
use Rattle.std.proofs.Common.{◌≡◌, [], ◌∷◌, ◌++◌, take, refl}
use Rattle.enip_wire.specs.Headers.{header_at}
use Rattle.enip_wire.specs.Frames.{Frame, frame}
use Rattle.enip_wire.specs.Stream.{bytes_taken, parsed}
use Rattle.enip_wire.specs.Stream.Parsed.{Incomplete, WholeFrame, TooLongHeader}

-- RegisterSession
abbrev pub register : Frame
register =
    record {
      header = record {
        command = 0x65;
        length = 4;
        session = 0;
        status = 0;
        context = 1 ∷ 2 ∷ 3 ∷ 4 ∷ 5 ∷ 6 ∷ 7 ∷ 8 ∷ [];
        options = 0;
      };
      body = 1 ∷ 0 ∷ 0 ∷ 0 ∷ [];
    }

pub register-spelled : frame register
    ≡ 0x65 ∷ 0 ∷ 4 ∷ 0 ∷ 0 ∷ 0 ∷ 0 ∷ 0 ∷ 0 ∷ 0 ∷ 0 ∷ 0 ∷ 1 ∷ 2 ∷ 3 ∷ 4 ∷ 5 ∷ 6 ∷ 7 ∷ 8 ∷ 0 ∷ 0 ∷ 0 ∷ 0 ∷ 1 ∷ 0 ∷ 0 ∷ 0 ∷ []
register-spelled = refl

pub register-seen : parsed (frame register) ≡ WholeFrame register
register-seen = refl

pub register-cut_short : parsed (take 27 (frame register)) ≡ Incomplete
register-cut_short = refl

-- of two frames in one piece, one is taken
pub register-taken : bytes_taken [] (frame register ++ frame register) ≡ 28
register-taken = refl

-- a length of 65,512
pub too_long-seen : parsed (0 ∷ 0 ∷ 0xe8 ∷ 0xff ∷ take 20 (frame register))
    ≡ TooLongHeader (header_at (0 ∷ 0 ∷ 0xe8 ∷ 0xff ∷ take 20 (frame register)))
too_long-seen = refl
