-- How many bytes of a piece a reader takes.
use Rattle.std.proofs.Common.{◌≡◌, ℕ, zero, suc, append-nil, ◌+◌, ◌-◌, ◌<◌, ◌≤◌, inl, inr, min, List, ◌++◌, length, take, refl, sym, ap, subst, ◌∙◌, arith, length-append, length-take}
use Rattle.std.proofs.Math.Seq.{take-append-add}
use Rattle.std.proofs.lemmas.Bool.{cases_lt}
use Rattle.std.proofs.lemmas.List.{take-append-le, take-take}
use Rattle.cip_bytes.specs.Numbers.{number_at, AreBytes}
use Rattle.enip_wire.specs.Frames.{IsComplete, end_after}
use Rattle.enip_wire.specs.Stream.{IsAtMostOneFrame, Takes}
use Rattle.cip_bytes.proofs.Bytes.{AreBytes-append}
use Rattle.enip_wire.proofs.FrameLemmas.{end_after-most, number_at-append, end_after-least, not_before, stops_at, Sized, Sized-whole}

pub stops-header : (bytes : List ℕ) → IsComplete bytes → 24 ≤ length bytes
stops-header bytes (inl whole) = let s : Sized bytes = Sized-whole bytes whole in s.header
stops-header bytes (inr over) = over.header

-- the front of the held bytes joined with a piece
pub front : (held piece : List ℕ) (k : ℕ) → held ++ take k piece ≡ take (length held + k) (held ++ piece)
front held piece k = sym (take-append-add held piece k)

pub Takes-short : (held piece : List ℕ) → length held + length piece < 24 → Takes held piece (length piece)
Takes-short held piece short =
    record {
      within = omega arith;
      least = λ k below stops.
          let header : 24 ≤ length (held ++ take k piece) = stops-header (held ++ take k piece) stops in
          omega (arith, length-append held (take k piece), length-take k piece);
      ends = inr refl;
    }

-- what is held is no longer than its end
pub IsAtMostOneFrame-end : (held : List ℕ) → AreBytes held → IsAtMostOneFrame held → 24 ≤ length held
    → length held ≤ end_after (number_at 2 2 held)
IsAtMostOneFrame-end held fits fresh header =
    elim (cases_lt (end_after (number_at 2 2 held)) (length held)) [
      | inl past ↦ absurd (fresh.running _ past (stops_at held _ fits header refl (omega arith)))
      | inr within ↦ within
    ]

-- the end of the held bytes and a piece together is not before the end of the held bytes
pub IsAtMostOneFrame-end-append : (held piece : List ℕ) → AreBytes held → IsAtMostOneFrame held
    → length held ≤ end_after (number_at 2 2 (held ++ piece))
IsAtMostOneFrame-end-append held piece fits fresh =
    elim (cases_lt (length held) 24) [
      | inl short ↦ omega (arith, end_after-least (number_at 2 2 (held ++ piece)))
      | inr long ↦
          subst (λ n. length held ≤ end_after n) (sym (number_at-append held piece (omega arith)))
          (IsAtMostOneFrame-end held fits fresh long)
    ]

pub Takes-count : (held piece : List ℕ) (n : ℕ) → AreBytes held → AreBytes piece → IsAtMostOneFrame held
    → 24 ≤ length held + length piece
    → n ≡ min (end_after (number_at 2 2 (held ++ piece)) - length held) (length piece) → Takes held piece n
Takes-count held piece n f g fresh header e =
    let whole : length (held ++ piece) ≡ length held + length piece = length-append held piece in
    let least : 24 ≤ end_after (number_at 2 2 (held ++ piece)) = end_after-least (number_at 2 2 (held ++ piece)) in
    let begun : length held ≤ end_after (number_at 2 2 (held ++ piece)) = IsAtMostOneFrame-end-append held piece f fresh in
    record {
      within = omega arith;
      least = λ k below stops.
          not_before (held ++ piece) (length held + k) (omega arith) (omega arith) (subst IsComplete (front held piece k) stops);
      ends = elim (cases_lt n (length piece)) [
        | inl some ↦ inl (
            subst IsComplete (sym (front held piece n))
            (stops_at (held ++ piece) (length held + n) (AreBytes-append held piece f g) (omega arith) (omega arith) (omega arith))
            )
        | inr all ↦ inr (omega arith)
      ];
    }

-- what is held and taken is at most a frame
pub bound-count : (held piece : List ℕ) (n e : ℕ) → AreBytes held → IsAtMostOneFrame held
    → n ≡ min (e - length held) (length piece) → e ≤ 65535 → length held + n ≤ 65535
bound-count held piece n e f fresh is most =
    let begun : length held ≤ 65535
    = elim (cases_lt (length held) 24) [
      | inl short ↦ omega arith
      | inr long ↦ omega (arith, IsAtMostOneFrame-end held f fresh long, end_after-most (number_at 2 2 held))
    ] in
    omega arith

pub IsAtMostOneFrame-after : (held piece : List ℕ) (n : ℕ) → IsAtMostOneFrame held → Takes held piece n → IsAtMostOneFrame (held ++ take n piece)
IsAtMostOneFrame-after held piece n fresh takes =
    record {
      running = λ k below stops.
          elim (cases_lt k (length held)) [
            | inl front ↦
                let same : take k (held ++ take n piece) ≡ take k held
                = take-append-le k held (take n piece) (omega arith) in
                fresh.running k front (subst IsComplete same stops)
            | inr past ↦
                let within : n ≤ length piece = takes.within in
                let less : k - length held < n = omega (arith, length-append held (take n piece), length-take n piece) in
                let place : length held + (k - length held) ≡ k = omega arith in
                let same : take k (held ++ take n piece) ≡ held ++ take (k - length held) piece
                = ap (λ j. take j (held ++ take n piece)) (sym place)
                ∙ take-append-add held (take n piece) (k - length held)
                ∙ ap (λ r. held ++ r) (take-take (k - length held) n piece (omega arith)) in
                takes.least (k - length held) less (subst IsComplete same stops)
          ];
    }

-- while neither a whole frame nor a too long header is held, some bytes of a piece that is not empty are taken
pub some_taken : (held piece : List ℕ) (n : ℕ) → (IsComplete held → ⊥) → Takes held piece n → 0 < length piece → 0 < n
some_taken held piece (suc n) running takes some = omega arith
some_taken held piece zero running takes some =
    elim takes.ends [
      | inl stops ↦ absurd (running (subst IsComplete (append-nil held) stops))
      | inr whole ↦ omega (arith, whole, some)
    ]
