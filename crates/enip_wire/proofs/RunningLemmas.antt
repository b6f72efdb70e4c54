-- Bytes on the way to the end of a frame, by numbers alone.
use Rattle.std.proofs.Common.{◌≡◌, ℕ, ◌+◌, ◌-◌, ◌≤◌, ◌<◌, inl, inr, min, List, [], ◌∷◌, ◌++◌, length, take, sym, ap}
use Rattle.std.proofs.Common.{subst, ◌∙◌, arith, append_assoc, length-append, length-take}
use Rattle.std.proofs.Math.Seq.{take-append-add}
use Rattle.std.proofs.lemmas.Bool.{cases_lt, cases_eq}
use Rattle.std.proofs.lemmas.Bool.Decides.{nat_tests}
use Rattle.cip_bytes.specs.Numbers.{number_at}
use Rattle.enip_wire.specs.Frames.{end_after}
use Rattle.enip_wire.specs.Headers.{header_at}
use Rattle.enip_wire.specs.Stream.{bytes_taken, parsed}
use Rattle.enip_wire.specs.Stream.Parsed.{Incomplete, WholeFrame, TooLongHeader}
use Rattle.enip_wire.proofs.FrameLemmas.{number_at-append, number_at-take, end_after-least, end_after-within}
use Rattle.enip_wire.proofs.ParseFrameLemmas.{parsed-short, parsed-long, parsed-frame}

-- more bytes are needed
pub record IsRunning (held : List ℕ) : Type 0 where
  pub before : 24 ≤ length held → length held < end_after (number_at 2 2 held)

pub running-empty : IsRunning []
running-empty = record { before = λ h. absurd (omega arith) }

pub bytes_taken-short : (held piece : List ℕ) → length held + length piece < 24 → bytes_taken held piece ≡ length piece
bytes_taken-short held piece h = grind (arith, nat_tests)

pub bytes_taken-long : (held piece : List ℕ) → 24 ≤ length held + length piece
    → bytes_taken held piece ≡ min (end_after (number_at 2 2 (held ++ piece)) - length held) (length piece)
bytes_taken-long held piece h = grind (arith, nat_tests)

-- what is held ends where what is joined with it ends
end-joined : (held piece : List ℕ) → 4 ≤ length held
    → end_after (number_at 2 2 (held ++ piece)) ≡ end_after (number_at 2 2 held)
end-joined held piece h = ap end_after (number_at-append held piece h)

-- more bytes are needed than are held
pub end-past : (held piece : List ℕ) → IsRunning held → length held < end_after (number_at 2 2 (held ++ piece))
end-past held piece r =
    elim (cases_lt (length held) 24) [
      | inl short ↦ omega (arith, end_after-least (number_at 2 2 (held ++ piece)))
      | inr long ↦ subst (λ e. length held < e) (sym (end-joined held piece (omega arith))) (r.before long)
    ]

pub bytes_taken-some : (held : List ℕ) (b : ℕ) (bs : List ℕ) → IsRunning held → 1 ≤ bytes_taken held (b ∷ bs)
bytes_taken-some held b bs r =
    elim (cases_lt (length held + length (b ∷ bs)) 24) [
      | inl short ↦ omega (arith, bytes_taken-short held (b ∷ bs) short)
      | inr long ↦ omega (arith, bytes_taken-long held (b ∷ bs) long, end-past held (b ∷ bs) r)
    ]

pub bytes_taken-within : (held piece : List ℕ) → bytes_taken held piece ≤ length piece
bytes_taken-within held piece =
    elim (cases_lt (length held + length piece) 24) [
      | inl short ↦ omega (arith, bytes_taken-short held piece short)
      | inr long ↦ omega (arith, bytes_taken-long held piece long)
    ]

pub bytes_taken-one : (held : List ℕ) (b : ℕ) → IsRunning held → bytes_taken held (b ∷ []) ≡ 1
bytes_taken-one held b r = omega (arith, bytes_taken-some held b [] r, bytes_taken-within held (b ∷ []))

pub bytes_taken-next : (held : List ℕ) (b : ℕ) (bs : List ℕ) → bytes_taken (held ++ b ∷ []) bs ≡ bytes_taken held (b ∷ bs) - 1
bytes_taken-next held b bs =
    let whole : (held ++ b ∷ []) ++ bs ≡ held ++ b ∷ bs = append_assoc held (b ∷ []) bs in
    let size : length (held ++ b ∷ []) ≡ length held + 1 = length-append held (b ∷ []) in
    elim (cases_lt (length held + length (b ∷ bs)) 24) [
      | inl short ↦
          omega (arith, bytes_taken-short held (b ∷ bs) short, bytes_taken-short (held ++ b ∷ []) bs (omega arith))
      | inr long ↦
          let next : bytes_taken (held ++ b ∷ []) bs
          ≡ min (end_after (number_at 2 2 ((held ++ b ∷ []) ++ bs)) - length (held ++ b ∷ [])) (length bs)
          = bytes_taken-long (held ++ b ∷ []) bs (omega arith) in
          let end : end_after (number_at 2 2 ((held ++ b ∷ []) ++ bs)) ≡ end_after (number_at 2 2 (held ++ b ∷ bs))
          = ap (λ s. end_after (number_at 2 2 s)) whole in
          omega (arith, bytes_taken-long held (b ∷ bs) long)
    ]

pub running-next : (held : List ℕ) (b : ℕ) (bs : List ℕ) → IsRunning held → 2 ≤ bytes_taken held (b ∷ bs)
    → IsRunning (held ++ b ∷ [])
running-next held b bs r two =
    let whole : (held ++ b ∷ []) ++ bs ≡ held ++ b ∷ bs = append_assoc held (b ∷ []) bs in
    let size : length (held ++ b ∷ []) ≡ length held + 1 = length-append held (b ∷ []) in
    record {
      before = λ long.
          let end : end_after (number_at 2 2 (held ++ b ∷ bs)) ≡ end_after (number_at 2 2 (held ++ b ∷ []))
          = ap (λ s. end_after (number_at 2 2 s)) (sym whole) ∙ end-joined (held ++ b ∷ []) bs (omega arith) in
          elim (cases_lt (length held + length (b ∷ bs)) 24) [
            | inl short ↦ absurd (omega (arith, bytes_taken-short held (b ∷ bs) short))
            | inr far ↦ omega (arith, bytes_taken-long held (b ∷ bs) far)
          ];
    }

pub parsed-running : (held : List ℕ) → IsRunning held → parsed held ≡ Incomplete
parsed-running held r =
    elim (cases_lt (length held) 24) [
      | inl short ↦ parsed-short held short
      | inr long ↦ waits held long (r.before long)
    ]
  where
    waits : (bytes : List ℕ) → 24 ≤ length bytes → length bytes < end_after (number_at 2 2 bytes) → parsed bytes
        ≡ Incomplete
    waits bytes long before = grind (arith, nat_tests)

pub running-taken : (held piece : List ℕ) → IsRunning held
    → parsed (held ++ take (bytes_taken held piece) piece) ≡ Incomplete
    → IsRunning (held ++ take (bytes_taken held piece) piece)
running-taken held piece r none =
    let after : List ℕ = held ++ take (bytes_taken held piece) piece in
    let taken : length (take (bytes_taken held piece) piece) ≡ bytes_taken held piece
    = length-take (bytes_taken held piece) piece ∙ omega (arith, bytes_taken-within held piece) in
    let size : length (held ++ take (bytes_taken held piece) piece) ≡ length held + bytes_taken held piece
    = length-append held (take (bytes_taken held piece) piece) ∙ ap (λ n. length held + n) taken in
    record {
      before = λ long.
          let same : number_at 2 2 (held ++ take (bytes_taken held piece) piece) ≡ number_at 2 2 (held ++ piece)
          = ap (λ s. number_at 2 2 s) (sym (take-append-add held piece (bytes_taken held piece)))
          ∙ number_at-take (length held + bytes_taken held piece) (held ++ piece) (omega arith) in
          let end : end_after (number_at 2 2 (held ++ take (bytes_taken held piece) piece))
          ≡ end_after (number_at 2 2 (held ++ piece))
          = ap end_after same in
          let most : length (held ++ take (bytes_taken held piece) piece) ≤ end_after (number_at 2 2 (held ++ piece))
          = elim (cases_lt (length held + length piece) 24) [
            | inl short ↦ absurd (omega (arith, bytes_taken-within held piece))
            | inr far ↦ omega (arith, bytes_taken-long held piece far, end-past held piece r)
          ] in
          elim (cases_lt 65511 (number_at 2 2 (held ++ take (bytes_taken held piece) piece))) [
            | inl over ↦
                let long_one : parsed (held ++ take (bytes_taken held piece) piece)
                ≡ TooLongHeader (header_at (held ++ take (bytes_taken held piece) piece))
                = parsed-long (held ++ take (bytes_taken held piece) piece) long over in
                let bad : Incomplete
                ≡ TooLongHeader (header_at (held ++ take (bytes_taken held piece) piece)) = sym none ∙ long_one in
                cc
            | inr within ↦
                elim (cases_eq (length (held ++ take (bytes_taken held piece) piece))
                (24 + number_at 2 2 (held ++ take (bytes_taken held piece) piece))) [
                  | inl full ↦
                      let bad : Incomplete ≡ WholeFrame _ = sym none
                      ∙ parsed-frame (held ++ take (bytes_taken held piece) piece) long within full in
                      cc
                  | inr less ↦
                      omega (arith, end_after-within (number_at 2 2 (held ++ take (bytes_taken held piece) piece)) within)
                ]
          ];
    }
