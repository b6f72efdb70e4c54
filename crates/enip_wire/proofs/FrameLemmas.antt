-- Whole frames and too long headers by their numbers.
use Rattle.std.proofs.Common.{◌≡◌, ℕ, suc, ◌+◌, ◌^◌, ◌<◌, ◌≤◌, inl, inr, List, ◌++◌, length, take, drop, refl, sym, ap, ◌∙◌, arith, append_assoc, length-append, length-take, length-drop}
use Rattle.std.proofs.Math.Seq.{take-append_seam}
use Rattle.std.proofs.lemmas.Bool.{cases_lt}
use Rattle.std.proofs.lemmas.Bool.Decides.{nat_tests}
use Rattle.byteorder.specs.Numbers.{little_from-take}
use Rattle.cip_bytes.specs.Numbers.{number_at, AreBytes}
use Rattle.cip_bytes.proofs.Bytes.{AreBytes-take}
use Rattle.enip_wire.specs.Headers.{header_spelling, header_at, IsHeader}
use Rattle.enip_wire.specs.Frames.{Frame, frame, IsFrame, IsWhole, IsComplete, end_after}
use Rattle.enip_wire.proofs.HeaderLemmas.{header_spelling-header_at, header_at-header_spelling, length-header_spelling}

pub number-two : (place : ℕ) (bytes : List ℕ) → AreBytes bytes → number_at place 2 bytes < 2 ^ 16
number-two i xs fits = omega (arith, fits i, fits (suc i))

pub number-four : (place : ℕ) (bytes : List ℕ) → AreBytes bytes → number_at place 4 bytes < 2 ^ 32
number-four i xs fits = omega (arith, fits i, fits (suc i), fits (suc (suc i)), fits (suc (suc (suc i))))

pub IsHeader-header_at : (bytes : List ℕ) → 24 ≤ length bytes → AreBytes bytes → IsHeader (header_at bytes)
IsHeader-header_at bytes long fits =
    record {
      command = number-two 0 bytes fits;
      data_length = number-two 2 bytes fits;
      session = number-four 4 bytes fits;
      status = number-four 8 bytes fits;
      context = simp (length-take, length-drop) (omega arith);
      options = number-four 20 bytes fits;
    }

-- the numbers of a whole frame
pub record Sized (bytes : List ℕ) : Type 0 where
  pub header : 24 ≤ length bytes
  pub within : number_at 2 2 bytes ≤ 65511
  pub total : length bytes ≡ 24 + number_at 2 2 bytes

pub number_at-frame : (f : Frame) (more : List ℕ) → IsFrame f → number_at 2 2 (frame f ++ more) ≡ f.header.length
number_at-frame f more ok =
    ap (λ b. number_at 2 2 b) (append_assoc (header_spelling f.header) f.body more)
    ∙ ap (λ h. h.length) (header_at-header_spelling f.header (f.body ++ more) ok.fields)

pub length-frame : (f : Frame) → IsFrame f → length (frame f) ≡ 24 + f.header.length
length-frame f ok =
    length-append (header_spelling f.header) f.body
    ∙ (let e : length (header_spelling f.header) ≡ 24 = length-header_spelling f.header ok.fields.context in
    let b : length f.body ≡ f.header.length = ok.counted in
    rw (e, b) refl)

pub Sized-whole : (bytes : List ℕ) → IsWhole bytes → Sized bytes
Sized-whole bytes w =
    let whole : length bytes ≡ 24 + w.of.header.length = ap length w.spelled ∙ length-frame w.of w.is_frame in
    let says : number_at 2 2 bytes ≡ w.of.header.length
    = ap (λ b. number_at 2 2 b) w.spelled
    ∙ ap (λ h. h.length) (header_at-header_spelling w.of.header w.of.body w.is_frame.fields) in
    let most : w.of.header.length ≤ 65511 = w.is_frame.within in
    record {
      header = omega (arith, whole);
      within = omega (arith, says, most);
      total = whole ∙ ap (λ n. 24 + n) (sym says);
    }

pub whole-Sized : (bytes : List ℕ) → AreBytes bytes → Sized bytes → IsWhole bytes
whole-Sized bytes fits s =
    let h : 24 ≤ length bytes = s.header in
    let t : length bytes ≡ 24 + number_at 2 2 bytes = s.total in
    record {
      of = record { header = header_at bytes; body = drop 24 bytes };
      is_frame = record {
        fields = IsHeader-header_at bytes h fits;
        counted = length-drop 24 bytes ∙ (omega (arith, t));
        within = s.within;
      };
      spelled = sym (header_spelling-header_at bytes h fits);
    }

pub end_after-over : (n : ℕ) → 65511 < n → end_after n ≡ 24
end_after-over n h = grind (arith, nat_tests)

pub end_after-within : (n : ℕ) → n ≤ 65511 → end_after n ≡ 24 + n
end_after-within n h = grind (arith, nat_tests)

pub end_after-least : (n : ℕ) → 24 ≤ end_after n
end_after-least n =
    elim (cases_lt 65511 n) [
      | inl over ↦ omega (arith, end_after-over n over)
      | inr within ↦ omega (arith, end_after-within n within)
    ]

pub end_after-most : (n : ℕ) → end_after n ≤ 65535
end_after-most n =
    elim (cases_lt 65511 n) [
      | inl over ↦ omega (arith, end_after-over n over)
      | inr within ↦ omega (arith, end_after-within n within)
    ]

pub number_at-take : (m : ℕ) (bytes : List ℕ) → 4 ≤ m → number_at 2 2 (take m bytes) ≡ number_at 2 2 bytes
number_at-take m bytes h = little_from-take 2 2 m bytes h

pub number_at-append : (xs ys : List ℕ) → 4 ≤ length xs → number_at 2 2 (xs ++ ys) ≡ number_at 2 2 xs
number_at-append xs ys h =
    sym (number_at-take (length xs) (xs ++ ys) h) ∙ ap (λ b. number_at 2 2 b) (take-append_seam xs ys)

-- no proper prefix is complete
pub not_before : (bytes : List ℕ) (m : ℕ) → m ≤ length bytes → m < end_after (number_at 2 2 bytes)
    → IsComplete (take m bytes) → ⊥
not_before bytes m short before (inl whole) =
    let s : Sized (take m bytes) = Sized-whole (take m bytes) whole in
    let size : length (take m bytes) ≡ m = simp length-take (omega arith) in
    let far : 24 ≤ m = omega (arith, s.header) in
    let same : number_at 2 2 (take m bytes) ≡ number_at 2 2 bytes = number_at-take m bytes (omega arith) in
    let e : end_after (number_at 2 2 bytes) ≡ 24 + number_at 2 2 bytes
    = end_after-within (number_at 2 2 bytes) (omega (arith, s.within)) in
    omega (arith, s.total)
not_before bytes m short before (inr over) =
    let size : length (take m bytes) ≡ m = simp length-take (omega arith) in
    let far : 24 ≤ m = omega (arith, over.header) in
    let same : number_at 2 2 (take m bytes) ≡ number_at 2 2 bytes = number_at-take m bytes (omega arith) in
    let e : end_after (number_at 2 2 bytes) ≡ 24
    = end_after-over (number_at 2 2 bytes) (omega (arith, over.over)) in
    omega arith

-- with such a header the bytes are complete at the end
pub stops_at : (bytes : List ℕ) (m : ℕ) → AreBytes bytes → 24 ≤ length bytes → m ≡ end_after (number_at 2 2 bytes)
    → m ≤ length bytes → IsComplete (take m bytes)
stops_at bytes m fits header e short =
    let far : 24 ≤ m = omega (arith, end_after-least (number_at 2 2 bytes)) in
    let size : length (take m bytes) ≡ m = simp length-take (omega arith) in
    let same : number_at 2 2 (take m bytes) ≡ number_at 2 2 bytes = number_at-take m bytes (omega arith) in
    elim (cases_lt 65511 (number_at 2 2 bytes)) [
      | inl over ↦ inr (record { header = omega arith; over = omega arith })
      | inr within ↦
          let f : end_after (number_at 2 2 bytes) ≡ 24 + number_at 2 2 bytes = end_after-within (number_at 2 2 bytes) within in
          inl (
          whole-Sized (take m bytes) (AreBytes-take m bytes fits)
          (record { header = omega arith; within = omega arith; total = omega arith })
          )
    ]
