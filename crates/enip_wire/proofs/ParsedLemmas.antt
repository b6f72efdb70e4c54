-- What bytes parse as, and which bytes do not begin with a frame.
use Rattle.std.proofs.Common.{◌≡◌, ℕ, ◌+◌, ◌<◌, ◌≤◌, inl, inr, List, [], ◌∷◌, ◌++◌, length, drop, sym, ap, subst, ◌∙◌}
use Rattle.std.proofs.Common.{arith, append_assoc, length-append, length-drop}
use Rattle.std.specs.List.{flat_map, AllByRecursion}
use Rattle.std.proofs.lemmas.Grind.{flat_map-append}
use Rattle.std.proofs.lemmas.Bool.{cases_lt, cases_eq}
use Rattle.std.proofs.lemmas.Bool.Decides.{nat_tests}
use Rattle.cip_bytes.specs.Numbers.{number_at, AreBytes}
use Rattle.enip_wire.specs.Headers.{header_at}
use Rattle.enip_wire.specs.Frames.{Frame, frame, IsFrame, IsTooLong, end_after}
use Rattle.enip_wire.specs.Stream.{Cut, parsed}
use Rattle.enip_wire.specs.Stream.Parsed.{Incomplete, WholeFrame, TooLongHeader}
use Rattle.enip_wire.proofs.FrameLemmas.{number_at-frame, length-frame, end_after-within, end_after-over}
use Rattle.enip_wire.proofs.FrameLemmas.{IsHeader-header_at}
use Rattle.enip_wire.proofs.HeaderLemmas.{header_spelling-header_at}
use Rattle.enip_wire.proofs.RunningLemmas.{IsRunning}
use Rattle.enip_wire.proofs.ParseFrameLemmas.{parsed-short, parsed-long, parsed-frame}

-- The bytes do not begin with a frame.
abbrev pub HasNone : List ℕ → Type 0
HasNone bytes = (f : Frame) (more : List ℕ) → IsFrame f → bytes ≡ frame f ++ more → ⊥

pub none-running : (bytes : List ℕ) → IsRunning bytes → HasNone bytes
none-running bytes running f more ok e =
    let says : number_at 2 2 bytes ≡ f.header.length = ap (λ b. number_at 2 2 b) e ∙ number_at-frame f more ok in
    let size : length bytes ≡ (24 + f.header.length) + length more
    = ap length e ∙ (length-append (frame f) more ∙ ap (λ n. n + length more) (length-frame f ok)) in
    let before : length bytes < end_after (number_at 2 2 bytes) = running.before (omega arith) in
    let end : end_after (number_at 2 2 bytes) ≡ 24 + f.header.length = ap end_after says
    ∙ end_after-within f.header.length ok.within in
    omega (arith, before, end, size)

pub none-long : (bytes : List ℕ) → IsTooLong bytes → HasNone bytes
none-long bytes over f more ok e =
    let says : number_at 2 2 bytes ≡ f.header.length = ap (λ b. number_at 2 2 b) e ∙ number_at-frame f more ok in
    omega (arith, says, over.over, ok.within)

-- What bytes parse as.
pub parsed-waits : (bytes : List ℕ) → 24 ≤ length bytes → number_at 2 2 bytes ≤ 65511
    → (length bytes ≡ 24 + number_at 2 2 bytes → ⊥)
    → parsed bytes ≡ Incomplete
parsed-waits bytes long within differs = grind (arith, nat_tests)

pub seen-frame : (bytes : List ℕ) (f : Frame) → AreBytes bytes → parsed bytes ≡ WholeFrame f
    → IsFrame f × (bytes ≡ frame f)
seen-frame bytes f fits e =
    elim (cases_lt (length bytes) 24) [
      | inl short ↦ let bad : Incomplete ≡ WholeFrame f = sym (parsed-short bytes short) ∙ e in cc
      | inr long ↦
          elim (cases_lt 65511 (number_at 2 2 bytes)) [
            | inl over ↦ let bad : TooLongHeader (header_at bytes) ≡ WholeFrame f = sym (parsed-long bytes long over)
                ∙ e in cc
            | inr within ↦
                elim (cases_eq (length bytes) (24 + number_at 2 2 bytes)) [
                  | inl full ↦
                      let g : Frame = record { header = header_at bytes; body = drop 24 bytes } in
                      let is : WholeFrame (record { header = header_at bytes; body = drop 24 bytes }) ≡ WholeFrame f
                      = sym (parsed-frame bytes long within full) ∙ e in
                      let same : ◌≡◌ {A = Frame} (record { header = header_at bytes; body = drop 24 bytes }) f = cc in
                      subst (λ h. IsFrame h × (bytes ≡ frame h)) same (
                        record {
                          fields = IsHeader-header_at bytes long fits;
                          counted = length-drop 24 bytes ∙ omega (arith, full);
                          within = within;
                        },
                        sym (header_spelling-header_at bytes long fits),
                      )
                  | inr differs ↦ let bad : Incomplete ≡ WholeFrame f = sym (parsed-waits bytes long within differs)
                      ∙ e in cc
                ]
          ]
    ]

pub seen-long : (bytes : List ℕ) (h : _) → parsed bytes ≡ TooLongHeader h → IsTooLong bytes
seen-long bytes h e =
    elim (cases_lt (length bytes) 24) [
      | inl short ↦ let bad : Incomplete ≡ TooLongHeader h = sym (parsed-short bytes short) ∙ e in cc
      | inr long ↦
          elim (cases_lt 65511 (number_at 2 2 bytes)) [
            | inl over ↦ record { header = long; over = over }
            | inr within ↦
                elim (cases_eq (length bytes) (24 + number_at 2 2 bytes)) [
                  | inl full ↦ let bad : WholeFrame _ ≡ TooLongHeader h = sym (parsed-frame bytes long within full)
                      ∙ e in cc
                  | inr differs ↦ let bad : Incomplete
                      ≡ TooLongHeader h = sym (parsed-waits bytes long within differs) ∙ e in cc
                ]
          ]
    ]

-- Bytes that parse as a frame or a long header end where it does.
pub parsed_frame-size : (bytes : List ℕ) → (parsed bytes ≡ Incomplete → ⊥) → 24 ≤ length bytes
    × (length bytes ≤ end_after (number_at 2 2 bytes) → length bytes ≡ end_after (number_at 2 2 bytes))
parsed_frame-size bytes some =
    elim (cases_lt (length bytes) 24) [
      | inl short ↦ absurd (some (parsed-short bytes short))
      | inr long ↦
          elim (cases_lt 65511 (number_at 2 2 bytes)) [
            | inl over ↦ (long, λ most. omega (arith, end_after-over (number_at 2 2 bytes) over))
            | inr within ↦
                elim (cases_eq (length bytes) (24 + number_at 2 2 bytes)) [
                  | inl full ↦ (long, λ most. omega (arith, full, end_after-within (number_at 2 2 bytes) within))
                  | inr differs ↦ absurd (some (parsed-waits bytes long within differs))
                ]
          ]
    ]

each-append : (fs gs : List Frame) → AllByRecursion IsFrame fs → AllByRecursion IsFrame gs
    → AllByRecursion IsFrame (fs ++ gs)
each-append [] gs a b = b
each-append (f ∷ fs) gs a b = (a.0, each-append fs gs a.1 b)

-- What is taken now and what is taken later, together.
pub then-cut : (bytes taken more left rest : List ℕ) (fs gs : List Frame) → bytes ++ taken ≡ flat_map frame fs ++ left
    → AllByRecursion IsFrame fs → Cut (left ++ more) gs rest → Cut (bytes ++ (taken ++ more)) (fs ++ gs) rest
then-cut bytes taken more left rest fs gs first each cut = record {
  parts = sym (append_assoc bytes taken more) ∙ (ap (λ s. s ++ more) first
      ∙ (append_assoc (flat_map frame fs) left more ∙ (ap (λ s. flat_map frame fs ++ s) cut.parts
      ∙ (sym (append_assoc (flat_map frame fs) (flat_map frame gs) rest)
      ∙ ap (λ s. s ++ rest) (sym (flat_map-append frame fs gs))))));
  each = each-append fs gs each cut.each;
  no_more = cut.no_more;
}
