-- Bodies with exactly two items, read at once.
use Rattle.std.proofs.Common.{◌≡◌, ℕ, ◌-◌, ◌≤◌, List, [], ◌∷◌, ◌++◌, length, take, drop, Ok, refl, sym, ap, subst, ◌∙◌, arith, append-nil, length-drop}
use Rattle.std.proofs.lemmas.List.{take_all}
use Rattle.cip_bytes.specs.Numbers.{le, number_at, AreBytes}
use Rattle.enip_wire.specs.Items.{items}
use Rattle.enip_wire.specs.Bodies.{null_address, connected_address, unconnected_data, connected_data, BeginsBody, rr_body_of, unit_body_of}
use Rattle.cip_bytes.proofs.Bytes.{at2, at4}
use Rattle.enip_wire.proofs.FrameLemmas.{number-two, number-four}
use Rattle.enip_wire.proofs.BodyLemmas.{begins_body-zero, rr_body_of-spells, unit_body_of-spells}

-- parts of a list, one by one
joined_five : {a a2 b b2 c c2 d d2 e e2 : List ℕ} → a ≡ a2 → b ≡ b2 → c ≡ c2 → d ≡ d2 → e ≡ e2
    → a ++ (b ++ (c ++ (d ++ e))) ≡ a2 ++ (b2 ++ (c2 ++ (d2 ++ e2)))
joined_five p q r s t = cc

joined_six : {a a2 b b2 c c2 d d2 e e2 f f2 : List ℕ} → a ≡ a2 → b ≡ b2 → c ≡ c2 → d ≡ d2 → e ≡ e2 → f ≡ f2
    → a ++ (b ++ (c ++ (d ++ (e ++ f)))) ≡ a2 ++ (b2 ++ (c2 ++ (d2 ++ (e2 ++ f2))))
joined_six p q r s t u = cc

-- the numbers after the timeout, and the data behind them
rr_parts : (text : List ℕ) → AreBytes text → 16 ≤ length text → drop 6 text
    ≡ le 2 (number_at 6 2 text) ++ (le 4 (number_at 8 4 text) ++ (le 2 (number_at 12 2 text)
    ++ (le 2 (number_at 14 2 text) ++ drop 16 text)))
rr_parts text fits long =
    (at2 6 text fits (omega arith)).is ∙ ap (λ r. le 2 (number_at 6 2 text) ++ r)
    ((at4 8 text fits (omega arith)).is ∙ ap (λ r. le 4 (number_at 8 4 text) ++ r)
    ((at2 12 text fits (omega arith)).is ∙ ap (λ r. le 2 (number_at 12 2 text) ++ r)
    (at2 14 text fits (omega arith)).is))

unit_parts : (text : List ℕ) → AreBytes text → 20 ≤ length text → drop 6 text
    ≡ le 2 (number_at 6 2 text) ++ (le 4 (number_at 8 4 text) ++ (le 4 (number_at 12 4 text) ++ (le 2 (number_at 16 2 text)
    ++ (le 2 (number_at 18 2 text) ++ drop 20 text))))
unit_parts text fits long =
    (at2 6 text fits (omega arith)).is ∙ ap (λ r. le 2 (number_at 6 2 text) ++ r)
    ((at4 8 text fits (omega arith)).is ∙ ap (λ r. le 4 (number_at 8 4 text) ++ r)
    ((at4 12 text fits (omega arith)).is ∙ ap (λ r. le 4 (number_at 12 4 text) ++ r)
    ((at2 16 text fits (omega arith)).is ∙ ap (λ r. le 2 (number_at 16 2 text) ++ r)
    (at2 18 text fits (omega arith)).is)))

rr_items : (text : List ℕ) → AreBytes text → 16 ≤ length text → number_at 6 2 text ≡ 2 → number_at 8 4 text ≡ 0
    → number_at 12 2 text ≡ 0xb2 → number_at 14 2 text ≡ length (drop 16 text)
    → drop 6 text ≡ items (null_address ∷ unconnected_data (drop 16 text) ∷ [])
rr_items text fits long count address kind size =
    rr_parts text fits long
    ∙ joined_five (ap (le 2) count) (ap (le 4) address) (ap (le 2) kind) (ap (le 2) size) (sym (append-nil (drop 16 text)))

unit_items : (text : List ℕ) → AreBytes text → 20 ≤ length text → number_at 6 2 text ≡ 2 → number_at 8 4 text ≡ 0x400a1
    → number_at 16 2 text ≡ 0xb1 → number_at 18 2 text ≡ length (drop 20 text)
    → drop 6 text ≡ items (connected_address (number_at 12 4 text) ∷ connected_data (drop 20 text) ∷ [])
unit_items text fits long count address kind size =
    unit_parts text fits long
    ∙ joined_six {c = le 4 (number_at 12 4 text)} (ap (le 2) count) (ap (le 4) address) refl (ap (le 2) kind) (ap (le 2) size) (sym (append-nil (drop 20 text)))

pub rr_plain : (text : List ℕ) → AreBytes text → 16 ≤ length text → number_at 0 4 text ≡ 0 → number_at 6 2 text ≡ 2
    → number_at 8 4 text ≡ 0 → number_at 12 2 text ≡ 0xb2 → number_at 14 2 text ≡ length text - 16
    → rr_body_of text ≡ Ok (drop 16 text)
rr_plain text fits long interface count address kind size =
    let sized : number_at 14 2 text ≡ length (drop 16 text) = size ∙ sym (length-drop 16 text) in
    let begins : BeginsBody text (drop 6 text) = begins_body-zero text fits (omega arith) interface in
    rr_body_of-spells text (Ok (drop 16 text)) fits (record {
      further = [];
      body = record {
        are_items = record {
          count = omega arith;
          each = (
            record { kind = omega arith; counted = omega arith },
            (record { kind = omega arith; counted = omega (arith, sized, number-two 14 text fits) }, tt),
          );
        };
        begins_body = record {
          timeout = begins.timeout;
          two_bytes = begins.two_bytes;
          spelled = begins.spelled
              ∙ ap (λ r. le 4 0 ++ (le 2 begins.timeout ++ r)) (rr_items text fits long count address kind sized);
        };
      };
    })

pub unit_plain : (text : List ℕ) → AreBytes text → 20 ≤ length text → number_at 0 4 text ≡ 0 → number_at 6 2 text ≡ 2
    → number_at 8 4 text ≡ 0x400a1 → number_at 16 2 text ≡ 0xb1 → number_at 18 2 text ≡ length text - 20
    → unit_body_of text ≡ Ok (number_at 12 4 text, drop 20 text)
unit_plain text fits long interface count address kind size =
    let sized : number_at 18 2 text ≡ length (drop 20 text) = size ∙ sym (length-drop 20 text) in
    let begins : BeginsBody text (drop 6 text) = begins_body-zero text fits (omega arith) interface in
    unit_body_of-spells text (Ok (number_at 12 4 text, drop 20 text)) fits (record {
      four_bytes = number-four 12 text fits;
      further = [];
      body = record {
        are_items = record {
          count = omega arith;
          each = (
            record { kind = omega arith; counted = omega arith },
            (record { kind = omega arith; counted = omega (arith, sized, number-two 18 text fits) }, tt),
          );
        };
        begins_body = record {
          timeout = begins.timeout;
          two_bytes = begins.two_bytes;
          spelled = begins.spelled
              ∙ ap (λ r. le 4 0 ++ (le 2 begins.timeout ++ r)) (unit_items text fits long count address kind sized);
        };
      };
    })

-- as the code reads them
pub rr_read : (text : List ℕ) → AreBytes text → 16 ≤ length text → number_at 0 4 text ≡ 0 → number_at 6 2 text ≡ 2
    → number_at 8 4 text ≡ 0 → number_at 12 2 text ≡ 0xb2 → number_at 14 2 text ≡ length text - 16
    → rr_body_of text ≡ Ok (take (length text - 16) (drop 16 text))
rr_read text fits long interface count address kind size =
    let rest : take (length text - 16) (drop 16 text) ≡ drop 16 text
    = take_all (length text - 16) (drop 16 text) (omega (arith, length-drop 16 text)) in
    subst (λ bytes. rr_body_of text ≡ Ok bytes) (sym rest) (rr_plain text fits long interface count address kind size)

pub unit_read : (text : List ℕ) (id : ℕ) → AreBytes text → 20 ≤ length text → number_at 0 4 text ≡ 0
    → number_at 6 2 text ≡ 2 → number_at 8 4 text ≡ 0x400a1 → number_at 16 2 text ≡ 0xb1
    → number_at 18 2 text ≡ length text - 20 → id ≡ number_at 12 4 text
    → unit_body_of text ≡ Ok (id, take (length text - 20) (drop 20 text))
unit_read text id fits long interface count address kind size found =
    let rest : take (length text - 20) (drop 20 text) ≡ drop 20 text
    = take_all (length text - 20) (drop 20 text) (omega (arith, length-drop 20 text)) in
    subst (λ bytes. unit_body_of text ≡ Ok (id, bytes)) (sym rest)
    (subst (λ n. unit_body_of text ≡ Ok (n, drop 20 text)) (sym found)
    (unit_plain text fits long interface count address kind size))
