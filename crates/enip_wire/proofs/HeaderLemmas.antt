-- The header that bytes spell, and the bytes that spell a header.
use Rattle.std.proofs.Common.{◌≡◌, ℕ, ◌≤◌, List, [], ◌∷◌, ◌++◌, length, take, drop, refl, sym, ap, ◌∙◌, arith, append-nil, append_assoc, length-append}
use Rattle.std.proofs.lemmas.List.{take-append-drop, drop-drop, drop_all}
use Rattle.enip_wire.specs.declared.header.Header.{Header}
use Rattle.cip_bytes.specs.Numbers.{AreBytes}
use Rattle.enip_wire.specs.Headers.{header_spelling, header_at, IsHeader}
use Rattle.cip_bytes.proofs.Bytes.{cells, drop-cells, le-number_at_2, le-number_at_4, of_two, of_four}

joined : {a a' b b' c c' d d' e e' f f' : List ℕ} → a ≡ a' → b ≡ b' → c ≡ c' → d ≡ d' → e ≡ e' → f ≡ f'
    → a ++ b ++ c ++ d ++ e ++ f ≡ a' ++ b' ++ c' ++ d' ++ e' ++ f'
joined p q r s t u = cc

-- Any 24 bytes spell the header that is read from them.
pub header_spelling-header_at : (bytes : List ℕ) → 24 ≤ length bytes → AreBytes bytes
    → header_spelling (header_at bytes) ++ drop 24 bytes ≡ bytes
header_spelling-header_at bytes long fits =
    let spelled : header_spelling (header_at bytes)
    ≡ cells 12 0 bytes ++ take 8 (drop 12 bytes) ++ cells 4 20 bytes
    = joined (le-number_at_2 0 bytes fits) (le-number_at_2 2 bytes fits) (le-number_at_4 4 bytes fits)
    (le-number_at_4 8 bytes fits) refl (le-number_at_4 20 bytes fits) in
    let first : bytes ≡ cells 12 0 bytes ++ drop 12 bytes = drop-cells 12 0 bytes (omega arith) in
    let middle : drop 12 bytes ≡ take 8 (drop 12 bytes) ++ drop 20 bytes
    = sym (take-append-drop 8 (drop 12 bytes)) ∙ ap (λ r. take 8 (drop 12 bytes) ++ r) (drop-drop 8 12 bytes) in
    let last : drop 20 bytes ≡ cells 4 20 bytes ++ drop 24 bytes = drop-cells 4 20 bytes (omega arith) in
    ap (λ s. s ++ drop 24 bytes) spelled
    ∙ append_assoc (cells 12 0 bytes ++ take 8 (drop 12 bytes)) (cells 4 20 bytes) (drop 24 bytes)
    ∙ ap (λ r. (cells 12 0 bytes ++ take 8 (drop 12 bytes)) ++ r) (sym last)
    ∙ append_assoc (cells 12 0 bytes) (take 8 (drop 12 bytes)) (drop 20 bytes)
    ∙ ap (λ r. cells 12 0 bytes ++ r) (sym middle) ∙ sym first

pub same_header : {a b : ℕ} {c d : ℕ} {s t : ℕ} {u v : ℕ} {x y : List ℕ} {o p : ℕ}
    → a ≡ b → c ≡ d → s ≡ t → u ≡ v → x ≡ y → o ≡ p
    → ◌≡◌ {A = Header}
    (record { command = a; length = c; session = s; status = u; context = x; options = o })
    (record { command = b; length = d; session = t; status = v; context = y; options = p })
same_header e1 e2 e3 e4 e5 e6 = cc

eight : (xs : List ℕ) → length xs ≡ 8 → xs ≡ cells 8 0 xs
eight xs h =
    drop-cells 8 0 xs (omega arith) ∙ ap (λ r. cells 8 0 xs ++ r) (drop_all 8 xs (omega arith))
    ∙ append-nil (cells 8 0 xs)

-- a context written out, byte by byte
at_cells : (h : Header) (a b c d e f g i : ℕ) (rest : List ℕ) → IsHeader h → h.context ≡ a ∷ b ∷ c ∷ d ∷ e ∷ f ∷ g ∷ i ∷ []
    → header_at (header_spelling h ++ rest) ≡ h
at_cells h a b c d e f g i rest ok e8 =
    rw e8 (
    same_header (of_two h.command ok.command) (of_two h.length ok.data_length) (of_four h.session ok.session)
    (of_four h.status ok.status) refl (of_four h.options ok.options)
    )

-- The spelling of a header reads as that header.
pub header_at-header_spelling : (h : Header) (rest : List ℕ) → IsHeader h → header_at (header_spelling h ++ rest) ≡ h
header_at-header_spelling h rest ok = at_cells h _ _ _ _ _ _ _ _ rest ok (eight h.context ok.context)

pub length-header_spelling : (h : Header) → length h.context ≡ 8 → length (header_spelling h) ≡ 24
length-header_spelling h e = simp length-append (omega arith)
