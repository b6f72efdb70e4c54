-- Numbers of two bytes, one after another.
use Rattle.std.specs.Prelude.{slice_index}
use Rattle.std.proofs.Common.{zero, suc, ◌≡◌, ℕ, ◌+◌, ◌*◌, ◌<◌, ◌≤◌, List, [], ◌∷◌, length, drop, refl, ap, ◌∙◌, arith}
use Rattle.std.proofs.lemmas.List.{drop-drop, length-drop}
use Rattle.byteorder.specs.Endian.{little_number}
use Rattle.cip_bytes.specs.Numbers.{words_of}

words_head : (xs : List ℕ) → 2 ≤ length xs → words_of xs ≡ little_number 2 xs ∷ words_of (drop 2 xs)
words_head [] h = absurd (omega arith)
words_head (a ∷ []) h = absurd (omega arith)
words_head (a ∷ b ∷ rest) h = ap (λ n. n ∷ words_of rest) (omega arith)

-- the numbers from index k on begin with the one at k
pub words_step : (k : ℕ) (xs : List ℕ) → 2 * k + 2 ≤ length xs → words_of (drop (2 * k) xs) ≡ little_number 2 (drop (2 * k) xs) ∷ words_of (drop (2 * (k + 1)) xs)
words_step k xs h =
    words_head (drop (2 * k) xs) (omega (arith, length-drop (2 * k) xs))
    ∙ ap (λ l. little_number 2 (drop (2 * k) xs) ∷ words_of l) (drop-drop 2 (2 * k) xs ∙ ap (λ n. drop n xs) (let e : 2 * k + 2 ≡ 2 * (k + 1) = omega arith in e))

-- fewer than two bytes have no number
pub words_end : (xs : List ℕ) → length xs < 2 → words_of xs ≡ []
words_end [] h = refl
words_end (a ∷ []) h = refl
words_end (a ∷ b ∷ rest) h = absurd (omega arith)

pub ruleset words = (words_step, words_end)

-- the numbers from index k on begin with the one at k
pub number_step : (k : ℕ) (ns : List ℕ) → k < length ns → drop k ns ≡ slice_index ns k ∷ drop (k + 1) ns
number_step k [] h = absurd (omega arith)
number_step zero (n ∷ ns) h = refl
number_step (suc k) (n ∷ ns) h =
    number_step k ns (omega arith)
    ∙ ap (λ j. slice_index ns k ∷ drop j (n ∷ ns)) (let e : suc (k + 1) ≡ suc k + 1 = omega arith in e)

-- nothing comes after the last
pub number_end : (k : ℕ) (ns : List ℕ) → length ns ≤ k → drop k ns ≡ []
number_end zero [] h = refl
number_end (suc k) [] h = refl
number_end zero (n ∷ ns) h = absurd (omega arith)
number_end (suc k) (n ∷ ns) h = number_end k ns (omega arith)

pub ruleset numbers = (number_step, number_end)
