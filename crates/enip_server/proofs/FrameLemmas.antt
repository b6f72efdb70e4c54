-- Wires that give out frames once they are admitted.
use Rattle.std.proofs.Common.{◌≡◌, ◌<◌, ◌≤◌, ℕ, List, [], ◌∷◌, ◌++◌, length, take, drop, Bool, true, false, Option, Some, None, refl, sym, ap, subst, ◌∙◌, append_assoc}
use Rattle.std.specs.Prelude.{option_map}
use Rattle.std.specs.Io.KnownBytes.{Consumes, IsAtEnd, prepend_known}
use Rattle.std.proofs.lemmas.Bool.{false≢true}
use Rattle.std.proofs.lemmas.List.{take-append-drop}
use Rattle.enip_server.specs.declared.wire.ReadOutcome.{ReadOutcome}
use Rattle.enip_server.specs.declared.wire.ReadOutcome.TheVariants.{Bytes, Drained, WouldBlock, End, Failed}
use Rattle.enip_server.specs.declared.frame_wire.FrameWire.{FrameWire}
use Rattle.enip_server.specs.declared.wire_counts.WireCounts.{WireCounts}
use Rattle.enip_server.specs.FrameWires.{IsFilled, IsFilledAndGiven, IsGiven, IsGivenAfterBy}
use Rattle.enip_server.specs.Wires.{KnownCalls, AreReadBy, IsRead, after_read, has_given, with_asked}

-- ---- bytes that are copied

take_first : (xs ys : List ℕ) → take (length xs) (xs ++ ys) ≡ xs
take_first [] ys = refl
take_first (x ∷ xs) ys = ap (λ zs. x ∷ zs) (take_first xs ys)

pub take_copied : (copied rest held : List ℕ) (n : ℕ) → copied ≡ take n held → length copied ≡ n
    → take n (copied ++ rest) ≡ take n held
take_copied copied rest held n is size =
    ap (λ m. take m (copied ++ rest)) (sym size) ∙ take_first copied rest ∙ is

-- ---- what is left to read

-- a front of what is held is given out
pub front_left : (held into : List ℕ) (n : ℕ) (left : Option (List ℕ)) → take n into ≡ take n held
    → Consumes (prepend_known held left) (prepend_known (drop n held) left) (take n into)
front_left held into n None is = tt
front_left held into n (Some xs) is =
    rw is (ap (λ ys. ys ++ xs) (sym (take-append-drop n held)) ∙ append_assoc (take n held) (drop n held) xs)

-- a read after the wire inside was read
pub after_fill : (old mid : Option (List ℕ)) (held : List ℕ) (after : Option (List ℕ)) (outcome : ReadOutcome)
    (into : List ℕ) → Consumes old mid held → IsRead (prepend_known held mid) after outcome into
    → IsRead (prepend_known [] old) after outcome into
after_fill None mid held after (Bytes size) into fills is = (is.0, is.1, tt)
after_fill None mid held after (Drained size) into fills is = (is.0, is.1, tt)
after_fill None mid held after WouldBlock into fills is = tt
after_fill None mid held after End into fills is = (tt, is.1)
after_fill None mid held after Failed into fills is = tt
after_fill (Some xs) None held after outcome into fills is = absurd fills
after_fill (Some xs) (Some ys) held after outcome into fills is =
    subst (λ zs. IsRead (Some zs) after outcome into) (sym fills) is

at_end : (left : Option (List ℕ)) → IsAtEnd left → IsAtEnd (prepend_known [] left)
at_end None is = tt
at_end (Some xs) is = is

-- ---- what is known

pub asked_over : (n m : ℕ) (known : Option KnownCalls)
    → option_map (with_asked n) (option_map (with_asked m) known) ≡ option_map (with_asked n) known
asked_over n m None = refl
asked_over n m (Some k) = refl

-- ---- a read of the wire inside, and what is given out after it

module _ {W : Type 0} (left : W → Option (List ℕ)) (known : W → Option KnownCalls) (counts : W → WireCounts) where
  pub is_filled : (old : FrameWire W) (wire : W) (held : List ℕ) (received : ReadOutcome)
      → Consumes (left old.wire) (left wire) held → AreReadBy received held
      → known wire ≡ option_map (with_asked 4096) (known old.wire) → counts wire ≡ after_read received (counts old.wire)
      → IsFilled left known counts old (record old { wire = wire; held = held }) received
  is_filled old wire held received reads by asked counted =
      record { read = reads; bytes = by; known_is = asked; counts_are = counted; same = refl }

  pub filled_and_given : (size : ℕ) (old between new : FrameWire W) (received outcome : ReadOutcome) (into : List ℕ)
      → IsFilled left known counts old between received → has_given received ≡ true
      → IsGiven size between new outcome into → IsFilledAndGiven left known counts size old new outcome
  filled_and_given size old between new received outcome into filled has given = (
    between,
    received,
    filled,
    subst (λ b. IsGivenAfterBy b received size between new outcome) (sym has) (into, given),
  )

  pub filled_alone : (size : ℕ) (old new : FrameWire W) (received : ReadOutcome)
      → IsFilled left known counts old new received → has_given received ≡ false
      → IsFilledAndGiven left known counts size old new received
  filled_alone size old new received filled has =
      (new, received, filled, subst (λ b. IsGivenAfterBy b received size new new received) (sym has) (refl, refl))
