-- Feeding what was read.
use Rattle.std.proofs.Common.{◌≡◌, ◌≢◌, ℕ, List, [], ◌∷◌, length, eqb, true, false, Option, Some, None, is_some}
use Rattle.std.proofs.Common.{refl, sym, ap, subst, ◌∙◌, true≢false, arith}
use Rattle.std.proofs.lemmas.Bool.{eqb-true}
use Rattle.cip_objects.specs.OwnRequests.{Asked}
use Rattle.cip_owner.specs.Replies.{Reply}
use Rattle.enip_server.specs.PeerStates.{PeerState, IsFlushed, AreFed, fed_once, owner_fed}
use Rattle.enip_server.specs.PeerStates.AreFed.{None_fed, One_more_fed}

module _ {O : Type 0} (answer : O → Asked → Option Reply) (after : O → Asked → O) (now peer : ℕ) where
  -- nothing is fed
  pub none_fed : (owner : O) (d : PeerState) → AreFed answer after now peer owner d owner d
  none_fed owner d = None_fed

  -- one more feed
  pub one_more : (to : ℕ) (first owner last : O) (old d new : PeerState) → to ≡ peer
      → AreFed answer after now peer first old owner d → d.outbox ≡ [] → d.closed ≡ None
      → IsFlushed (fed_once answer after now to owner d) new → last ≡ owner_fed answer after now to owner d
      → AreFed answer after now peer first old last new
  one_more to first owner last old d new same fed out served flushed left =
      subst (λ o. AreFed answer after now peer first old o new)
      (sym (left ∙ ap (λ p. owner_fed answer after now p owner d) same))
      (One_more_fed fed out served (subst (λ p. IsFlushed (fed_once answer after now p owner d) new) same flushed))

-- what does not exist
pub none_there : {X : Type 0} → (o : Option X) → is_some o ≡ false → o ≡ None
none_there None is = refl
none_there (Some x) is = absurd (true≢false is)

-- what exists
pub some_there : {X : Type 0} → (o : Option X) → is_some o ≡ true → o ≢ None
some_there None is none = true≢false (sym is)
some_there (Some x) is none = cc

-- bytes that wait, and none
pub some_left : (bytes : List ℕ) → eqb (length bytes) 0 ≡ false → bytes ≢ []
some_left [] is none = true≢false is
some_left (byte ∷ bytes) is none = cc

pub none_left : (bytes : List ℕ) → eqb (length bytes) 0 ≡ true → bytes ≡ []
none_left [] is = refl
none_left (byte ∷ bytes) is =
    let none : length (byte ∷ bytes) ≡ 0 = eqb-true (length (byte ∷ bytes)) 0 is in absurd (omega (arith, none))
