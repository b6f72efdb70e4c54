-- One stream of several is replaced.
use Rattle.std.proofs.Common.{◌≡◌, ◌≢◌, ◌⊎◌, ℕ, inl, inr, Option, Some, None, List, ◌++◌, refl, ap, sym, ◌∙◌, subst}
use Rattle.std.proofs.lemmas.Bool.{cases_eq}
use Rattle.enip_adapter.specs.Calls.{AdapterState, Call, after_call}
use Rattle.enip_adapter.specs.Runs.{IsForOther}
use Rattle.enip_adapter.proofs.ListLemmas.{first_with-set, first_with-changed}
use Rattle.enip_reconnect.specs.World.{Stream, stream_with, with_stream, appended}
use Rattle.enip_reconnect.proofs.Flights.{carries-other}
use Rattle.enip_reconnect.proofs.Steps.{stream-number}
use Rattle.enip_reconnect.proofs.Tracking.{Flight, Flies, IsFlying, AreFlying}

pub other-found : (streams : List Stream) (new : Stream) (peer : ℕ) → peer ≢ new.peer →
    stream_with peer (with_stream new streams) ≡ stream_with peer streams
other-found streams new peer other =
    first_with-changed (λ (s : Stream). s.peer) peer new.peer new streams refl (λ same. other (sym same))

pub new-found : (streams : List Stream) (old new : Stream) → stream_with new.peer streams ≡ Some old →
    stream_with new.peer (with_stream new streams) ≡ Some new
new-found streams old new found = first_with-set (λ (s : Stream). s.peer) new.peer old new streams found refl

-- What is on its way afterwards: on all streams, and on the new one.
pub record IsReplaced (own : ℕ) (a : AdapterState) (sent : List (ℕ × List ℕ)) (streams : List Stream) (peer : ℕ) (flight : Flight)
    : Type 0 where
  pub all : AreFlying own a sent streams
  pub this : (s : Stream) → stream_with peer streams ≡ Some s → Flies own a sent s flight

-- At each other stream something is on its way.
abbrev pub OthersFly : ℕ → AdapterState → List (ℕ × List ℕ) → List Stream → ℕ → Type 0
OthersFly own a sent streams peer =
    (q : ℕ) (s : Stream) → stream_with q streams ≡ Some s → q ≢ peer → IsFlying own a sent s

pub replaced : (own : ℕ) (a : AdapterState) (sent : List (ℕ × List ℕ)) (streams : List Stream) (old new : Stream) (flight : Flight) →
    stream_with new.peer streams ≡ Some old → OthersFly own a sent streams new.peer → Flies own a sent new flight →
    IsReplaced own a sent (with_stream new streams) new.peer flight
replaced own a sent streams old new flight found others flies = record {
  all = λ q s at. by q s at (cases_eq q new.peer);
  this = λ s at. (let same = is_new s at in subst (λ x. Flies own a sent x flight) same flies);
}
  where
    is_new : (s : Stream) → stream_with new.peer (with_stream new streams) ≡ Some s → new ≡ s
    is_new s at =
        let both : Some new ≡ Some s = sym (new-found streams old new found) ∙ at in
        cc

    by : (q : ℕ) (s : Stream) → stream_with q (with_stream new streams) ≡ Some s → (q ≡ new.peer) ⊎ (q ≢ new.peer) →
        IsFlying own a sent s
    by q s at (inl same) =
        let it : new ≡ s = is_new s (ap (λ n. stream_with n (with_stream new streams)) (sym same) ∙ at) in
        subst (IsFlying own a sent) it (record { flight = flight; carries = flies })
    by q s at (inr other) = others q s (sym (other-found streams new q other) ∙ at) other

-- A call for one stream leaves the others.
pub others-after : (own : ℕ) (a : AdapterState) (call : Call) (sent : List (ℕ × List ℕ)) (streams : List Stream) (peer : ℕ) →
    ((q : ℕ) → q ≢ peer → IsForOther q call) → AreFlying own a sent streams → OthersFly own (after_call a call) sent streams peer
others-after own a call sent streams peer others flying q s found other =
    let is : IsFlying own a sent s = flying q s found in
    let number : s.peer ≡ q = stream-number streams q s found in
    record {
      flight = is.flight;
      carries =
          carries-other own a call sent s.peer s.in_flight is.flight (others s.peer (λ same. other (sym number ∙ same))) is.carries;
    }

-- Bytes are sent on the stream with this handle, if there is one.
pub appends : (own : ℕ) (a : AdapterState) (sent : List (ℕ × List ℕ)) (streams : List Stream) (peer : ℕ) (bytes : List ℕ)
    (flight : Flight) (found : Option Stream) → stream_with peer streams ≡ found → AreFlying own a sent streams →
    ((s : Stream) → stream_with peer streams ≡ Some s →
    Flies own a sent (record s { in_flight = s.in_flight ++ bytes }) flight) →
    IsReplaced own a sent (appended bytes streams found) peer flight
appends own a sent streams peer bytes flight None none flying flies = record {
  all = flying;
  this = λ s at. (let bad : Some s ≡ None = sym at ∙ none in absurd (cc));
}
appends own a sent streams peer bytes flight (Some s) found flying flies =
    let new : Stream = record s { in_flight = s.in_flight ++ bytes } in
    let number : s.peer ≡ peer = stream-number streams peer s found in
    subst (λ n. IsReplaced own a sent (with_stream new streams) n flight) number
    (replaced own a sent streams s new flight (ap (λ n. stream_with n streams) number ∙ found)
    (λ q x at other. flying q x at) (flies s found))
