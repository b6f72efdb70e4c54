-- An adapter with a queue is that of a configuration with a queued service.
use Rattle.std.proofs.Common.{◌≡◌, ℕ, List, true, false, Option, Some, None, is_some, option_map, Result, Ok, Err, IfErr, refl, sym, ap, ◌∙◌}
use Rattle.std.proofs.lemmas.Bool.{false≢true}
use Rattle.std.specs.Result.{IsErr, IsErrAnd}
use Rattle.enip_adapter.specs.Calls.{AdapterState}
use Rattle.config_refusal.specs.declared.fault.LoadFault.{LoadFault}
use Rattle.config_refusal.specs.declared.fault.LoadFault.TheVariants.{Refused, Memory}
use Rattle.configured_adapter.specs.Configured.{IsAdapterOf, queue_from}
use Rattle.enip_config.specs.Commands.{queue_limit}
use Rattle.enip_config.specs.Documents.{IsFaultOf}
use Rattle.enip_c.specs.declared.make_fault.MakeFault.{MakeFault}
use Rattle.enip_c.specs.AdapterCalls.{IsMakeFault, IsQueuedText, make_fault}

-- what is lent is there exactly if its value is
pub same_some : {A B : Type 0} (f : A → B) (found : Option A) (value : Option B) → option_map f found ≡ value
    → is_some value ≡ is_some found
same_some f None value is = ap is_some (sym is)
same_some f (Some a) value is = ap is_some (sym is)

pub none_if : {A : Type 0} (value : Option A) → is_some value ≡ false → value ≡ None
none_if None none = refl
none_if (Some a) none = absurd (false≢true (sym none))

of_limit : (limit : Option ℕ) → is_some (queue_from limit) ≡ true → is_some limit ≡ true
of_limit None some = absurd (false≢true some)
of_limit (Some n) some = refl

pub queued_text : (text : List ℕ) (a : AdapterState) → IsAdapterOf text a
    → is_some a.state.shared.objects.router.queue ≡ true → IsQueuedText text
queued_text text a is some = (
  is.0,
  (is.1.0, of_limit (queue_limit is.0) (ap (λ x. is_some x.state.shared.objects.router.queue) (sym is.1.1) ∙ some)),
)

-- a configuration that is refused, or memory
of_load_fault : (text : List ℕ) (fault : LoadFault) → IsFaultOf text fault → IsMakeFault text (make_fault fault)
of_load_fault text (Refused refusal) so = so
of_load_fault text Memory so = tt

pub make_fails : {T : Type 0} (text : List ℕ) (fault : LoadFault) (r : Result T MakeFault)
    → IsErr r × IsErrAnd r (λ f. f ≡ make_fault fault) → IsFaultOf text fault → IfErr r (IsMakeFault text)
make_fails text fault (Ok x) gives so = tt
make_fails text fault (Err f) gives so = rw gives.1 (of_load_fault text fault so)
