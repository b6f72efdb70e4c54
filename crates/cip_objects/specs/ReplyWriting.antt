-- A reply that is written in place, up to a maximum size.
use Rattle.std.specs.Prelude.{◌≡◌, ℕ, ◌≤◌, ◌<◌, List, length, Result, Ok, Err}
use Rattle.cip_objects.specs.declared.status.Refusal.{Refusal}
use Rattle.cip_objects.specs.declared.status.Refusal.TheVariants.{ReplyDataTooLarge}

-- The bytes were written, and there are at most `max_size` of them. Otherwise "reply data too large" was returned.
abbrev pub Writes : {A : Type 0} → ℕ → List ℕ → Result A Refusal → List ℕ → Type 0
Writes max_size text (Ok x) new = (length text ≤ max_size) × (new ≡ text)
Writes max_size text (Err s) new = (max_size < length text) × (s ≡ ReplyDataTooLarge)
