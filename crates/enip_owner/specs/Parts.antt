-- The parts of a line of the device, as JSON tokens.
use Rattle.std.specs.Prelude.{◌≡◌, ◌<◌, ◌≤◌, ℕ, Bool, List, [], ◌∷◌, ◌++◌, length, decimal, Option, Some, None, Result, Ok, Err, OnOk, Vec}
use Rattle.std.specs.Net.Text.{ip_text}
use Rattle.std.specs.declared.alloc.Global.{Global}
use Rattle.std.specs.declared.net.ip_addr.IpAddr.{IpAddr}
use Rattle.hex.specs.Hex.{encode_lower}
use Rattle.json.specs.Lex.{tokens}
use Rattle.json.specs.Print.{print}
use Rattle.json.specs.Token.{Token, begin_object, end_object, begin_array, end_array, key, string, number, boolean}
use Rattle.json.specs.Written.{Written}
use Rattle.enip_owner.specs.declared.line_buffer.TheConstants.{LINE_LIMIT}
use Rattle.enip_owner.specs.declared.event_fault.EventFault.{EventFault}
use Rattle.enip_owner.specs.declared.event_fault.EventFault.TheVariants as faults
use Rattle.enip_owner.specs.declared.part.Part.{Part}
use Rattle.enip_owner.specs.declared.part.Part.TheVariants as parts

abbrev pub number_member : List ℕ → ℕ → List Token
number_member name n = key name ∷ number (decimal n) ∷ []

abbrev pub text_member : List ℕ → List ℕ → List Token
text_member name text = key name ∷ string text ∷ []

-- The tokens of a part.
abbrev pub part_tokens : Part → List Token
part_tokens parts.Open = begin_object ∷ []
part_tokens (parts.OpenAt name) = key name.now ∷ begin_object ∷ []
part_tokens parts.Close = end_object ∷ []
part_tokens (parts.ListAt name) = key name.now ∷ begin_array ∷ []
part_tokens parts.EndList = end_array ∷ []
part_tokens (parts.Number name n) = number_member name.now n
part_tokens (parts.MaybeNumber name None) = []
part_tokens (parts.MaybeNumber name (Some n)) = number_member name.now n
part_tokens (parts.Text name text) = text_member name.now text.now
part_tokens (parts.MaybeText name None) = []
part_tokens (parts.MaybeText name (Some text)) = text_member name.now text.now
part_tokens (parts.Bytes name bytes) = text_member name.now (encode_lower bytes.now)
part_tokens (parts.MaybeBytes name None) = []
part_tokens (parts.MaybeBytes name (Some bytes)) = text_member name.now (encode_lower bytes.now)
part_tokens (parts.Truth name truth) = key name.now ∷ boolean truth ∷ []
part_tokens (parts.MaybeAddress name None) = []
part_tokens (parts.MaybeAddress name (Some address)) = text_member name.now (ip_text address)

-- These tokens are written after the others, unless memory is refused.
pub record Adds {E : Type 0} (r : Result (Unit {0}) E) (old new : Written) (added : List Token) : Type 0 where
  pub ok : OnOk r (new.tokens ≡ old.tokens ++ added)
  pub before : new.before ≡ old.before

-- The text of a writer, as a line.
pub record IsLine (w : Written) (line : List ℕ) : Type 0 where
  pub text : line ≡ (w.before ++ print w.tokens) ++ 10 ∷ []
  pub short : length (w.before ++ print w.tokens) ≤ LINE_LIMIT
  pub reads_back : tokens (print w.tokens) ≡ w.tokens

abbrev pub IsLineFault : Written → EventFault → Type 0
IsLineFault w faults.TooLong = LINE_LIMIT < length (w.before ++ print w.tokens)
IsLineFault w faults.Memory = Unit {0}

abbrev pub IsLineFrom : Written → Result (Vec ℕ Global) EventFault → Type 0
IsLineFrom w (Ok line) = IsLine w line.items
IsLineFrom w (Err fault) = IsLineFault w fault
