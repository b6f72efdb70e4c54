use Rattle.std.proofs.Common.{refl, sym, ap, subst, string_bytes}
use Rattle.json.specs.Json as json
use Rattle.json.specs.Token as token
use Rattle.serde_json.specs.Data as scalar
use Rattle.serde_json.specs.View.{view}
use Rattle.enip_owner.specs.Events.{IsScalarJson}
use Rattle.enip_owner.proofs.ShownLemmas.{adds_token, none_shown, view-Truth, view-Text}
use Rattle.enip_owner.proofs.shown_values.write_scalar.Goals as goal

pub returns-in-Null : goal.returns-in-Null
returns-in-Null c =
    adds_token c.null.result c.args.writer.now c.null.new.self token.null (IsScalarJson (view c.args.scalar.now)) json.null refl
    (none_shown c.args.scalar.now c.in-Null.is) c.null.ensures

pub returns-in-Bool : goal.returns-in-Bool
returns-in-Bool c =
    rw (c.in-Bool.is, view-Truth c.in-Bool.truth)
    (adds_token c.boolean.result c.args.writer.now c.boolean.new.self (token.boolean c.in-Bool.truth) (IsScalarJson (scalar.boolean c.in-Bool.truth))
    (json.boolean c.in-Bool.truth) refl refl c.boolean.ensures)

pub returns-in-String : goal.returns-in-String
returns-in-String c =
    rw (c.in-String.is, view-Text c.in-String.text)
    (adds_token c.string.result c.args.writer.now c.string.new.self (token.string c.as_str.result.now)
    (IsScalarJson (scalar.string (string_bytes c.in-String.text))) (json.string c.as_str.result.now) refl (ap json.string c.as_str.ensures.value)
    c.string.ensures)
