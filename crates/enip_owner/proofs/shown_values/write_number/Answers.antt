use Rattle.std.proofs.Common.{rules, sym, refl, inr, decimal, ◌∙◌, Some, None}
use Rattle.std.specs.Fmt.{signed_decimal}
use Rattle.std.proofs.lemmas.Option.{none-some}
use Rattle.std.proofs.lemmas.Int.{to_z-of_z}
use Rattle.std.specs.Int.{w64}
use Rattle.json.specs.Json as json
use Rattle.json.specs.Token as token
use Rattle.serde_json.specs.Data as scalar
use Rattle.serde_json.specs.View.{number_view}
use Rattle.enip_owner.specs.Events.{IsNumberJson}
use Rattle.enip_owner.proofs.ShownLemmas.{adds_token, adds_float, unsigned_from, negative_from, float_from}
use Rattle.enip_owner.proofs.shown_values.write_number.Goals as goal
use Rattle.enip_owner.proofs.shown_values.write_number.Goals.{in_default-as_f64-via-in-Some-as_f64+else-is_finite, in_default-as_f64-via-in_default-as_f64}

pub returns-in-Some : goal.returns-in-Some
returns-in-Some c =
    rw (unsigned_from (number_view c.args.number) c.in-Some.number c.in-Some.ensures)
    (adds_token c.u64.result c.args.writer.now c.u64.new.self (token.number (decimal c.in-Some.number))
    (IsNumberJson (scalar.unsigned c.in-Some.number)) (json.number (decimal c.in-Some.number)) refl refl c.u64.ensures)

pub returns-in-Some-as_i64 : goal.returns-in-Some-as_i64
returns-in-Some-as_i64 c =
    rw (negative_from (number_view c.args.number) c.in-Some-as_i64.number (sym c.in_default.is ∙ c.as_u64.ensures) c.in-Some-as_i64.ensures)
    (adds_token c.i64.result c.args.writer.now c.i64.new.self (token.number (signed_decimal c.in-Some-as_i64.number))
    (IsNumberJson (scalar.negative c.in-Some-as_i64.number)) (json.number (signed_decimal c.in-Some-as_i64.number)) refl refl
    (rw (to_z-of_z w64 c.in-Some-as_i64.number (search rules)) at c.i64.ensures))

pub returns-in-Some-as_f64 : goal.returns-in-Some-as_f64
returns-in-Some-as_f64 c =
    rw (float_from (number_view c.args.number) c.in-Some-as_f64.number (sym c.in_default.is ∙ c.as_u64.ensures)
    (sym c.in_default-as_i64.is ∙ c.as_i64.ensures) c.in-Some-as_f64.ensures)
    (adds_float c.float.result c.args.writer.now c.float.new.self c.in-Some-as_f64.number c.float.ensures.ok c.float.ensures.room.1.0)

pub returns-in_default-as_f64 : goal.returns-in_default-as_f64
returns-in_default-as_f64 c =
    elim c.in_default-as_f64.branch [
      | in_default-as_f64-via-in-Some-as_f64+else-is_finite w ↦
          rw (float_from (number_view c.args.number) w.in-Some-as_f64.number (sym c.in_default.is ∙ c.as_u64.ensures)
          (sym c.in_default-as_i64.is ∙ c.as_i64.ensures) w.in-Some-as_f64.ensures)
          (adds_token c.null.result c.args.writer.now c.null.new.self token.null (IsNumberJson (scalar.float w.in-Some-as_f64.number)) json.null refl
          (inr (refl, sym w.is_finite.ensures.value ∙ w.if-is_finite.false)) c.null.ensures)
      | in_default-as_f64-via-in_default-as_f64 w ↦ absurd (none-some _ (sym w.in_default-as_f64.is ∙ c.as_f64.ensures))
    ]
