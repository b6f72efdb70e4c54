use Rattle.std.proofs.Common.{rules}
use Rattle.cip_values.proofs.Spelling.{counted_front}
use Rattle.cip_values.proofs.value.Value.read_counted.Goals as goal

pub returns-clause-read : goal.returns-clause-read
returns-clause-read c =
    rw c.counted.ensures (counted_front c.args.form c.read_uint-units.result c.args.front.now c.args.rest.now c.split_at.result.0.now
    c.split_at.result.1.now c.requires (record {
      front_fits = search rules;
      rest_fits = search rules;
      units_is = search rules;
      room = search rules;
      text_is = search rules;
      behind_is = search rules;
    }))
