use Rattle.cip_values.specs.Values.{value_in}
use Rattle.cip_values.proofs.OneSpelling.{front_shorter}
use Rattle.cip_values.proofs.values.read_list.Goals as goal

pub loop-rest-smaller : goal.loop-rest-smaller
loop-rest-smaller c =
    front_shorter c.args.form c.loop-rest.rest.now (value_in c.in_ok-value.value) c.in_ok-value.behind.now c.requires c.in_ok-value.ensures.read
