use Rattle.cip_objects.specs.ExecutionLaws.{exec_begins, exec_within}
use Rattle.cip_objects.proofs.laws.replies_are_well_formed.Goals as goal

pub returns : goal.returns
returns c = record {
  begins = λ m max_size text h g. exec_begins m max_size text;
  within = λ m max_size text h g. exec_within m max_size text h;
}
