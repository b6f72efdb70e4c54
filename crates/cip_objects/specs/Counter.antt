-- The counter of the code, as one of the specification.
use Rattle.cip_objects.specs.declared.counter.Counter.{Counter}
use Rattle.cip_objects.specs.Entries.{CounterValues}

abbrev pub counter_values : Counter → CounterValues
counter_values c = record { enabled = c.enabled; value = c.value; limit = c.limit; additions = c.additions }
