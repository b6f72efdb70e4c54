use Rattle.owner_port.specs.Ports.{contents_in}
use Rattle.owner_port.specs.Sessions.{AreSent, IsSetReported}
use Rattle.owner_port.proofs.sending.send_sets.Given as goal

abbrev pub invariant-loop : goal.invariant-loop
invariant-loop l =
    AreSent l.counter (IsSetReported l.types (contents_in l.adapter) l.by l.attribute) l.fn.session l.session
