use Rattle.cip_message.proofs.Keys.{accepted_iff, vendor_refused, type_refused, revision_refused}
use Rattle.cip_message.proofs.key.Device.accepts.Goals as goal

pub returns-clause-accepted : goal.returns-clause-accepted
returns-clause-accepted c = rw c.refusal_of.ensures (accepted_iff c.args.self.now c.args.key.now)

pub returns-clause-vendor : goal.returns-clause-vendor
returns-clause-vendor c = rw c.refusal_of.ensures (vendor_refused c.args.self.now c.args.key.now)

pub returns-clause-device_type : goal.returns-clause-device_type
returns-clause-device_type c = rw c.refusal_of.ensures (type_refused c.args.self.now c.args.key.now)

pub returns-clause-revision : goal.returns-clause-revision
returns-clause-revision c = rw c.refusal_of.ensures (revision_refused c.args.self.now c.args.key.now)
