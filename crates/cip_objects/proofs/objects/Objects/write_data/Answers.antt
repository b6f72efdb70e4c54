use Rattle.std.proofs.Common.{sym, ap, ◌∙◌, is_some, unwrap_or, length, ◌+◌}
use Rattle.cip_objects.specs.Entries.{shape_of}
use Rattle.cip_objects.proofs.DeviceLemmas.{write_nowhere, write_past, write_within, inside}
use Rattle.cip_objects.proofs.objects.Objects.write_data.Goals as goal

pub returns-in_default-clause-written : goal.returns-in_default-clause-written
returns-in_default-clause-written c =
    let m = c.args.self.now in
    sym (ap (λ o. unwrap_or o m) (write_nowhere m c.args.instance c.args.offset c.args.bytes.now c.in_default.ensures))

pub returns-in_default-clause-reported : goal.returns-in_default-clause-reported
returns-in_default-clause-reported c =
    sym (ap is_some (write_nowhere c.args.self.now c.args.instance c.args.offset c.args.bytes.now c.in_default.ensures))

pub returns-then-not-ends_within-clause-written : goal.returns-then-not-ends_within-clause-written
returns-then-not-ends_within-clause-written c =
    let m = c.args.self.now in
    let b = c.assembly.result.now in
    sym (ap (λ o. unwrap_or o m) (write_past m c.args.instance c.args.offset c.in-Some.assembly_index c.args.bytes.now (shape_of b)
    c.in-Some.ensures c.assembly.ensures.shape (inside c.args.self.now c.in-Some.assembly_index (c.args.offset + length c.args.bytes.now) b.content _ _
    c.assembly.ensures.content c.size.ensures.content (sym c.ends_within.ensures ∙ c.if-not-ends_within.true))))

pub returns-then-not-ends_within-clause-reported : goal.returns-then-not-ends_within-clause-reported
returns-then-not-ends_within-clause-reported c =
    let m = c.args.self.now in
    let b = c.assembly.result.now in
    sym (ap is_some (write_past m c.args.instance c.args.offset c.in-Some.assembly_index c.args.bytes.now (shape_of b)
    c.in-Some.ensures c.assembly.ensures.shape (inside c.args.self.now c.in-Some.assembly_index (c.args.offset + length c.args.bytes.now) b.content _ _
    c.assembly.ensures.content c.size.ensures.content (sym c.ends_within.ensures ∙ c.if-not-ends_within.true))))

pub returns-clause-written : goal.returns-clause-written
returns-clause-written c =
    let m = c.args.self.now in
    let b = c.assembly.result.now in
    c.write_content.ensures
    ∙ sym (ap (λ o. unwrap_or o m) (write_within m c.args.instance c.args.offset c.in-Some.assembly_index c.args.bytes.now (shape_of b)
    c.in-Some.ensures c.assembly.ensures.shape (inside c.args.self.now c.in-Some.assembly_index (c.args.offset + length c.args.bytes.now) b.content _ _
    c.assembly.ensures.content c.size.ensures.content (sym c.ends_within.ensures ∙ c.if-not-ends_within.false))))

pub returns-clause-reported : goal.returns-clause-reported
returns-clause-reported c =
    let m = c.args.self.now in
    let b = c.assembly.result.now in
    sym (ap is_some (write_within m c.args.instance c.args.offset c.in-Some.assembly_index c.args.bytes.now (shape_of b)
    c.in-Some.ensures c.assembly.ensures.shape (inside c.args.self.now c.in-Some.assembly_index (c.args.offset + length c.args.bytes.now) b.content _ _
    c.assembly.ensures.content c.size.ensures.content (sym c.ends_within.ensures ∙ c.if-not-ends_within.false))))
