use Rattle.std.proofs.Common.{◌≡◌, ◌++◌, ℕ, List, OnOk, string_bytes, subst}
use Rattle.enip_eds.specs.Params.{about_in, descriptor, fields_to_size}
use Rattle.enip_eds.proofs.param.add_first_fields.Goals as goal

pub returns : goal.returns
returns c =
    let p = c.args.param.now in
    let about = about_in p.subject in
    subst (λ (n : ℕ).
    OnOk c.write.result (string_bytes c.write.new.self ≡ string_bytes c.args.text.now ++ fields_to_size c.args.number about (descriptor p.settable) n p.size))
    c.code_of-code.ensures
    (subst (λ (l : List ℕ).
    OnOk c.write.result (string_bytes c.write.new.self ≡ string_bytes c.args.text.now ++ fields_to_size c.args.number about l c.code_of-code.result p.size))
    c.descriptor-descriptor.ensures c.write.ensures.bytes)
