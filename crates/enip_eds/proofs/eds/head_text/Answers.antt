use Rattle.std.proofs.Common.{◌++◌, ◌∙◌, ap}
use Rattle.enip_eds.specs.Eds.{classification, file_section, icon_entries, kind_entries, product_entries}
use Rattle.enip_eds.proofs.eds.head_text.Goals as goal

pub returns : goal.returns
returns c =
    let s = c.args.source.now in
    let o = s.configuration.now.objects in
    c.in_ok-push_str.ensures.bytes
    ∙ ap (λ l. l ++ classification) (c.in_ok-add_icon.ensures
    ∙ ap (λ l. l ++ icon_entries s.icon) (c.in_ok-add_product.ensures
    ∙ ap (λ l. l ++ product_entries o) (c.in_ok-add_kind.ensures
    ∙ ap (λ l. l ++ kind_entries o) (c.in_ok-add_file.ensures ∙ ap (λ l. l ++ file_section s) c.new-text.ensures.bytes))))
