use Rattle.std.proofs.Common.{◌+◌, ◌<◌, length, sym, ap, ◌∙◌, arith}
use Rattle.std.specs.List.{slice_split}
use Rattle.cip_bytes.proofs.Bytes.{rest_slice}
use Rattle.cip_route.specs.Route.{with_texts}
use Rattle.cip_route.proofs.Routes.{is_byte, adds_last, adds_first, fails_first}
use Rattle.cip_route.proofs.route.Route.+add_all.Goals as goal

pub returns-then-end-text : goal.returns-then-end-text
returns-then-end-text t c =
    adds_last c.args.self.now c.args.text.now _ c.add.ensures (sym c.index_of-end.ensures.index ∙ c.if-end-text.true)

pub returns-in-Ok : goal.returns-in-Ok
returns-in-Ok t c =
    let end = c.index_of-end.result in
    let text = c.args.text.now in
    let below : c.index_of-end.result < length c.args.text.now = omega (arith, c.index_of-end.ensures.within, c.if-end-text.false) in
    c.add_all.ensures
    ∙ ap (λ bytes. with_texts c.add-2.new.self (slice_split (is_byte 44) bytes)) (rest_slice (end + 1) text)
    ∙ sym (adds_first c.args.self.now text c.add-2.new.self end c.in-Ok.ensures c.index_of-end.ensures.index below)

pub returns-in-Err : goal.returns-in-Err
returns-in-Err t c =
    let end = c.index_of-end.result in
    let text = c.args.text.now in
    let below : c.index_of-end.result < length c.args.text.now = omega (arith, c.index_of-end.ensures.within, c.if-end-text.false) in
    sym (fails_first c.args.self.now text c.in-Err.why end c.in-Err.ensures c.index_of-end.ensures.index below)
