use Rattle.std.proofs.Common.{rules}
use Rattle.cip_values.proofs.Spelling.{spelled-signed}
use Rattle.cip_values.proofs.value.Value.append.Goals as goal

pub returns-in_ok-append_number-in-Signed : goal.returns-in_ok-append_number-in-Signed
returns-in_ok-append_number-in-Signed c =
    let of_type = rw c.in-Signed.is at c.requires.value in
    let same = spelled-signed c.args.form c.in-Signed.number c.requires.sized of_type in
    rw c.in-Signed.is (search (rules, same))
