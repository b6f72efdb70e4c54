use Rattle.std.proofs.Common.{subst}
use Rattle.memchr.specs.Find.{FindsNeedle}
use Rattle.enip_keep_sqlite.proofs.file.names_table.Goals as goal

pub returns : goal.returns
returns c = (
  c.find.result,
  subst (λ text. FindsNeedle c.args.page.now text 0 c.find.result) c.as_bytes.ensures.value c.find.ensures,
  c.is_some.ensures,
)
