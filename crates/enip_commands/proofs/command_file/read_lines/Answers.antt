use Rattle.std.proofs.Common.{◌≡◌, refl, sym, ap, ◌∙◌, rules, List, ℕ, Option}
use Rattle.cip_commander.specs.CommanderRule.{commander_at}
use Rattle.enip_commands.specs.CommandFiles.{bytes_in}
use Rattle.enip_commands.proofs.CommandFileLemmas.{two_lines, three_lines, four_lines, whole_text, no_more, lacks_embedded, lacks_allowed, commander_kept, is_nothing, is_something}
use Rattle.enip_commands.proofs.command_file.read_lines.Goals as goal

pub returns-in_default-clause-refused : goal.returns-in_default-clause-refused
returns-in_default-clause-refused c = c.in_default.ensures.lacking refl

pub returns-in_default-read_originator-clause-refused : goal.returns-in_default-read_originator-clause-refused
returns-in_default-read_originator-clause-refused c =
    (c.in-Some.lines.now, c.in-Some.ensures.read, c.in_default-read_originator.ensures.lacking refl)

pub returns-in_default-read_life-clause-refused : goal.returns-in_default-read_life-clause-refused
returns-in_default-read_life-clause-refused c = (
  c.in-Some-read_originator.originator,
  (
    c.in-Some-read_originator.lines.now,
    (
      c.in-Some-read_originator.ensures.fits,
      two_lines _ _ _ _ c.in-Some.ensures.read c.in-Some-read_originator.ensures.read,
      c.in_default-read_life.ensures.lacking refl,
    ),
  ),
)

pub returns-in_default-read_number-clause-refused : goal.returns-in_default-read_number-clause-refused
returns-in_default-read_number-clause-refused c = (
  c.in-Some-read_originator.originator,
  (
    c.in-Some-read_life.life,
    (
      c.in-Some-read_life.lines.now,
      (
        c.in-Some-read_originator.ensures.fits,
        c.in-Some-read_life.ensures.fits,
        three_lines _ _ _ _ _ _ c.in-Some.ensures.read c.in-Some-read_originator.ensures.read c.in-Some-read_life.ensures.read,
        c.in_default-read_number.ensures.lacking refl,
      ),
    ),
  ),
)

pub returns-in_default-read_pending-clause-refused : goal.returns-in_default-read_pending-clause-refused
returns-in_default-read_pending-clause-refused c = (
  c.in-Some-read_originator.originator,
  (
    c.in-Some-read_life.life,
    (
      c.in-Some-read_number.last_number,
      (
        c.in-Some-read_number.lines.now,
        (
          c.in-Some-read_originator.ensures.fits,
          c.in-Some-read_life.ensures.fits,
          c.in-Some-read_number.ensures.fits,
          four_lines _ _ _ _ _ _ _ _ c.in-Some.ensures.read c.in-Some-read_originator.ensures.read c.in-Some-read_life.ensures.read c.in-Some-read_number.ensures.read,
          lacks_embedded c.in-Some-read_number.lines.now (c.in_default-read_pending.ensures.lacking refl),
        ),
      ),
    ),
  ),
)

pub returns-in_default-resume-clause-refused : goal.returns-in_default-resume-clause-refused
returns-in_default-resume-clause-refused c = (
  c.in-Some-read_originator.originator,
  (
    c.in-Some-read_life.life,
    (
      c.in-Some-read_number.last_number,
      (
        c.in-Some-read_number.lines.now,
        (
          c.in-Some-read_originator.ensures.fits,
          c.in-Some-read_life.ensures.fits,
          c.in-Some-read_number.ensures.fits,
          four_lines _ _ _ _ _ _ _ _ c.in-Some.ensures.read c.in-Some-read_originator.ensures.read c.in-Some-read_life.ensures.read c.in-Some-read_number.ensures.read,
          lacks_allowed c.in-Some-read_number.lines.now c.in-Some-read_pending.lines.now (bytes_in c.in-Some-read_pending.pending)
              c.in_default-resume.field-0 c.in-Some-read_pending.ensures.read c.in-Some-read_pending.ensures.bytes (rw c.lent-request.ensures at c.in_default-resume.ensures.refused),
        ),
      ),
    ),
  ),
)

pub returns-then-not-is_empty-clause-refused : goal.returns-then-not-is_empty-clause-refused
returns-then-not-is_empty-clause-refused c =
    let pending = bytes_in c.in-Some-read_pending.pending in
    let is : c.in-Ok.commander ≡ commander_at c.in-Some-read_life.life c.in-Some-read_originator.originator c.in-Some-read_number.last_number pending =
    rw c.lent-request.ensures at c.in-Ok.ensures.resumed in
    let allowed = rw c.lent-request.ensures at c.in-Ok.ensures.allowed in (
      c.in-Ok.commander,
      (
        c.in-Some-read_pending.lines.now,
        (
          commander_kept c.in-Ok.commander _ _ _ pending is c.in-Ok.ensures.range c.in-Some-read_pending.ensures.bytes allowed,
          whole_text _ _ _ _ _ _ _ _ _ pending c.in-Ok.commander c.in-Some.ensures.read c.in-Some-read_originator.ensures.read c.in-Some-read_life.ensures.read c.in-Some-read_number.ensures.read c.in-Some-read_pending.ensures.read is,
          is_something c.in-Some-read_pending.lines.now c.is_empty.result c.is_empty.ensures c.if-not-is_empty.true,
        ),
      ),
    )

pub returns-clause-read : goal.returns-clause-read
returns-clause-read c =
    let pending = bytes_in c.in-Some-read_pending.pending in
    let is : c.in-Ok.commander ≡ commander_at c.in-Some-read_life.life c.in-Some-read_originator.originator c.in-Some-read_number.last_number pending =
    rw c.lent-request.ensures at c.in-Ok.ensures.resumed in
    let allowed = rw c.lent-request.ensures at c.in-Ok.ensures.allowed in (
      commander_kept c.in-Ok.commander _ _ _ pending is c.in-Ok.ensures.range c.in-Some-read_pending.ensures.bytes allowed,
      no_more _ c.in-Some-read_pending.lines.now c.in-Ok.commander
          (whole_text _ _ _ _ _ _ _ _ _ pending c.in-Ok.commander c.in-Some.ensures.read c.in-Some-read_originator.ensures.read c.in-Some-read_life.ensures.read c.in-Some-read_number.ensures.read c.in-Some-read_pending.ensures.read is)
          (is_nothing c.in-Some-read_pending.lines.now c.is_empty.result c.is_empty.ensures c.if-not-is_empty.false),
    )
