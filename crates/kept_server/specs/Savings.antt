-- What the entries of a device at some time leave kept.
use Rattle.enip_keep.specs.Kept.{Kept, pairs_of}
use Rattle.kept_server.specs.declared.table.Saving.{Saving}
use Rattle.kept_server.specs.Changes.{kept_over}

-- What is kept with them, over what was found.
abbrev pub kept_by : Saving → Kept → Kept
kept_by saving found = kept_over saving.waits.items (pairs_of saving.entries.items) found
