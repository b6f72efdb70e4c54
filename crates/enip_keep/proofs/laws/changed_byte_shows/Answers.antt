use Rattle.enip_keep.proofs.ByteLemmas.{byte_shows, round_byte_shows}
use Rattle.enip_keep.proofs.laws.changed_byte_shows.Goals as goal

pub returns-clause-device : goal.returns-clause-device
returns-clause-device c = byte_shows

pub returns-clause-round : goal.returns-clause-round
returns-clause-round c = round_byte_shows
