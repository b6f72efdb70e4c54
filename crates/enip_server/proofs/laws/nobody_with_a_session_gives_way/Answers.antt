use Rattle.enip_server.proofs.EvictionLemmas.{law_session, law_recent, law_room_session, law_room_recent}
use Rattle.enip_server.proofs.laws.nobody_with_a_session_gives_way.Goals as goal

pub returns-clause-session : goal.returns-clause-session
returns-clause-session g c = law_session

pub returns-clause-recent : goal.returns-clause-recent
returns-clause-recent g c = law_recent

pub returns-clause-room_session : goal.returns-clause-room_session
returns-clause-room_session g c = law_room_session

pub returns-clause-room_recent : goal.returns-clause-room_recent
returns-clause-room_recent g c = law_room_recent
