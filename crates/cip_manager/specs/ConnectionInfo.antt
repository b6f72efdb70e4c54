-- An open connection, as callers see it (Volume 1, Connection Manager).
use Rattle.cip_manager.specs.declared.connection.Connection.{Connection}
use Rattle.cip_manager.specs.declared.connection.ConnectionInfo.{ConnectionInfo}

-- Its O->T ID, the session that opened it, and its deadline.
abbrev pub connection_info : Connection → ConnectionInfo
connection_info connection = record {
  id = connection.o_to_t_id;
  session = connection.session;
  deadline = connection.deadline;
}
