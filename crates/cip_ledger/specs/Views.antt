-- What a contract sees of a command and of a request to the ledger.
use Rattle.cip_message.specs.LedgerCommand as commands
use Rattle.cip_ledger.specs.Requests as requests
use Rattle.cip_ledger.specs.declared.request.Command.{Command}
use Rattle.cip_ledger.specs.declared.request.LedgerRequest.{LedgerRequest}

abbrev pub command_in : Command → commands.Command
command_in command = record {
  life = command.life;
  originator = command.originator;
  number = command.number;
  request = command.request.now;
}

abbrev pub request_in : LedgerRequest → requests.LedgerRequest
request_in request = record {
  service = request.service;
  instance = request.instance;
  attribute = request.attribute;
  «data» = request.data.now;
}
