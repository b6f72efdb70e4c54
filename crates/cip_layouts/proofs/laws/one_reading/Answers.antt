use Rattle.cip_layouts.proofs.OneReading.{same_values, is_read_again}
use Rattle.cip_layouts.proofs.laws.one_reading.Goals as goal

pub returns-clause-same : goal.returns-clause-same
returns-clause-same c fields bytes values others h k = same_values fields bytes values others h k

pub returns-clause-read : goal.returns-clause-read
returns-clause-read c fields bytes values fault h refused = is_read_again fields bytes values fault h refused
