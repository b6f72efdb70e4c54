use Rattle.cip_values.proofs.OneSpelling.{form_sized, one_way, is_read}
use Rattle.cip_values.specs.Types.{form_of}
use Rattle.cip_values.proofs.laws.one_reading.Goals as goal

pub returns-clause-same : goal.returns-clause-same
returns-clause-same c value_type bytes values others h k =
    one_way (form_of value_type.element) bytes values others (form_sized value_type.element) h.begins k.begins

pub returns-clause-read : goal.returns-clause-read
returns-clause-read c value_type bytes values fault h refused =
    is_read value_type.is_list (form_of value_type.element) bytes values fault (form_sized value_type.element) h.begins h.one refused
