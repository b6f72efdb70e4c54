use Rattle.cip_route.proofs.hop.HopView.write.Goals as goal

pub returns-then-size-eq1-clause-spelled : goal.returns-then-size-eq1-clause-spelled
returns-then-size-eq1-clause-spelled g c = record {
  port_from = c.requires.port;
  port_to = c.append_fields.ensures.port;
  link_from = c.requires.some;
  link_to = c.requires.counted;
  link = c.append_fields.ensures.bytes;
}

pub returns-else-size-eq1-clause-spelled : goal.returns-else-size-eq1-clause-spelled
returns-else-size-eq1-clause-spelled g c = record {
  port_from = c.requires.port;
  port_to = c.append_fields.ensures.port;
  link_from = c.requires.some;
  link_to = c.requires.counted;
  link = c.append_fields.ensures.bytes;
}
