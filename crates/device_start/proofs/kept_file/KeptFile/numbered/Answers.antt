use Rattle.device_start.proofs.kept_file.KeptFile.numbered.Goals as goal

pub compare-requires : goal.compare-requires
compare-requires g c = λ sure. ((c.in-Ok.ensures.kept sure).0, c.in-Ok.ensures.loaded sure)
