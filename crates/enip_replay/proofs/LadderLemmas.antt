use Rattle.std.proofs.Common.{ℕ, List, [], ◌++◌, Option, Result, Ok, Err, OnOk}
use Rattle.std.proofs.KnownBytes.{Appends-trans}
use Rattle.std.specs.Io.KnownBytes.{Appends}
use Rattle.enip_faults.specs.declared.fault.ProgramFault.{ProgramFault}
use Rattle.enip_replay.specs.Drawing.{Grows}

pub grown-more : (a b c : Option (List ℕ)) → Grows a b → Grows b c → Grows a c
grown-more a b c first second = (first.0 ++ second.0, Appends-trans a b c first.0 second.0 first.1 second.1)

pub grown-line : (a b : Option (List ℕ)) (printed : List ℕ) → Appends a b printed → Grows a b
grown-line a b printed appended = (printed, appended)

pub grown-if : (a b c : Option (List ℕ)) (r : Result (Unit {0}) ProgramFault) → Grows a b → OnOk r (Grows b c) → OnOk r (Grows a c)
grown-if a b c (Ok done) first second = grown-more a b c first second
grown-if a b c (Err fault) first second = tt
