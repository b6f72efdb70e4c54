use Rattle.std.proofs.Common.{◌≡◌, ℕ, ◌+◌, ◌-◌, ◌≤◌, zero, suc, [], ◌++◌, refl, arith}
use Rattle.cip_objects.specs.Contents.{Contents}
use Rattle.enip_replay.specs.Replay.{assembly_printed, assemblies_printed}

-- One more instance is printed.
pub assemblies_printed-more : (contents : Contents) (instance : ℕ) → 1 ≤ instance
    → assemblies_printed contents (instance - 1) ++ assembly_printed contents instance ≡ assemblies_printed contents (instance + 1 - 1)
unfolding assemblies_printed
assemblies_printed-more contents zero from = absurd (omega (arith, from))
assemblies_printed-more contents (suc below) from =
    let here : suc below - 1 ≡ below = omega arith in
    let next : suc below + 1 - 1 ≡ suc below = omega arith in
    rw (here, next) refl

pub assemblies_printed-none : (contents : Contents) → assemblies_printed contents 0 ≡ []
unfolding assemblies_printed
assemblies_printed-none contents = refl
