use Rattle.std.proofs.Common.{rules, ◌≡◌, ◌<◌, ◌≤◌, length, take, drop, ◌++◌, sym, subst}
use Rattle.std.specs.Io.KnownBytes.{Consumes, prepend_known}
use Rattle.enip_server.proofs.FrameLemmas.{front_left, take_copied}
use Rattle.enip_server.proofs.frame_wire.FrameWire.give.Goals as goal

pub returns-clause-read : goal.returns-clause-read
returns-clause-read g c =
    let n = c.min-size.result in
    let held = c.args.self.now.held in
    let copied = c.copy_from_slice.new.self in
    let into = copied ++ drop n c.args.into.now in
    let some : 0 < n = search rules in
    let few : n ≤ length into = search rules in
    let is : copied ≡ take n held = search rules in
    let size : length copied ≡ n = search rules in
    let same : take n into ≡ take n held = take_copied copied (drop n c.args.into.now) held n is size in
    λ left. (
      some,
      few,
      subst (λ h. Consumes (prepend_known held left) (prepend_known h left) (take n into)) (sym c.take_front.ensures.held)
          (front_left held into n left same),
    )
