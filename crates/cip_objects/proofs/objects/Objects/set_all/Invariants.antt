use Rattle.std.proofs.Common.{◌≡◌, ◌≤◌, ◌+◌, ◌-◌, ◌*◌, ◌++◌, ◌&&◌, length, true}
use Rattle.std.specs.Prelude.{is_ok}
use Rattle.cip_objects.specs.ObjectRef.{path_to}
use Rattle.cip_objects.specs.SetLists.{set_all, settings_or_none, listed}
use Rattle.cip_objects.proofs.objects.Objects.set_all.Given as goal

abbrev pub invariant-loop : goal.invariant-loop
invariant-loop l =
    let p = path_to l.fn.self.shapes l.resolved in
    let all = set_all l.fn.self p (settings_or_none (listed l.fn.self.shapes l.resolved.object l.count l.list)) in
    let left = listed l.fn.self.shapes l.resolved.object (l.count - l.counter) l.rest in
    let later = set_all l.self p (settings_or_none left) in
    record {
      tables : l.self.shapes ≡ l.fn.self.shapes;
      read : is_ok left ≡ true;
      after : later.after ≡ all.after;
      entries : l.reply.items ++ later.entries ≡ l.fn.reply.items ++ all.entries;
      complete : l.complete && later.complete ≡ all.complete;
      fits : length l.reply.items + 4 * (l.count - l.counter) ≤ l.max_size;
    }
