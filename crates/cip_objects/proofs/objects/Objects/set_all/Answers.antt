use Rattle.std.proofs.Common.{◌≡◌, ◌+◌, ◌-◌, ◌++◌, ◌∷◌, ◌&&◌, ◌∙◌, suc, Bool, length, true, false, Ok, sym, ap, arith, append_assoc}
use Rattle.std.proofs.lemmas.List.{length-append}
use Rattle.std.specs.Prelude.{is_ok}
use Rattle.cip_bytes.specs.Numbers.{le}
use Rattle.cip_objects.specs.ObjectRef.{class_at, instance_at, path_to}
use Rattle.cip_objects.specs.SetLists.{first_setting, first_seen, settings_of, settings_or_none, listed, set_one, contents_after, set_status, set_all}
use Rattle.cip_objects.proofs.ListSets.{fronted, after_tables}
use Rattle.cip_objects.proofs.objects.Objects.set_all.Goals as goal
use Rattle.cip_objects.proofs.objects.Objects.set_all.Goals.{then-complete, else-complete}

kept : (a t n r x w : Bool) → x ≡ t && r → a ≡ true → n ≡ t → a && x ≡ w → n && r ≡ w
kept a t n r x w e f g h = ap (λ b. b && r) g ∙ sym e ∙ sym (ap (λ b. b && x) f) ∙ h

lost : (a n r x w : Bool) → a ≡ false → n ≡ a → a && x ≡ w → n && r ≡ w
lost a n r x w f g h = ap (λ b. b && r) (g ∙ f) ∙ sym (ap (λ b. b && x) f) ∙ h

pub loop-preserved : goal.loop-preserved
loop-preserved c =
    let l = c.loop in
    let m = l.self in
    let shapes = c.args.self.now.shapes in
    let object = c.args.resolved.object in
    let class = class_at shapes object in
    let instance = instance_at shapes object in
    let p = path_to shapes c.args.resolved in
    let n = c.args.count - (l.counter + 1) in
    let first = first_seen c.in-Ok.setting in
    let more : c.args.count - l.counter ≡ suc n = omega (arith, c.loop-test.true) in
    let tables = l.invariant.tables in
    let found : first_setting shapes class instance l.rest.now ≡ Ok first =
    ap (λ s. first_setting s (class_at s object) (instance_at s object) l.rest.now) (sym tables) ∙ sym c.in-Ok.ensures in
    let read : is_ok (settings_of shapes class instance (suc n) l.rest.now) ≡ true =
    ap (λ k. is_ok (settings_of shapes class instance k l.rest.now)) (sym more) ∙ l.invariant.read in
    let f = fronted shapes class instance n l.rest.now first read found in
    let later = settings_or_none (settings_of shapes class instance n first.rest) in
    let whole : settings_or_none (listed shapes object (c.args.count - l.counter) l.rest.now) ≡ first.setting ∷ later =
    ap (λ k. settings_or_none (settings_of shapes class instance k l.rest.now)) more ∙ f.settings in
    let r = set_one m p first.setting in
    let state : c.set_one-done.new.self ≡ contents_after m r =
    c.set_one-done.ensures.state ∙ ap (λ s. contents_after m (set_one m (path_to s c.args.resolved) first.setting)) tables in
    let entry = le 2 first.setting.attribute ++ le 2 (set_status r) in
    let text : c.set_one-done.new.reply.items ≡ l.reply.items ++ entry =
    c.set_one-done.ensures.text
    ∙ ap (λ s. l.reply.items ++ (le 2 first.setting.attribute ++ le 2 (set_status (set_one m (path_to s c.args.resolved) first.setting)))) tables in
    let done : c.set_one-done.result ≡ is_ok r =
    c.set_one-done.ensures.done ∙ ap (λ s. is_ok (set_one m (path_to s c.args.resolved) first.setting)) tables in
    let now = set_all (contents_after m r) p later in
    let size : length c.set_one-done.new.reply.items ≡ length l.reply.items + 4 =
    ap length text ∙ length-append l.reply.items entry in
    record {
      tables = ap (λ k. k.shapes) state ∙ after_tables m p first.setting r (λ i. r) ∙ tables;
      read = f.read;
      after = ap (λ k. (set_all k p later).after) state ∙ sym (ap (λ ss. (set_all m p ss).after) whole) ∙ l.invariant.after;
      entries = ap (λ k. c.set_one-done.new.reply.items ++ (set_all k p later).entries) state
          ∙ ap (λ x. x ++ now.entries) text
          ∙ append_assoc l.reply.items entry now.entries
          ∙ sym (ap (λ ss. l.reply.items ++ (set_all m p ss).entries) whole)
          ∙ l.invariant.entries;
      complete = ap (λ k. c.if-complete.complete && (set_all k p later).complete) state
          ∙ elim c.if-complete.branch [
            | then-complete w ↦ kept _ _ _ _ _ _ (ap (λ ss. (set_all m p ss).complete) whole) w.if-complete.true (w.complete-is ∙ done) l.invariant.complete
            | else-complete w ↦ lost _ _ _ _ _ w.if-complete.false w.complete-is l.invariant.complete
          ];
      fits = omega (arith, size, more, l.invariant.fits);
    }
