use Rattle.std.proofs.Common.{◌≡◌, Err, rules, ap, sym, ◌∙◌}
use Rattle.cip_manager.specs.Check.{first_failure}
use Rattle.cip_manager.specs.Manager.{ManagerState}
use Rattle.cip_manager.specs.Opening.{path_checks}
use Rattle.cip_manager.proofs.CheckLemmas.{path-refuses, fields-refuse}
use Rattle.cip_manager.proofs.manager.Manager.check.Goals as goal

pub returns-in_err-check_path-clause-check : goal.returns-in_err-check_path-clause-check
returns-in_err-check_path-clause-check c =
    let told : c.from_residual.result ≡ Err c.in_err-check_path.field-0.0 = search rules in
    let path = ap (λ (manager : ManagerState). first_failure (path_checks manager.device c.args.opening.now)) (sym c.self.view_is) ∙ sym c.check_path.ensures ∙ c.in_err-check_path.was in
    told ∙ sym (path-refuses c.args.self.now c.args.opener.group c.args.opening.now c.in_err-check_path.field-0.0 path)

pub returns-in_err-check_fields-clause-check : goal.returns-in_err-check_fields-clause-check
returns-in_err-check_fields-clause-check c =
    let told : c.from_residual-in_err-check_fields.result ≡ Err c.in_err-check_fields.field-0.0 = search rules in
    let path = ap (λ (manager : ManagerState). first_failure (path_checks manager.device c.args.opening.now)) (sym c.self.view_is) ∙ sym c.check_path.ensures ∙ c.in_ok-check_path.was in
    told ∙ sym (fields-refuse c.args.self.now c.args.opener.group c.args.opening.now c.in_err-check_fields.field-0.0 path (sym c.check_fields.ensures.check ∙ c.in_err-check_fields.was))
