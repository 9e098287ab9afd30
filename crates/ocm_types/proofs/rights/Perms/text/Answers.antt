use Rattle.std.proofs.Common.{ap, ◌∙◌, Some}
use Rattle.std.proofs.lemmas.Result.{IfOk-weaker}
use Rattle.ocm_types.specs.Rights.{perms_of}
use Rattle.ocm_types.proofs.Permissions.{perms_of-text}
use Rattle.ocm_types.proofs.rights.Perms.text.Goals as goal

pub returns-clause-read_back : goal.returns-clause-read_back
returns-clause-read_back c =
    let back = perms_of-text c.self.inside.rights c.self.invariant ∙ ap Some c.self.view_is in
    IfOk-weaker c.of.result _ _ (λ text same. ap perms_of (same ∙ c.words.ensures) ∙ back) c.of.ensures
